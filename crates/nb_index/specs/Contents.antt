-- What an index holds: a set of triples of a module, a name and a variable, and a set of links from a number to a number.
-- A name stands here as its bytes.
use Rattle.std.specs.Prelude.{ℕ, ◌≡◌, ◌≢◌, ◌==◌, ◌&&◌, ◌||◌, not, Bool, true, false, List}
use Rattle.std.specs.Str.{bytes_eq}
use Rattle.nb_index.specs.declared.found.Found.{Found}
use Rattle.nb_index.specs.declared.found.Found.TheVariants.{Nobody, One, Many}

pub record Contents : Type 0 where
  pub triples : ℕ → List ℕ → ℕ → Bool
  pub links : ℕ → ℕ → Bool

-- whether the first three are the last three
abbrev pub is_triple : ℕ → List ℕ → ℕ → ℕ → List ℕ → ℕ → Bool
is_triple module_a name_a var_a module_b name_b var_b = ((module_a == module_b) && bytes_eq name_a name_b) && (var_a == var_b)

-- whether the first two are the last two
abbrev pub is_link : ℕ → ℕ → ℕ → ℕ → Bool
is_link from_a to_a from_b to_b = (from_a == from_b) && (to_a == to_b)

-- there is no triple and no link
pub record IsEmpty (all : Contents) : Type 0 where
  pub triples : (m : ℕ) (n : List ℕ) (v : ℕ) → all.triples m n v ≡ false
  pub links : (f t : ℕ) → all.links f t ≡ false

-- the same triples and links are there
pub record Same (old new : Contents) : Type 0 where
  pub triples : (m : ℕ) (n : List ℕ) (v : ℕ) → new.triples m n v ≡ old.triples m n v
  pub links : (f t : ℕ) → new.links f t ≡ old.links f t

-- this triple is there too
pub record Gains (module_id : ℕ) (name : List ℕ) (var : ℕ) (old new : Contents) : Type 0 where
  pub triples : (m : ℕ) (n : List ℕ) (v : ℕ) → new.triples m n v ≡ (is_triple module_id name var m n v || old.triples m n v)
  pub links : (f t : ℕ) → new.links f t ≡ old.links f t

-- this triple isn't there, and all others are as they were
pub record Loses (module_id : ℕ) (name : List ℕ) (var : ℕ) (old new : Contents) : Type 0 where
  pub triples : (m : ℕ) (n : List ℕ) (v : ℕ) → new.triples m n v ≡ (not (is_triple module_id name var m n v) && old.triples m n v)
  pub links : (f t : ℕ) → new.links f t ≡ old.links f t

-- this link is there too
pub record Links (from to : ℕ) (old new : Contents) : Type 0 where
  pub triples : (m : ℕ) (n : List ℕ) (v : ℕ) → new.triples m n v ≡ old.triples m n v
  pub links : (f t : ℕ) → new.links f t ≡ (is_link from to f t || old.links f t)

-- this link isn't there, and all others are as they were
pub record Unlinks (from to : ℕ) (old new : Contents) : Type 0 where
  pub triples : (m : ℕ) (n : List ℕ) (v : ℕ) → new.triples m n v ≡ old.triples m n v
  pub links : (f t : ℕ) → new.links f t ≡ (not (is_link from to f t) && old.links f t)

-- how many numbers there are: none, exactly this one, or two at least
abbrev pub IsFound : (ℕ → Bool) → Found → Type 0
IsFound holds Nobody = (v : ℕ) → holds v ≡ false
IsFound holds (One var) = (v : ℕ) → holds v ≡ (var == v)
IsFound holds Many = (v : ℕ) × (w : ℕ) × (v ≢ w) × (holds v ≡ true) × (holds w ≡ true)
