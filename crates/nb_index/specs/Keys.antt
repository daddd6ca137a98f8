-- Keys in a list, each with its place there as its number.
use Rattle.std.specs.Prelude.{ℕ, ◌==◌, ◌≡◌, ◌<◌, ◌≤◌, ◌&&◌, Bool, List, length, ◌⊎◌, String, string_bytes, slice_index_or}
use Rattle.std.specs.Global.{Global}
use Rattle.std.specs.List.{position_or_len}
use Rattle.std.specs.Str.{bytes_eq}

-- the number of what is asked for, and as many as there are keys where none of them is it
abbrev pub number_in : {Q K : Type 0} → (Q → K → Bool) → List K → Q → ℕ
number_in is keys q = position_or_len (is q) keys

-- a key that is there has this number
pub record IsNumber {Q K : Type 0} (is : Q → K → Bool) (keys : List K) (q : Q) (k : ℕ) : Type 0 where
  pub number : k ≡ number_in is keys q
  pub within : k < length keys

-- each key that was there has the number that it had
abbrev pub Grows : {Q K : Type 0} → (Q → K → Bool) → List K → List K → Type 0
Grows {Q} is old new =
    (q : Q) → (number_in is new q ≡ number_in is old q) ⊎ ((length old ≤ number_in is old q) × (length old ≤ number_in is new q))

-- whether a name, as its bytes, is that of a text
abbrev pub is_name : List ℕ → String Global → Bool
is_name name text = bytes_eq name (string_bytes text)

-- a place is a module and the number of a name
abbrev pub is_place : ℕ × ℕ → ℕ × ℕ → Bool
is_place p q = (p.0 == q.0) && (p.1 == q.1)

abbrev pub is_source : ℕ → ℕ → Bool
is_source from source = from == source

-- the names of all places are among this many
abbrev pub NamedBelow : ℕ → List (ℕ × ℕ) → Type 0
NamedBelow n places = (k : ℕ) (d : ℕ × ℕ) → k < length places → (slice_index_or places k d).1 < n
