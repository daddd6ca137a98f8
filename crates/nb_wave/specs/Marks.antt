-- Marks of variables, by number.
use Rattle.std.specs.Prelude.{ℕ, ◌≡◌, ◌<◌, ◌≤◌, ◌⊎◌, Bool, true, false, List, length, get_or}
use Rattle.std.specs.List.{list_any}
use Rattle.nb_graph.specs.Needs.{Needs}
use Rattle.nb_graph.specs.Marking.{unmarked}
use Rattle.nb_wave.specs.declared.row.Row.{Row}
use Rattle.nb_wave.specs.Rules.{needs_of}

abbrev pub marked : List Bool → ℕ → Bool
marked marks v = get_or marks v false

-- those are marked that pass
abbrev pub AreMarks : List Row → (ℕ → Bool) → List Bool → Type 0
AreMarks rows test marks = (v : ℕ) → v < length rows → marked marks v ≡ test v

-- it passes, or needs one that does
abbrev pub Rests : (ℕ → Bool) → List Row → ℕ → Type 0
Rests test rows v = (test v ≡ true) ⊎ ((w : ℕ) × Needs (needs_of rows) v w × (test w ≡ true))

-- more are marked that rest on marked ones. Where none is, each of the first i that needs a marked one directly has a mark
pub record IsWidening (rows : List Row) (old : List Bool) (i : ℕ) (grew : Bool) (new : List Bool) : Type 0 where
  pub size : length new ≡ length old
  pub keeps : (v : ℕ) → marked old v ≡ true → marked new v ≡ true
  pub sound : (v : ℕ) → marked new v ≡ true → Rests (marked old) rows v
  pub same : grew ≡ false → new ≡ old
  pub closed : grew ≡ false → (v : ℕ) → v < i → list_any (marked new) (needs_of rows v) ≡ true → marked new v ≡ true
  pub fewer : unmarked new ≤ unmarked old
  pub less : grew ≡ true → unmarked new < unmarked old

abbrev pub IsWidened : List Row → List Bool → Bool → List Bool → Type 0
IsWidened rows old grew new = IsWidening rows old (length rows) grew new
