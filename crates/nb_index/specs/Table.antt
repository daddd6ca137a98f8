-- How the rows of a table change.
use Rattle.std.specs.Prelude.{ℕ, ◌≡◌, ◌≢◌, ◌&&◌, not, ◌==◌, List, ◌∷◌}
use Rattle.nb_index.specs.Numbers.{has}
use Rattle.nb_index.specs.Rows.{present_at, marked_at}
use Rattle.nb_index.specs.declared.table.Table.{Table}

-- the numbers in a row now
abbrev pub row : Table → ℕ → List ℕ
row table r = present_at table.rows.items r

-- the numbers that were in a row at the last mark
abbrev pub marked_row : Table → ℕ → List ℕ
marked_row table r = marked_at table.rows.items r

abbrev pub SameRows : (ℕ → List ℕ) → (ℕ → List ℕ) → Type 0
SameRows old new = (r : ℕ) → new r ≡ old r

-- a number is put into row r, and no other row changes
pub record Gains (r number : ℕ) (old new : ℕ → List ℕ) : Type 0 where
  pub gained : (x : ℕ) → has (new r) x ≡ has (number ∷ old r) x
  pub others : (q : ℕ) → q ≢ r → new q ≡ old q

-- a number is taken out of row r, and no other row changes
pub record Loses (r number : ℕ) (old new : ℕ → List ℕ) : Type 0 where
  pub lost : (x : ℕ) → has (new r) x ≡ (not (number == x) && has (old r) x)
  pub others : (q : ℕ) → q ≢ r → new q ≡ old q
