-- What a row of numbers holds now, and what it held at the last mark; and the same of rows by number from 0, where one
-- past the last is a row that never held anything.
use Rattle.std.specs.Prelude.{ℕ, zero, suc, ◌+◌, Bool, false, List, [], ◌∷◌, if◌then◌else◌}
use Rattle.nb_index.specs.declared.row.Row.{Row}

abbrev pub present : Row → List ℕ
present row = row.present.items

-- what it held at the last mark is kept only from its first change on
abbrev pub marked : Row → List ℕ
marked row = if row.touched then row.kept.items else row.present.items

abbrev pub is_touched : Row → Bool
is_touched row = row.touched

-- what is read off the row of a number
abbrev pub row_at : {X : Type 0} → (Row → X) → X → List Row → ℕ → X
row_at read none [] r = none
row_at read none (row ∷ rows) zero = read row
row_at read none (row ∷ rows) (suc r) = row_at read none rows r

abbrev pub present_at : List Row → ℕ → List ℕ
present_at rows r = row_at present [] rows r

abbrev pub marked_at : List Row → ℕ → List ℕ
marked_at rows r = row_at marked [] rows r

abbrev pub touched_at : List Row → ℕ → Bool
touched_at rows r = row_at is_touched false rows r

-- how many rows aren't touched
abbrev pub untouched : List Row → ℕ
untouched [] = 0
untouched (row ∷ rows) = (if row.touched then 0 else 1) + untouched rows
