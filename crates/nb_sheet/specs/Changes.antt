-- Rows that others took the place of.
use Rattle.std.specs.Prelude.{ℕ, ◌≡◌, List, [], ◌∷◌, set, take}
use Rattle.nb_sheet.specs.declared.row.VarRow.{VarRow}
use Rattle.nb_sheet.specs.declared.rows.Change.{Change}

-- the rows with those that were replaced put back, the last first
abbrev pub put_back : List Change → List VarRow → List VarRow
put_back [] rows = rows
put_back (c ∷ more) rows = set (put_back more rows) c.at c.row

-- both put back the same, on the first n rows for each n
abbrev pub GiveTheSame : List Change → List VarRow → List Change → List VarRow → Type 0
GiveTheSame old_changes old changes rows = (n : ℕ) → put_back changes (take n rows) ≡ put_back old_changes (take n old)
