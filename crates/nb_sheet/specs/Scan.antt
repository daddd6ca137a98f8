-- What a scan over the rows for a name finds, and rows with one of them changed.
use Rattle.std.specs.Prelude.{ℕ, ◌&&◌, ◌==◌, Bool, Some, Result, Ok, Err, List, [], ◌∷◌}
use Rattle.nb_sheet.specs.Lists.{nth, put, Name, is_name, numbers_where, from_option}
use Rattle.nb_syntax.specs.declared.tree.Cell.{Cell}
use Rattle.nb_sheet.specs.declared.row.BodyOf.TheVariants.{Cell as CellBody}
use Rattle.nb_sheet.specs.declared.row.VarRow.{VarRow}
use Rattle.nb_sheet.specs.declared.refused.Refused.{Refused}
use Rattle.nb_sheet.specs.declared.refused.Refused.TheVariants.{NotNamed, NamedTwice}

abbrev pub has_name : ℕ → Name → VarRow → Bool
has_name m n row = (row.«module» == m) && is_name row.name n

-- the one variable of a list, or why it isn't one
abbrev pub one_of : List ℕ → Result ℕ Refused
one_of [] = Err NotNamed
one_of (v ∷ []) = Ok v
one_of (v ∷ w ∷ more) = Err NamedTwice

-- what one more variable makes of it
abbrev pub also : ℕ → Result ℕ Refused → Result ℕ Refused
also w (Err NotNamed) = Ok w
also w _ = Err NamedTwice

-- the one variable of a module that has the name
abbrev pub one_in : ℕ → Name → List VarRow → Result ℕ Refused
one_in m n rows = one_of (numbers_where (has_name m n) rows)

-- the rows with the v-th changed, if there is one
abbrev pub changed : List VarRow → ℕ → (VarRow → VarRow) → List VarRow
changed rows v change = from_option rows (λ row. put rows v (change row)) (nth rows v)

-- the row with another cell as its body
abbrev pub redefined_by : Cell → ℕ → VarRow → VarRow
redefined_by cell place row = record row { body = Some (CellBody cell); place = place }
