-- What is written of a log: its entries, the table of what stands, and the number of entries.
use Rattle.std.specs.Prelude.{ℕ, List, [], ◌∷◌, ◌++◌, map, length, Option}
use Rattle.std.specs.List.{filter}
use Rattle.nb_value.specs.declared.value.Value.{Value}
use Rattle.nb_value.specs.declared.pairs.Field.{Field}
use Rattle.nb_sheet.specs.Lists.{Name, nth, numbers, option_then}
use Rattle.nb_history.specs.Reading.{Reading, shown}
use Rattle.nb_history.specs.Rules.{wanted}
use Rattle.nb_history.specs.Log.{reading}
use Rattle.nb_log.specs.Printing.{entry_value, line_text, lines_text, entries_text, table_value, done_value}
use Rattle.nb_sheet.specs.declared.row.VarRow.{VarRow}
use Rattle.nb_log.specs.declared.entry.Entry.{Entry}

abbrev pub row_name : Reading → ℕ → Option Name
row_name r v = option_then (nth r.sheet.rows v) (λ (row : VarRow). row.name)

-- the table line of v
abbrev pub table_line : Reading → ℕ → Value
table_line r v = table_value v (row_name r v) (shown r v)

-- the wanted variables, by number
abbrev pub wanted_vars : Reading → List ℕ
wanted_vars r = filter (wanted r) (numbers r.sheet.rows)

abbrev pub table_text : Reading → List ℕ
table_text r = lines_text (map (table_line r) (wanted_vars r))

-- one line for each entry, the table line of each wanted variable, and the number of entries
unfoldable pub printing : List (Field Value) → List Entry → List ℕ
printing builtins log = entries_text log ++ table_text (reading builtins log) ++ line_text (done_value (length log))

-- ---- line by line

-- the line of each entry
abbrev pub entry_pieces : List Entry → List (List ℕ)
entry_pieces log = map (λ (e : Entry). line_text (entry_value e)) log

-- the line of each row of the table
abbrev pub table_pieces : Reading → List (List ℕ)
table_pieces r = map (λ (v : ℕ). line_text (table_line r v)) (wanted_vars r)

-- what a sink is given that is written line by line
abbrev pub pieces : List (Field Value) → List Entry → List (List ℕ)
pieces builtins log = entry_pieces log ++ (table_pieces (reading builtins log) ++ line_text (done_value (length log)) ∷ [])
