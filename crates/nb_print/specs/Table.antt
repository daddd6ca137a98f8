-- The table, variable by variable.
use Rattle.std.specs.Prelude.{ℕ, List, [], map, cond}
use Rattle.std.specs.List.{filter, range_with_len}
use Rattle.nb_log.specs.Printing.{line_text, lines_text}
use Rattle.nb_history.specs.Reading.{Reading}
use Rattle.nb_history.specs.Rules.{wanted}
use Rattle.nb_history.specs.Print.{table_line}

-- the line of a wanted variable, and nothing for another
abbrev pub var_text : Reading → ℕ → List ℕ
var_text r v = cond (wanted r v) (line_text (table_line r v)) []

-- the lines of n variables from the v-th on
abbrev pub lines_from : Reading → ℕ → ℕ → List ℕ
lines_from r v n = lines_text (map (table_line r) (filter (wanted r) (range_with_len v n)))
