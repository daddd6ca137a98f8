-- The table in which each wanted variable shows what evaluating the present definitions from scratch gives.
use Rattle.std.specs.Prelude.{ℕ, List, map}
use Rattle.nb_value.specs.declared.value.Value.{Value}
use Rattle.nb_log.specs.Printing.{lines_text, table_value}
use Rattle.nb_history.specs.Reading.{Reading}
use Rattle.nb_history.specs.Rules.{scratch}
use Rattle.nb_history.specs.Print.{row_name, wanted_vars}

-- the table line of v, which waits exactly where evaluating from scratch waits
abbrev pub scratch_line : Reading → ℕ → Value
scratch_line r v = table_value v (row_name r v) (scratch r v)

abbrev pub scratch_table_text : Reading → List ℕ
scratch_table_text r = lines_text (map (scratch_line r) (wanted_vars r))
