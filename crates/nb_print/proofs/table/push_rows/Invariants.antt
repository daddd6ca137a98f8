use Rattle.std.proofs.Common.{◌≡◌, ◌+◌, ◌-◌, ◌++◌, length}
use Rattle.nb_history.specs.History.{standing}
use Rattle.nb_history.specs.Print.{table_text}
use Rattle.nb_print.specs.Table.{lines_from}
use Rattle.nb_print.proofs.table.push_rows.Given as goal

-- what is written, and the lines of the variables that are left, are the whole
abbrev pub invariant-loop-i : goal.invariant-loop-i
invariant-loop-i l = l.out ++ lines_from (standing l.core) (l.i + 1) (length l.rows - l.i) ≡ l.fn.out ++ table_text (standing l.core)
