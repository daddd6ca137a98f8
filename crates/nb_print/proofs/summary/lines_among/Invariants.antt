use Rattle.std.proofs.Common.{◌≡◌, ◌+◌, ◌-◌, ◌≤◌, length}
use Rattle.nb_history.specs.History.{standing}
use Rattle.nb_print.specs.Summary.{lines_of_kind}
use Rattle.nb_print.proofs.SummaryLemmas.{lines_from}
use Rattle.nb_print.proofs.summary.lines_among.Given as goal

-- the lines that were counted, at most one for each variable, and those of the variables that are left are all
abbrev pub invariant-loop-i : goal.invariant-loop-i
invariant-loop-i l =
    (l.count + lines_from l.kind (standing l.core) (l.i + 1) (length l.rows - l.i) ≡ lines_of_kind l.kind (standing l.core)) × (l.count ≤ l.i)
