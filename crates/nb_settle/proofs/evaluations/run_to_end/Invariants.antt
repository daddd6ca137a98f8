use Rattle.std.proofs.Common.{◌≡◌, ◌-◌}
use Rattle.nb_eval.specs.Evaluation.{charges}
use Rattle.nb_settle.proofs.evaluations.run_to_end.Given as goal

abbrev pub invariant-loop-machine : goal.invariant-loop-machine
invariant-loop-machine l = l.machine.standing.segment ≡ l.fn.machine.standing.segment

-- the charges that are still to be made
abbrev pub decreases-loop-machine : goal.decreases-loop-machine
decreases-loop-machine l = charges l.machine.standing.segment - l.machine.standing.charges
