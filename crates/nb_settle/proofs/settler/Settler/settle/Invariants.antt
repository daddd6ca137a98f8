use Rattle.nb_history.specs.History.{standing}
use Rattle.nb_history.specs.Work.{to_do}
use Rattle.nb_core.specs.Core.{SettlesSoFar}
use Rattle.nb_settle.proofs.settler.Settler.settle.Given as goal

abbrev pub invariant-loop-var : goal.invariant-loop-var
invariant-loop-var l = SettlesSoFar l.fn.core l.core

-- what is still to be done between two lines
abbrev pub decreases-loop-var : goal.decreases-loop-var
decreases-loop-var l = to_do (standing l.core)
