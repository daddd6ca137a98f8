use Rattle.nb_history.specs.History.{standing}
use Rattle.nb_history.specs.Work.{to_do}
use Rattle.nb_loader.specs.Loads.{as_loaders}
use Rattle.nb_main.proofs.RunLemmas.{IsWorking}
use Rattle.nb_main.proofs.history.work.Given as goal

-- what was done so far, and nothing is ready
abbrev pub invariant-loop-settler : goal.invariant-loop-settler
invariant-loop-settler g l = IsWorking (as_loaders l.loaders) l.fn.core l.core (g.P.Spawner.runs l.fn.programs) (g.P.Spawner.runs l.programs)

-- what is still to be done between two lines
abbrev pub decreases-loop-settler : goal.decreases-loop-settler
decreases-loop-settler g l = to_do (standing l.core)
