use Rattle.std.proofs.Common.{◌≡◌, take, map}
use Rattle.nb_closing.specs.Told.{step_in}
use Rattle.nb_closing.proofs.planning.steps_of.Given as goal

abbrev pub invariant-loop-step : goal.invariant-loop-step
invariant-loop-step l = l.all.items ≡ map (step_in l.wave.rows) (take l.step-index l.steps)
