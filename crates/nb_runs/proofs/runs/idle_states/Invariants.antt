use Rattle.std.proofs.Common.{◌≡◌}
use Rattle.std.specs.Prelude.{replicate}
use Rattle.nb_runs.specs.RunStates.{idle_state}
use Rattle.nb_runs.proofs.runs.idle_states.Given as goal

abbrev pub invariant-loop-v : goal.invariant-loop-v
invariant-loop-v l = l.states.items ≡ replicate l._v idle_state
