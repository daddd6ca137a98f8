use Rattle.std.proofs.Common.{◌≡◌, take}
use Rattle.nb_wave.specs.Steps.{renumbered}
use Rattle.nb_wave.proofs.steps.renumber.Given as goal

abbrev pub invariant-loop-i : goal.invariant-loop-i
invariant-loop-i l = l.new.items ≡ take l.i (renumbered l.v l.n l.vars l.numbers)
