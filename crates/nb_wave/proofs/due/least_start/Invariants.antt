use Rattle.nb_wave.specs.Rules.{may_start}
use Rattle.nb_wave.proofs.Places.{NoneBelow}
use Rattle.nb_wave.proofs.due.least_start.Given as goal

abbrev pub invariant-loop-v : goal.invariant-loop-v
invariant-loop-v l = NoneBelow (may_start l.rows) l.v
