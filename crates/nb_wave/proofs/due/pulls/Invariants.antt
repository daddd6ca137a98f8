use Rattle.nb_wave.specs.Rules.{passes, is_pulling}
use Rattle.nb_wave.proofs.Places.{NoneBelow}
use Rattle.nb_wave.proofs.due.pulls.Given as goal

abbrev pub invariant-loop-v : goal.invariant-loop-v
invariant-loop-v l = NoneBelow (passes is_pulling l.rows) l.v
