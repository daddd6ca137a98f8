use Rattle.nb_wave.specs.Rules.{leaving}
use Rattle.nb_wave.proofs.Places.{NoneBelow}
use Rattle.nb_wave.proofs.due.next_leaving.Given as goal

abbrev pub invariant-loop-v : goal.invariant-loop-v
invariant-loop-v l = NoneBelow (leaving l.rows) l.v
