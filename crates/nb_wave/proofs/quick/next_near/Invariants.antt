use Rattle.nb_wave.specs.QuickRows.{starts_next}
use Rattle.nb_wave.proofs.Places.{NoneBelow}
use Rattle.nb_wave.proofs.quick.next_near.Given as goal

abbrev pub invariant-loop-v : goal.invariant-loop-v
invariant-loop-v l = NoneBelow (starts_next l.near l.rows) l.v
