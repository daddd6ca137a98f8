use Rattle.nb_wave.proofs.QuickLoops.{AreQuickBelow}
use Rattle.nb_wave.proofs.quick.are_quick.Given as goal

abbrev pub invariant-loop-v : goal.invariant-loop-v
invariant-loop-v l = AreQuickBelow l.rows l.near l.place l.v
