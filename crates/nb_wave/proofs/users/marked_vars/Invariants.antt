use Rattle.nb_wave.specs.Users.{AreMarked}
use Rattle.nb_wave.proofs.users.marked_vars.Given as goal

abbrev pub invariant-loop-v : goal.invariant-loop-v
invariant-loop-v l = AreMarked l.marks l.v l.vars.items
