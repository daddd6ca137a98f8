use Rattle.std.proofs.Common.{◌≡◌, take}
use Rattle.nb_closing.specs.Tables.{roots_of}
use Rattle.nb_closing.proofs.ties.roots.Given as goal

abbrev pub invariant-loop-i : goal.invariant-loop-i
invariant-loop-i l = l.roots.items ≡ roots_of (take l.i l.rows)
