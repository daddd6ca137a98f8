use Rattle.std.proofs.Common.{◌≡◌}
use Rattle.nb_closing.proofs.Tables.{graph_so_far}
use Rattle.nb_closing.proofs.ties.graph_by_ties.Given as goal

abbrev pub invariant-loop-i : goal.invariant-loop-i
invariant-loop-i l = l.graph ≡ graph_so_far l.ties l.i
