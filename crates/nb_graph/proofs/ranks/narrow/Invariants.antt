use Rattle.std.proofs.Common.{length}
use Rattle.nb_graph.proofs.Rising.{IsNarrowing}
use Rattle.nb_graph.proofs.ranks.narrow.Given as goal

abbrev pub invariant-loop-bounds : goal.invariant-loop-bounds
invariant-loop-bounds l = IsNarrowing l.fn.bounds.items l.i l.bounds.items

abbrev pub decreases-loop-bounds : goal.decreases-loop-bounds
decreases-loop-bounds l = length l.bounds.items
