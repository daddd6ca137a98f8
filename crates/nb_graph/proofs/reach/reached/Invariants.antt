use Rattle.std.proofs.Common.{◌+◌, length}
use Rattle.nb_graph.specs.Marking.{unmarked}
use Rattle.nb_graph.proofs.Marks.{IsReaching}
use Rattle.nb_graph.proofs.reach.reached.Given as goal

abbrev pub invariant-loop-v : goal.invariant-loop-v
invariant-loop-v l = IsReaching l.graph l.roots l.marks.items l.stack.items

abbrev pub decreases-loop-v : goal.decreases-loop-v
decreases-loop-v l = unmarked l.marks.items + length l.stack.items
