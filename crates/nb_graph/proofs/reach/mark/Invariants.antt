use Rattle.std.proofs.Common.{take}
use Rattle.nb_graph.specs.Marking.{IsMarked}
use Rattle.nb_graph.proofs.reach.mark.Given as goal

abbrev pub invariant-loop-u : goal.invariant-loop-u
invariant-loop-u l = IsMarked (take l.u-index l.nodes) l.fn.marks l.fn.stack.items l.marks l.stack.items
