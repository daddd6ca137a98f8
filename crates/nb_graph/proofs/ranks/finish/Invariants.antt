use Rattle.std.proofs.Common.{take}
use Rattle.nb_graph.specs.Walks.{IsFinished}
use Rattle.nb_graph.proofs.ranks.finish.Given as goal

abbrev pub invariant-loop-u : goal.invariant-loop-u
invariant-loop-u l = IsFinished (take l.u-index l.nodes) l.fn.places l.places
