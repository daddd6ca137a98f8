use Rattle.std.proofs.Common.{take, map, ◌≡◌}
use Rattle.nb_graph.specs.Graph.{rank_in, greatest}
use Rattle.nb_graph.proofs.ranks.rank_above.Given as goal

abbrev pub invariant-loop-u : goal.invariant-loop-u
invariant-loop-u l = l.highest ≡ greatest (map (rank_in l.ranks) (take l.u-index l.nodes))
