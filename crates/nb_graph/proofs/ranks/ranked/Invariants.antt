use Rattle.std.proofs.Common.{ℕ, ◌≡◌, ◌<◌, [], get_or}
use Rattle.nb_graph.specs.Walks.{Walks}
use Rattle.nb_graph.proofs.ranks.ranked.Given as goal

abbrev pub invariant-loop-v : goal.invariant-loop-v
invariant-loop-v l =
    record {
      walks : Walks l.graph l.walk;
      path : l.walk.path.items ≡ [];
      reached : (x : ℕ) → x < l.v → 0 < get_or l.walk.places.items x 0;
    }
