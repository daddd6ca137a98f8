use Rattle.nb_graph.specs.Walks.{Walks, StaysReached, effort}
use Rattle.nb_graph.proofs.ranks.Walk.go.Given as goal

abbrev pub invariant-loop-self : goal.invariant-loop-self
invariant-loop-self l =
    record {
      walks : Walks l.graph l.self;
      stays : StaysReached l.fn.self.places.items l.self.places.items;
    }

abbrev pub decreases-loop-self : goal.decreases-loop-self
decreases-loop-self l = effort l.graph l.self
