use Rattle.std.proofs.Common.{◌∙◌, ap, List, ℕ, map, subst}
use Rattle.std.specs.Prelude.{◌==◌}
use Rattle.nb_graph.specs.Graph.{IsGraph}
use Rattle.nb_graph.proofs.Cycles.{circular_marks}
use Rattle.nb_graph.proofs.graph.Graph.on_cycle.Goals as goal

pub returns : goal.returns
returns c =
    circular_marks c.args.self.now c.in_ok-ranks.ranks.items c.in_ok-marks.marks.items (subst IsGraph c.self.view_is c.self.invariant) c.in_ok-ranks.ensures
    (c.in_ok-marks.ensures ∙ ap (λ (l : List ℕ). map (λ r. r == 0) l) c.deref.ensures.value)
