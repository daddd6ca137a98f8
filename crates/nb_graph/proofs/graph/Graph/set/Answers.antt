use Rattle.std.proofs.Common.{◌∙◌, ap, List, ℕ}
use Rattle.nb_graph.specs.Graph.{with_needs}
use Rattle.nb_graph.proofs.Lists.{set_with_needs}
use Rattle.nb_graph.proofs.graph.Graph.set.Goals as goal

pub returns-clause-ok : goal.returns-clause-ok
returns-clause-ok c =
    set_with_needs c.self.inside.needs.items c.args.v c.in_ok-nodes.nodes.items
    ∙ ap (λ (g : List (List ℕ)). with_needs g c.args.v c.in_ok-nodes.nodes.items) c.self.view_is
    ∙ ap (λ (ns : List ℕ). with_needs c.args.self.now c.args.v ns) c.in_ok-nodes.ensures.items
