use Rattle.std.proofs.Common.{ℕ, ◌≡◌, ◌<◌, ◌∙◌, sym, ap, subst, length, arith, List, Bool}
use Rattle.nb_graph.specs.Needs.{has}
use Rattle.nb_graph.specs.Graph.{needs_itself, IsReached, IsMarks}
use Rattle.nb_closing.specs.Tables.{graph_of, roots_of}
use Rattle.nb_closing.proofs.Tables.{length_unmarked, ties_within, graph_of_ties}
use Rattle.nb_closing.proofs.Used.{roots_within}
use Rattle.nb_closing.proofs.ties.tie.Goals as goal

pub graph_by_ties-requires-clause-few : goal.graph_by_ties-requires-clause-few
graph_by_ties-requires-clause-few c =
    omega (arith, length_unmarked c.args.sheet.now.sheet c.deref.result.now (c.deref.ensures.value ∙ c.in_ok-ties.ensures), c.rows.ensures.kept.variables)

pub graph_by_ties-requires-clause-within : goal.graph_by_ties-requires-clause-within
graph_by_ties-requires-clause-within c = ties_within c.args.sheet.now.sheet c.deref.result.now (c.deref.ensures.value ∙ c.in_ok-ties.ensures)

pub reach-requires : goal.reach-requires
reach-requires c = λ r h.
    let s = c.args.sheet.now.sheet in
    let graph : c.in_ok-graph.graph ≡ graph_of s = c.in_ok-graph.ensures ∙ graph_of_ties s c.deref.result.now (c.deref.ensures.value ∙ c.in_ok-ties.ensures) in
    let roots : c.deref-2.result.now ≡ roots_of s.rows = c.deref-2.ensures.value ∙ c.in_ok-roots.ensures ∙ ap roots_of c.rows.ensures.value in
    let low : r < length (graph_of s) = roots_within s r (ap (λ (ns : List ℕ). has ns r) (sym roots) ∙ h) in
    subst (λ (g : List (List ℕ)). r < length g) (sym graph) low

pub mark_all-requires-clause-circular : goal.mark_all-requires-clause-circular
mark_all-requires-clause-circular c =
    let s = c.args.sheet.now.sheet in
    let graph : c.in_ok-graph.graph ≡ graph_of s = c.in_ok-graph.ensures ∙ graph_of_ties s c.deref.result.now (c.deref.ensures.value ∙ c.in_ok-ties.ensures) in
    subst (λ (g : List (List ℕ)). IsMarks g (needs_itself g) c.deref-3.result.now) graph
    (subst (λ (marks : List Bool). IsMarks c.in_ok-graph.graph (needs_itself c.in_ok-graph.graph) marks) (sym c.deref-3.ensures.value) c.in_ok-circular.ensures)

pub mark_all-requires-clause-reached : goal.mark_all-requires-clause-reached
mark_all-requires-clause-reached c =
    let s = c.args.sheet.now.sheet in
    let graph : c.in_ok-graph.graph ≡ graph_of s = c.in_ok-graph.ensures ∙ graph_of_ties s c.deref.result.now (c.deref.ensures.value ∙ c.in_ok-ties.ensures) in
    let roots : c.deref-2.result.now ≡ roots_of s.rows = c.deref-2.ensures.value ∙ c.in_ok-roots.ensures ∙ ap roots_of c.rows.ensures.value in
    subst (λ (rs : List ℕ). IsMarks (graph_of s) (IsReached (graph_of s) rs) c.deref-4.result.now) roots
    (subst (λ (g : List (List ℕ)). IsMarks g (IsReached g c.deref-2.result.now) c.deref-4.result.now) graph
    (subst (λ (marks : List Bool). IsMarks c.in_ok-graph.graph (IsReached c.in_ok-graph.graph c.deref-2.result.now) marks) (sym c.deref-4.ensures.value) c.in_ok-reached.ensures))
