use Rattle.std.proofs.Common.{ℕ, ◌≡◌, ◌<◌, ◌+◌, ◌∙◌, refl, sym, ap, length, arith, List, Some}
use Rattle.std.specs.Prelude.{slice_get}
use Rattle.std.proofs.lemmas.Option.{slice_get-get_or}
use Rattle.nb_graph.specs.Needs.{has}
use Rattle.nb_graph.specs.Graph.{with_needs}
use Rattle.nb_closing.specs.Ties.{Ties}
use Rattle.nb_closing.proofs.Tables.{graph_begins, graph_goes_on, graph_ends, length_so_far}
use Rattle.nb_closing.proofs.ties.graph_by_ties.Goals as goal

pub loop-i-init : goal.loop-i-init
loop-i-init c = c.in_ok-graph.ensures ∙ graph_begins c.args.ties.now (length c.args.ties.now + 1) refl

pub loop-i-preserved : goal.loop-i-preserved
loop-i-preserved c =
    let ties = c.args.ties.now in
    let i = c.loop-i.i in
    let own = c.index-ties-i.result in
    let inside : i < length ties = omega arith in
    c.in_ok-set.ensures.ok
    ∙ ap (λ (ns : List ℕ). with_needs c.loop-i.graph (i + 1) ns) (c.deref.ensures.value ∙ c.direct.ensures)
    ∙ ap (λ (g : List (List ℕ)). with_needs g (i + 1) own.direct) c.loop-i.invariant
    ∙ graph_goes_on ties i own inside c.index-ties-i.is

pub set-requires-clause-node : goal.set-requires-clause-node
set-requires-clause-node c =
    let len : length c.loop-i.graph ≡ length c.args.ties.now + 1 = ap (λ (g : List (List ℕ)). length g) c.loop-i.invariant ∙ length_so_far c.args.ties.now c.loop-i.i (omega arith) in
    omega (arith, len)

pub set-requires-clause-nodes : goal.set-requires-clause-nodes
set-requires-clause-nodes c = λ u h.
    let ties = c.args.ties.now in
    let i = c.loop-i.i in
    let own = c.index-ties-i.result in
    let inside : i < length ties = omega arith in
    let at : slice_get ties i ≡ Some own = slice_get-get_or ties i own inside ∙ ap (λ (t : Ties). Some t) (sym c.index-ties-i.is) in
    let len : length c.loop-i.graph ≡ length ties + 1 = ap (λ (g : List (List ℕ)). length g) c.loop-i.invariant ∙ length_so_far ties i (omega arith) in
    let low = c.requires.within i own at u (ap (λ (ns : List ℕ). has ns u) (sym (c.deref.ensures.value ∙ c.direct.ensures)) ∙ h) in
    omega (arith, low, len)

pub returns : goal.returns
returns c = c.loop-i.invariant ∙ graph_ends c.args.ties.now c.loop-i.i (omega arith)
