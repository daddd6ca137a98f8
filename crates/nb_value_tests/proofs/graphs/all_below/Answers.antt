use Rattle.std.proofs.Common.{ℕ, ◌<◌, ◌∙◌, sym, ap, take, length, get_or, List, inl, inr, arith}
use Rattle.std.proofs.lemmas.List.{take_more, take_all}
use Rattle.nb_graph.specs.Needs.{has}
use Rattle.nb_graph.proofs.Lists.{has_push}
use Rattle.nb_value_tests.proofs.graphs.all_below.Goals as goal

pub loop-u-preserved : goal.loop-u-preserved
loop-u-preserved c =
    let ns = c.args.nodes.now in
    let i = c.loop-u.u-index in
    let inside : i < length ns = omega arith in
    λ u h. elim (has_push (take i ns) (get_or ns i 0) u (sym (ap (λ (l : List ℕ). has l u) (take_more ns i 0 inside)) ∙ h)) [
      | inl front ↦ c.loop-u.invariant u front
      | inr e ↦ omega (arith, e)
    ]

pub returns : goal.returns
returns c =
    λ _ u h. c.loop-u.invariant u (ap (λ (l : List ℕ). has l u) (take_all c.loop-u.u-index c.args.nodes.now (omega arith)) ∙ h)
