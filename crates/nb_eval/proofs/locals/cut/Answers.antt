use Rattle.std.proofs.Common.{◌∙◌, ◌≤◌, sym, ap, map, length, arith}
use Rattle.std.proofs.lemmas.List.{take_all, take-map}
use Rattle.nb_eval.specs.declared.locals.Local.{Local}
use Rattle.nb_eval.proofs.locals.cut.Goals as goal

pub returns-clause-cut : goal.returns-clause-cut
returns-clause-cut c =
    let list = c.loop-list.list.items in
    let few : length list ≤ c.args.len = omega arith in
    sym (ap (map (λ (l : Local). l.field)) (take_all c.args.len list few)) ∙ ap (map (λ (l : Local). l.field)) c.loop-list.invariant.front ∙ sym (take-map (λ (l : Local). l.field) c.args.len c.args.list.now.items)
