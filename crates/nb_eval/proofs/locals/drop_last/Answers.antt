use Rattle.std.proofs.Common.{sym, map, subst}
use Rattle.nb_value.specs.Fields.{names}
use Rattle.nb_eval.specs.declared.locals.Local.{Local}
use Rattle.nb_eval.specs.LocalsIndex.{IsIndexed}
use Rattle.nb_eval.proofs.IndexLemmas.{fewer}
use Rattle.nb_eval.proofs.locals.drop_last.Goals as goal

pub returns-in-Some-clause-indexed : goal.returns-in-Some-clause-indexed
returns-in-Some-clause-indexed c = λ numbers h.
    let last = c.in-Some.field-0 in
    let rest = c.pop.new.self.items in
    let tops = c.args.tops.now.items in
    let all = fewer (λ (l : Local). l.field) (λ (l : Local). l.number) (λ (l : Local). l.outer) numbers rest c.args.list.now.items last tops c.in-Some.ensures.items h in
    subst (λ ts. IsIndexed (names (map (λ (l : Local). l.field) rest)) (map (λ (l : Local). l.number) rest) (map (λ (l : Local). l.outer) rest) numbers ts) (sym c.put_under.ensures) all
