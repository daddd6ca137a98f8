use Rattle.std.proofs.Common.{◌≡◌, ◌∙◌, None, sym, ap, subst, subst₂, length, arith}
use Rattle.std.specs.Option.{option_copied}
use Rattle.std.specs.BTreeMap.{get_by_text}
use Rattle.nb_eval.specs.LocalsIndex.{IsIndexed, Sets}
use Rattle.nb_eval.proofs.IndexLemmas.{IsIndexed-room, IsIndexed-named}
use Rattle.nb_eval.proofs.locals.number_of.Goals as goal

pub returns-clause-kept : goal.returns-clause-kept
returns-clause-kept c = λ ns ks os h.
    let old = get_by_text c.args.numbers.now in
    let new = get_by_text c.point.new.numbers in
    let none : old c.args.name.now ≡ None = sym c.get.ensures.value ∙ ap option_copied c.in_default.is in
    let len : c.len-number.result ≡ length c.args.tops.now.items = omega (arith, c.len-number.ensures) in
    let sets = subst₂ (λ n k. Sets old new n k) c.in_ok-key.ensures.ok len c.in_ok-point.ensures.ok in
    subst (λ ts. IsIndexed ns ks os new ts) (sym c.in_ok-push.ensures.items) (IsIndexed-named ns ks os old new c.args.tops.now.items h c.args.name.now none sets)

pub returns-in_err-point-clause-kept : goal.returns-in_err-point-clause-kept
returns-in_err-point-clause-kept c = λ ns ks os h.
    let old = get_by_text c.args.numbers.now in
    let new = get_by_text c.point.new.numbers in
    subst (λ ts. IsIndexed ns ks os new ts) (sym c.in_ok-push.ensures.items) (IsIndexed-room ns ks os old new c.args.tops.now.items h c.in_err-point.ensures.err)
