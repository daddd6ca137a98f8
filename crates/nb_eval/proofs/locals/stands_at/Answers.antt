use Rattle.std.proofs.Common.{◌≡◌, ◌∙◌, sym, ap, map, slice_get, Some, arith}
use Rattle.std.proofs.lemmas.Slice.Eq.{bytes_eq-Decides}
use Rattle.nb_value.specs.Fields.{names}
use Rattle.nb_eval.specs.declared.locals.Local.{Local}
use Rattle.nb_eval.specs.LocalsIndex.{under}
use Rattle.nb_eval.proofs.IndexLemmas.{innermost_at, slice_get-map, slice_get-get_or, names-get}
use Rattle.nb_eval.proofs.locals.stands_at.Goals as goal

pub returns-then-top-at : goal.returns-then-top-at
returns-then-top-at c = λ e number h.
    let list = c.args.list.now in
    let local = c.in-Some.local.now in
    let at = c.args.at in
    let there : slice_get list at ≡ Some local = slice_get-get_or list at local c.in-Some.ensures.lookup.3.0 c.in-Some.ensures.lookup.3.1 in
    let same : local.field.name ≡ c.args.name.now = sym c.as_str.ensures.value ∙ (bytes_eq-Decides c.as_str.result.now c.args.name.now).0 (sym c.eq.ensures ∙ e) in
    let here : c.in-Some-under.top ≡ at = omega (arith, c.if-top-at.true) in
    let top : under c.args.tops.now (Some local.number) ≡ Some at = sym c.under.ensures ∙ c.in-Some-under.is ∙ ap Some here in
    let fields = slice_get-map (λ (l : Local). l.field) list at local there in
    let named = names-get (map (λ (l : Local). l.field) list) at local.field fields ∙ ap Some same in
    innermost_at (names (map (λ (l : Local). l.field) list)) (map (λ (l : Local). l.number) list) (map (λ (l : Local). l.outer) list) number c.args.tops.now c.args.name.now at local.number h named (slice_get-map (λ (l : Local). l.number) list at local there) top
