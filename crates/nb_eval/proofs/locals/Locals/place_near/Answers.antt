use Rattle.std.proofs.Common.{◌∙◌, List, Option, ℕ, sym, ap, map, subst₂}
use Rattle.std.specs.BTreeMap.{get_by_text}
use Rattle.nb_value.specs.Fields.{names}
use Rattle.nb_eval.specs.declared.locals.Local.{Local}
use Rattle.nb_eval.specs.Locals.{place}
use Rattle.nb_eval.specs.LocalsIndex.{IsIndexed}
use Rattle.nb_eval.proofs.IndexLemmas.{place-last}
use Rattle.nb_eval.proofs.locals.Locals.place_near.Goals as goal

abbrev Of : (List ℕ → Option ℕ) → List Local → List (Option ℕ) → Type 0
Of number list tops = IsIndexed (names (map (λ (l : Local). l.field) list)) (map (λ (l : Local). l.number) list) (map (λ (l : Local). l.outer) list) number tops

pub returns-then-stands_at : goal.returns-then-stands_at
returns-then-stands_at c =
    let name = c.args.name.now in
    let number = get_by_text c.self.inside.numbers in
    let seen = subst₂ (λ ls ts. Of number ls ts) (sym c.as_slice.ensures.value) (sym c.as_slice-2.ensures.value) c.self.invariant in
    let found = c.stands_at.ensures c.if-stands_at.true number seen in
    sym found ∙ sym (place-last name (map (λ (l : Local). l.field) c.as_slice.result.now)) ∙ ap (λ ls. place name (map (λ (l : Local). l.field) ls)) c.as_slice.ensures.value ∙ ap (place name) c.self.view_is
