use Rattle.std.proofs.Common.{◌≡◌, ◌∙◌, Some, map, sym, ap, subst, slice_set, length, arith}
use Rattle.std.specs.BTreeMap.{get_by_text}
use Rattle.std.proofs.lemmas.List.{length-map}
use Rattle.nb_value.specs.Fields.{names}
use Rattle.nb_eval.specs.declared.locals.Local.{Local}
use Rattle.nb_eval.specs.LocalsIndex.{IsIndexed, under}
use Rattle.nb_eval.proofs.IndexLemmas.{more}
use Rattle.nb_eval.proofs.locals.add.Goals as goal

pub returns-clause-indexed : goal.returns-clause-indexed
returns-clause-indexed c =
    let list = c.args.list.now.items in
    let number = c.in_ok-number.number in
    let numbers = get_by_text c.number_of.new.numbers in
    let tops = c.number_of.new.tops.items in
    let last : Local = record { field = c.args.field; number = number; outer = c.under-outer.result } in
    let kept = c.in_ok-number.ensures.kept (names (map (λ (l : Local). l.field) list)) (map (λ (l : Local). l.number) list) (map (λ (l : Local). l.outer) list) c.requires in
    let known : numbers c.args.field.name ≡ Some number = ap numbers (sym c.as_str.ensures.value) ∙ c.in_ok-number.ensures.known in
    let shadows : c.under-outer.result ≡ under tops (Some number) = c.under-outer.ensures ∙ ap (λ ts. under ts (Some number)) c.as_slice.ensures.value in
    let all = more (λ (l : Local). l.field) (λ (l : Local). l.number) (λ (l : Local). l.outer) numbers list c.push.new.self.items last tops c.in_ok-push.ensures.items kept known shadows in
    let at : length (map (λ (l : Local). l.field) list) ≡ c.len-at.result = omega (arith, c.len-at.ensures, length-map list (λ (l : Local). l.field)) in
    let put : slice_set tops number (Some (length (map (λ (l : Local). l.field) list))) ≡ c.put_under.new.tops.items = ap (λ n. slice_set tops number (Some n)) at ∙ sym c.put_under.ensures in
    subst (λ ts. IsIndexed (names (map (λ (l : Local). l.field) c.push.new.self.items)) (map (λ (l : Local). l.number) c.push.new.self.items) (map (λ (l : Local). l.outer) c.push.new.self.items) numbers ts) put all
