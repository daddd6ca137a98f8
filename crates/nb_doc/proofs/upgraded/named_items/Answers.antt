-- One item more, and all of them.
use Rattle.std.proofs.Common.{◌≡◌, ◌+◌, ◌<◌, ◌≤◌, List, ◌∷◌, length, drop, map, sym, ◌∙◌, ap, subst, arith}
use Rattle.std.proofs.lemmas.List.{drop_more, drop_all}
use Rattle.serde_json.specs.View.{view, items_view}
use Rattle.serde_json.specs.declared.value.Value.{Value}
use Rattle.nb_doc.specs.declared.form.Field.TheVariants as field
use Rattle.nb_doc.specs.Upgraded.{by_name, items_by_name}
use Rattle.nb_doc.proofs.UpgradeLemmas.{joined, joined_more, joined_end}
use Rattle.nb_doc.proofs.upgraded.named_items.Goals as goal

pub loop-item-preserved : goal.loop-item-preserved
loop-item-preserved c =
    let l = c.loop-item in
    let k = l.item-index in
    let x = c.item-item.result in
    let xs = c.deref-item-items.result.now in
    let inside : k < length xs = omega arith in
    let split : drop k xs ≡ x ∷ drop (k + 1) xs = drop_more xs k x inside ∙ ap (λ y. y ∷ drop (k + 1) xs) (sym c.item-item.is) in
    joined_more _ l.found.items _ c.in_ok-named_item.field-0 (by_name field.From (view x)) (items_by_name (items_view (drop (k + 1) xs)))
    (l.invariant ∙ ap (λ (ys : List Value). joined (map view l.found.items) (items_by_name (items_view ys))) split) c.in_ok-keep.ensures c.in_ok-named_item.ensures

pub returns : goal.returns
returns c =
    let l = c.loop-item in
    let xs = c.deref-item-items.result.now in
    let past : length xs ≤ l.item-index = omega arith in
    subst (λ (ys : List Value). items_view l.found.items ≡ items_by_name (items_view ys)) c.deref-item-items.ensures.value
    (joined_end _ l.found.items _ l.invariant (ap (λ (ys : List Value). items_by_name (items_view ys)) (drop_all l.item-index xs past)))
