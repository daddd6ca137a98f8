-- One module more, and all of them.
use Rattle.std.proofs.Common.{◌≡◌, ◌+◌, ◌<◌, ◌≤◌, List, ◌∷◌, length, drop, map, sym, ◌∙◌, ap, subst, arith}
use Rattle.std.proofs.lemmas.List.{drop_more, drop_all}
use Rattle.serde_json.specs.View.{view, items_view}
use Rattle.serde_json.specs.declared.value.Value.{Value}
use Rattle.nb_doc.specs.Upgraded.{named_module, named_modules}
use Rattle.nb_doc.proofs.UpgradeLemmas.{joined, joined_more, joined_end}
use Rattle.nb_doc.proofs.upgraded.named_modules.Goals as goal

pub loop-k-preserved : goal.loop-k-preserved
loop-k-preserved c =
    let l = c.loop-k in
    let k = l.k in
    let x = c.module-item.result in
    let xs = c.deref-module-items.result.now in
    let items = c.args.modules.now.items in
    let inside : k < length xs = omega arith in
    let there : drop k xs ≡ x ∷ drop (k + 1) xs = drop_more xs k x inside ∙ ap (λ y. y ∷ drop (k + 1) xs) (sym c.module-item.is) in
    let split : drop k items ≡ x ∷ drop (k + 1) items = subst (λ (ys : List Value). drop k ys ≡ x ∷ drop (k + 1) ys) c.deref-module-items.ensures.value there in
    joined_more _ l.found.items _ c.in_ok-named_module.field-0 (named_module k (view x)) (named_modules (k + 1) (items_view (drop (k + 1) items)))
    (l.invariant ∙ ap (λ (ys : List Value). joined (map view l.found.items) (named_modules k (items_view ys))) split) c.in_ok-keep.ensures c.in_ok-named_module.ensures

pub returns : goal.returns
returns c =
    let l = c.loop-k in
    let items = c.args.modules.now.items in
    let past : length c.deref-module-items.result.now ≤ l.k = omega arith in
    let none = drop_all l.k items (subst (λ (ys : List Value). length ys ≤ l.k) c.deref-module-items.ensures.value past) in
    joined_end _ l.found.items _ l.invariant (ap (λ (ys : List Value). named_modules l.k (items_view ys)) none)
