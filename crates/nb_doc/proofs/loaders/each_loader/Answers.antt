-- The keys have that of this loader, and all loaders say what was found and what the others say.
use Rattle.std.proofs.Common.{◌≡◌, ◌+◌, ◌<◌, List, ◌∷◌, length, drop, map, sym, ◌∙◌, ap, subst, arith, option_and_then}
use Rattle.std.proofs.lemmas.List.{drop_more}
use Rattle.serde_json.specs.Data.{item}
use Rattle.serde_json.specs.View.{view, items_view}
use Rattle.serde_json.specs.declared.value.Value.{Value}
use Rattle.nb_value.specs.Json.{push_front}
use Rattle.nb_value.proofs.JsonLaws.{continues_more}
use Rattle.nb_doc.specs.Items.{each_of}
use Rattle.nb_doc.specs.Loading.{loader_of}
use Rattle.nb_doc.proofs.LoaderLemmas.{loaders_more}
use Rattle.nb_doc.proofs.loaders.each_loader.Goals as goal

pub loop-k-preserved : goal.loop-k-preserved
loop-k-preserved c =
    let k = c.loop-k.k in
    let x = c.item-item.result in
    let items = c.args.items.now.items in
    let inside : k < length c.deref-item-items.result.now = omega arith in
    let there : drop k c.deref-item-items.result.now ≡ x ∷ drop (k + 1) c.deref-item-items.result.now = drop_more c.deref-item-items.result.now k x inside ∙ ap (λ y. y ∷ drop (k + 1) c.deref-item-items.result.now) (sym c.item-item.is) in
    let split : drop k items ≡ x ∷ drop (k + 1) items = subst (λ (xs : List Value). drop k xs ≡ x ∷ drop (k + 1) xs) c.deref-item-items.ensures.value there in
    let rest = items_view (drop (k + 1) items) in
    let parts : items_view (drop k items) ≡ item (view x) rest = ap items_view split in
    let y = c.in_ok-loader_at.field-0 in
    let step : each_of loader_of (items_view (drop k items)) ≡ push_front y (each_of loader_of rest) = ap (each_of loader_of) parts ∙ ap (option_and_then (λ z. push_front z (each_of loader_of rest))) c.in_ok-loader_at.ensures.said in
    record {
      fault = loaders_more _ (map (λ s. s.now) c.loop-k.keys.keys) (map (λ s. s.now) c.loader_at.new.keys.keys) k (view x) (items_view (drop k items)) rest c.loop-k.invariant.fault parts c.in_ok-loader_at.ensures.right
          c.in_ok-loader_at.ensures.kept;
      said = rw c.in_ok-push.ensures.ok (continues_more c.loop-k.found _ _ _ _ c.loop-k.invariant.said step);
    }
