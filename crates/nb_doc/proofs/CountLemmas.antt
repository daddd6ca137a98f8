-- How many parts an array or an object has.
use Rattle.std.proofs.Common.{◌≡◌, suc, List, [], ◌∷◌, length, refl, ap}
use Rattle.serde_json.specs.View.{items_view, members_view}
use Rattle.serde_json.specs.declared.value.Value.{Value}
use Rattle.serde_json.proofs.Views.{Entry}
use Rattle.nb_doc.specs.Items.{count}
use Rattle.nb_doc.specs.Loading.{member_count}

pub count_items : (vs : List Value) → count (items_view vs) ≡ length vs
count_items [] = refl
count_items (v ∷ vs) = ap suc (count_items vs)

pub count_members : (ms : List Entry) → member_count (members_view ms) ≡ length ms
count_members [] = refl
count_members (m ∷ ms) = ap suc (count_members ms)
