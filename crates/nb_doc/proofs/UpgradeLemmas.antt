-- Trees in their new form: an array, element by element, and an object with a field set.
use Rattle.std.proofs.Common.{◌≡◌, List, [], ◌∷◌, ◌++◌, map, refl, ap, sym, ◌∙◌, Vec, BTreeMap, Global, String}
use Rattle.serde_json.specs.Data.{Data, Items, no_items, item, array, object}
use Rattle.serde_json.specs.View.{view, items_of, items_view, members_view}
use Rattle.serde_json.specs.declared.value.Value.{Value, Array, Object}
use Rattle.serde_json.proofs.Views.{view-Array, view-Object}

-- these, and then those that are left
abbrev pub joined : List Data → Items → Items
joined [] rest = rest
joined (d ∷ ds) rest = item d (joined ds rest)

joined_all : (ds : List Data) → joined ds no_items ≡ items_of ds
joined_all [] = refl
joined_all (d ∷ ds) = ap (item d) (joined_all ds)

joined_one : (made : List Value) (y : Value) (rest : Items) → joined (map view (made ++ y ∷ [])) rest ≡ joined (map view made) (item (view y) rest)
joined_one [] y rest = refl
joined_one (m ∷ made) y rest = ap (item (view m)) (joined_one made y rest)

-- one element more is made
pub joined_more : (all : Items) (made new : List Value) (y : Value) (d : Data) (rest : Items) → all ≡ joined (map view made) (item d rest) → new ≡ made ++ y ∷ [] → view y ≡ d → all ≡ joined (map view new) rest
joined_more all made new y d rest is more one =
    is ∙ ap (λ (e : Data). joined (map view made) (item e rest)) (sym one) ∙ sym (joined_one made y rest) ∙ ap (λ (vs : List Value). joined (map view vs) rest) (sym more)

-- all are made
pub joined_end : (all : Items) (made : List Value) (rest : Items) → all ≡ joined (map view made) rest → rest ≡ no_items → items_view made ≡ all
joined_end all made rest is none = sym (joined_all (map view made)) ∙ ap (joined (map view made)) (sym none) ∙ sym is

pub view_array : (v : Vec Value Global) → view (Array v) ≡ array (items_view v.items)
view_array v = view-Array v

pub view_object : (m : BTreeMap (String Global) Value) → view (Object m) ≡ object (members_view m.entries)
view_object m = view-Object m
