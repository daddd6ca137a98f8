-- Lemmas on the fields of a map of names.
use Rattle.std.proofs.Common.{◌≡◌, ℕ, List, [], ◌∷◌, ◌++◌, refl, ap, sym, ◌∙◌, subst, append_assoc, map, String, Global, string_bytes, string_cmp, Ordering, Less, Equal, Greater}
use Rattle.std.specs.BTreeMap.{insert_entry}
use Rattle.std.specs.Map.{keys_of}
use Rattle.std.specs.Ordering.{match_ordering, ordering_reverse}
use Rattle.std.specs.List.Sorted.{IsStrictlySortedBy}
use Rattle.std.specs.FinMap.{nat_cmp-IsAntisymmetric, slice_cmp-IsAntisymmetric}
use Rattle.std.proofs.lemmas.Cmp.{nat_list_cmp_total}
use Rattle.nb_value.specs.declared.pairs.Field.{Field}
use Rattle.nb_value.specs.declared.value.Value.{Value}
use Rattle.nb_value.specs.Fields.{names, Ascend, IsInOrder, CanFollow, put}
use Rattle.nb_value.proofs.FieldLemmas.{names-append, Ascend-texts}
use Rattle.nb_eval.specs.Members.{member_of, members_of}
use Rattle.nb_eval.proofs.InputLemmas.{in_front}

Entry : Type 0
Entry = String Global × Value

put_step : (e : String Global × Value) (es : List (String Global × Value)) (k : String Global) (v : Value) (o : Ordering) → string_cmp k e.0 ≡ o
    → members_of (insert_entry string_cmp es k v) ≡ put (member_of (k, v)) (members_of es)
    → members_of (match_ordering o ((k, v) ∷ e ∷ es) ((e.0, v) ∷ es) (e ∷ insert_entry string_cmp es k v))
    ≡ match_ordering (ordering_reverse o) (member_of e ∷ put (member_of (k, v)) (members_of es)) (member_of (k, v) ∷ members_of es) (member_of (k, v) ∷ member_of e ∷ members_of es)
put_step e es k v Less is rest = refl
put_step e es k v Equal is rest =
    let same : string_bytes k ≡ string_bytes e.0 = slice_cmp-IsAntisymmetric nat_cmp-IsAntisymmetric (string_bytes k) (string_bytes e.0) is in
    ap (λ (n : List ℕ). let f : Field Value = record { name = n; value = v } in f ∷ members_of es) (sym same)
put_step e es k v Greater is rest = ap (λ fs. member_of e ∷ fs) rest

-- a value put into the map is put into the fields
pub put-insert : (es : List (String Global × Value)) (k : String Global) (v : Value) → members_of (insert_entry string_cmp es k v) ≡ put (member_of (k, v)) (members_of es)
put-insert [] k v = refl
put-insert (e ∷ es) k v =
    put_step e es k v (string_cmp k e.0) refl (put-insert es k v)
    ∙ ap (λ o. match_ordering o (member_of e ∷ put (member_of (k, v)) (members_of es)) (member_of (k, v) ∷ members_of es) (member_of (k, v) ∷ member_of e ∷ members_of es))
    (sym (nat_list_cmp_total.antisymm (string_bytes e.0) (string_bytes k)))

names_of : (es : List (String Global × Value)) → names (members_of es) ≡ map string_bytes (keys_of es)
names_of [] = refl
names_of (e ∷ es) = ap (λ ns. string_bytes e.0 ∷ ns) (names_of es)

pub in_order : (es : List (String Global × Value)) → IsStrictlySortedBy string_cmp (keys_of es) → IsInOrder (members_of es)
in_order es h = subst Ascend (sym (names_of es)) (Ascend-texts (keys_of es) h)

-- the next field may follow those before it
pub follows : (fs rest : List (Field Value)) (f : Field Value) → IsInOrder (fs ++ f ∷ rest) → CanFollow fs f.name
follows fs rest f h =
    let front = in_front (fs ++ f ∷ []) rest (subst IsInOrder (sym (append_assoc fs (f ∷ []) rest)) h) in
    subst Ascend (names-append fs (f ∷ [])) front
