-- An object in which a field was set: what its fields are, and which keys it has.
use Rattle.std.proofs.Common.{◌≡◌, ℕ, List, [], ◌∷◌, ◌||◌, Bool, true, false, not, cond, map, find, Option, Some, None, option_map, Ordering, Less, Equal, Greater, nat_cmp, is_eq, bytes_eq, refl, sym, ap, ◌∙◌}
use Rattle.std.specs.Option.{option_or, option_map_or}
use Rattle.std.specs.List.{AllByRecursion}
use Rattle.std.specs.Ordering.{match_ordering}
use Rattle.std.specs.Cmp.Lexicographic.{slice_cmp}
use Rattle.std.proofs.lemmas.Bool.{true≢false}
use Rattle.std.proofs.lemmas.Option.{none-some}
use Rattle.std.proofs.lemmas.Map.Text.{is_eq-slice_cmp}
use Rattle.std.proofs.lemmas.Slice.Eq.{bytes_eq-Decides}
use Rattle.serde_json.specs.Data.{Data, object, string, Members, no_members, member, put}
use Rattle.serde_json.specs.Find.{get, get_member}
use Rattle.serde_json.proofs.Views.{get_member-put, get_member-put_other}
use Rattle.nb_lines.specs.Fields.{member_keys}
use Rattle.nb_doc.specs.declared.form.Field.{Field}
use Rattle.nb_doc.specs.declared.reason.DocReason.TheVariants.{UnknownField}
use Rattle.nb_doc.specs.Faults.{Fault, here, under, in_part, first_of}
use Rattle.nb_doc.specs.Forms.{Row, row_field, needs, field_name, is_among, head_fault, field_case, field_fault, object_fault}
use Rattle.nb_doc.specs.Upgraded.{with_field, number_at, module_name, by_name}
use Rattle.nb_doc.proofs.Faultless.{HasNone}
use Rattle.nb_doc.proofs.Order.{AllMembers, all_then}

-- ---- what stands in a field

abbrev pub set : Field → Data → Members → Members
set f c ms = put (field_name f) c ms

pub get_set : (f : Field) (c : Data) (ms : Members) → get (field_name f) (object (set f c ms)) ≡ Some c
get_set f c ms = get_member-put (field_name f) c ms

pub get_other : (g f : Field) (c : Data) (ms : Members) → bytes_eq (field_name g) (field_name f) ≡ false → get (field_name g) (object (set f c ms)) ≡ get (field_name g) (object ms)
get_other g f c ms apart = get_member-put_other (field_name g) (field_name f) c ms (λ e. true≢false (sym ((bytes_eq-Decides (field_name g) (field_name f)).1 e) ∙ apart))

pub with_field_is : (f : Field) (c : Data) (ms : Members) → with_field f c (object ms) ≡ object (set f c ms)
unfolding with_field
with_field_is f c ms = refl

pub by_name_is : (f : Field) (ms : Members) (n : ℕ) → number_at f (object ms) ≡ Some n → by_name f (object ms) ≡ object (set f (string (module_name n)) ms)
unfolding by_name
by_name_is f ms n e = ap (λ o. option_map_or (λ k. with_field f (string (module_name k)) (object ms)) o (object ms)) e ∙ with_field_is f (string (module_name n)) ms

pub by_name_not : (f : Field) (d : Data) → number_at f d ≡ None → by_name f d ≡ d
unfolding by_name
by_name_not f d e = ap (λ o. option_map_or (λ k. with_field f (string (module_name k)) d) o d) e

-- ---- which keys there are

abbrev pub Knowns : List Field → Members → Type 0
Knowns fields ms = AllMembers (λ k d. is_among fields k ≡ true) ms

pub known_set : (fields : List Field) (f : Field) (c : Data) (ms : Members) → is_among fields (field_name f) ≡ true → Knowns fields ms → Knowns fields (set f c ms)
known_set fields f c no_members h known = (h, tt)
known_set fields f c (member l e ms) h known = at (slice_cmp nat_cmp (field_name f) l) (known_set fields f c ms h known.1)
  where
    at : (o : Ordering) → Knowns fields (set f c ms) → Knowns fields (match_ordering o (member (field_name f) c (member l e ms)) (member l c ms) (member l e (set f c ms)))
    at Less more = (h, known)
    at Equal more = known
    at Greater more = (known.0, more)

pub known_more : (f : Field) (fields : List Field) (ms : Members) → Knowns fields ms → Knowns (f ∷ fields) ms
known_more f fields ms known = all_then (λ k d. is_among fields k ≡ true) (λ k d. is_among (f ∷ fields) k ≡ true) (λ k d e. also (bytes_eq (field_name f) k) (is_among fields k) e) ms known
  where
    also : (a b : Bool) → b ≡ true → (a || b) ≡ true
    also true b e = refl
    also false b e = e

no_unknown : (fields : List Field) (ms : Members) → Knowns fields ms → find (λ k. not (is_among fields k)) (member_keys ms) ≡ None
no_unknown fields no_members known = refl
no_unknown fields (member k d ms) known = ap (λ b. cond (not b) (Some k) (find (λ l. not (is_among fields l)) (member_keys ms))) known.0 ∙ no_unknown fields ms known.1

pub no_head_fault : (fields : List Field) (ms : Members) → Knowns fields ms → head_fault fields (object ms) ≡ None
no_head_fault fields ms known = ap (λ o. option_or (option_map (λ k. under k (here UnknownField)) o) None) (no_unknown fields ms known)

-- no member has another key
key_is_known : (fields : List Field) (k : List ℕ) (ms : Members) (c : Data) → Knowns fields ms → get_member k ms ≡ Some c → is_among fields k ≡ true
key_is_known fields k no_members c known e = absurd (none-some c e)
key_is_known fields k (member l d ms) c known e = at (slice_cmp nat_cmp k l) refl e (key_is_known fields k ms c known.1)
  where
    at : (o : Ordering) → slice_cmp nat_cmp k l ≡ o → match_ordering o (get_member k ms) (Some d) (get_member k ms) ≡ Some c → (get_member k ms ≡ Some c → is_among fields k ≡ true) → is_among fields k ≡ true
    at Less is e more = more e
    at Equal is e more = let same : k ≡ l = (bytes_eq-Decides k l).0 (sym (is_eq-slice_cmp k l) ∙ ap is_eq is) in ap (is_among fields) same ∙ known.0
    at Greater is e more = more e

pub not_there : (fields : List Field) (f : Field) (ms : Members) → Knowns fields ms → is_among fields (field_name f) ≡ false → get (field_name f) (object ms) ≡ None
not_there fields f ms known apart = go (get_member (field_name f) ms) refl
  where
    go : (o : Option Data) → get_member (field_name f) ms ≡ o → get_member (field_name f) ms ≡ None
    go None e = e
    go (Some c) e = absurd (true≢false (sym (key_is_known fields (field_name f) ms c known e) ∙ apart))

-- ---- no fault

pub set_has_none : (f : Field) (content : Data → Option Fault) (d c : Data) → get (field_name f) d ≡ Some c → content c ≡ None → HasNone d (needs f content)
unfolding field_fault
set_has_none f content d c at none = ap (field_case (needs f content)) at ∙ ap (in_part (field_name f)) none

pub same_has_none : (r : Row) (d e : Data) → get (field_name r.field) e ≡ get (field_name r.field) d → HasNone d r → HasNone e r
unfolding field_fault
same_has_none r d e same none = ap (field_case r) same ∙ none

pub no_field_fault : (d : Data) (rows : List Row) → AllByRecursion (HasNone d) rows → first_of (map (field_fault d) rows) ≡ None
no_field_fault d [] none = refl
no_field_fault d (r ∷ rows) none = ap (λ o. option_or o (first_of (map (field_fault d) rows))) none.0 ∙ no_field_fault d rows none.1

pub object_is_faultless : (rows : List Row) (ms : Members) → Knowns (map row_field rows) ms → AllByRecursion (HasNone (object ms)) rows → object_fault rows (object ms) ≡ None
unfolding object_fault
object_is_faultless rows ms known none = ap (λ o. option_or o (first_of (map (field_fault (object ms)) rows))) (no_head_fault (map row_field rows) ms known) ∙ no_field_fault (object ms) rows none
