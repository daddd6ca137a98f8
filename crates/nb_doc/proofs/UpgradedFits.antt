-- An upgrade brings no float, and nests no deeper.
use Rattle.std.proofs.Common.{◌≡◌, ℕ, zero, suc, ◌+◌, ◌≤◌, List, Bool, true, false, Option, Some, None, option_and_then, Ordering, Less, Equal, Greater, nat_cmp, refl, subst, arith}
use Rattle.std.specs.Option.{option_map_or}
use Rattle.std.specs.Ordering.{match_ordering}
use Rattle.std.specs.Cmp.Lexicographic.{slice_cmp}
use Rattle.std.proofs.lemmas.Bool.{or_from, or_parts}
use Rattle.std.proofs.lemmas.Option.{none-some, same_Some}
use Rattle.serde_json.specs.Data.{Data, null, boolean, number, string, array, object, unsigned, Items, no_items, item, Members, no_members, member, put, depth, items_depth, members_depth}
use Rattle.serde_json.specs.Find.{get_member, as_array}
use Rattle.serde_json.specs.Written.{has_float, items_have_float, members_have_float}
use Rattle.nb_doc.specs.declared.form.Field.{Field}
use Rattle.nb_doc.specs.declared.form.Field.TheVariants as field
use Rattle.nb_doc.specs.Forms.{field_name}
use Rattle.nb_doc.specs.Upgraded.{with_field, number_at, array_at, module_name, by_name, items_by_name, with_items, named_module, named_modules, with_modules, upgraded_by}

-- no float, and no deeper than this
abbrev pub Fits : ℕ → Data → Type 0
Fits n d = (has_float d ≡ false) × (depth d ≤ n)

abbrev ItemsFit : ℕ → Items → Type 0
ItemsFit n ds = (items_have_float ds ≡ false) × (items_depth ds ≤ n)

abbrev MembersFit : ℕ → Members → Type 0
MembersFit n ms = (members_have_float ms ≡ false) × (members_depth ms ≤ n)

first_fits : (n : ℕ) (d : Data) (ds : Items) → ItemsFit n (item d ds) → Fits n d
first_fits n d ds h = ((or_parts (has_float d) (items_have_float ds) h.0).0, omega (arith, h.1))

rest_fits : (n : ℕ) (d : Data) (ds : Items) → ItemsFit n (item d ds) → ItemsFit n ds
rest_fits n d ds h = ((or_parts (has_float d) (items_have_float ds) h.0).1, omega (arith, h.1))

more_fits : (n : ℕ) (d : Data) (ds : Items) → Fits n d → ItemsFit n ds → ItemsFit n (item d ds)
more_fits n d ds h g = (or_from (has_float d) (items_have_float ds) h.0 g.0, omega (arith, h.1, g.1))

first_member : (n : ℕ) (k : List ℕ) (d : Data) (ms : Members) → MembersFit n (member k d ms) → Fits n d
first_member n k d ms h = ((or_parts (has_float d) (members_have_float ms) h.0).0, omega (arith, h.1))

rest_members : (n : ℕ) (k : List ℕ) (d : Data) (ms : Members) → MembersFit n (member k d ms) → MembersFit n ms
rest_members n k d ms h = ((or_parts (has_float d) (members_have_float ms) h.0).1, omega (arith, h.1))

more_members : (n : ℕ) (k : List ℕ) (d : Data) (ms : Members) → Fits n d → MembersFit n ms → MembersFit n (member k d ms)
more_members n k d ms h g = (or_from (has_float d) (members_have_float ms) h.0 g.0, omega (arith, h.1, g.1))

put_fits : (n : ℕ) (k : List ℕ) (c : Data) (ms : Members) → Fits n c → MembersFit n ms → MembersFit n (put k c ms)
put_fits n k c no_members h g = more_members n k c no_members h g
put_fits n k c (member l e ms) h g = at (slice_cmp nat_cmp k l) (put_fits n k c ms h (rest_members n l e ms g))
  where
    at : (o : Ordering) → MembersFit n (put k c ms) → MembersFit n (match_ordering o (member k c (member l e ms)) (member l c ms) (member l e (put k c ms)))
    at Less more = more_members n k c (member l e ms) h g
    at Equal more = more_members n l c ms h (rest_members n l e ms g)
    at Greater more = more_members n l e (put k c ms) (first_member n l e ms g) more

found_fits : (n : ℕ) (k : List ℕ) (c : Data) (ms : Members) → MembersFit n ms → get_member k ms ≡ Some c → Fits n c
found_fits n k c no_members g e = absurd (none-some c e)
found_fits n k c (member l d ms) g e = at (slice_cmp nat_cmp k l) (found_fits n k c ms (rest_members n l d ms g)) e
  where
    at : (o : Ordering) → (get_member k ms ≡ Some c → Fits n c) → match_ordering o (get_member k ms) (Some d) (get_member k ms) ≡ Some c → Fits n c
    at Less more e = more e
    at Equal more e = subst (Fits n) (same_Some d c e) (first_member n l d ms g)
    at Greater more e = more e

-- of an object, what is in it fits one less
members_fit : (n : ℕ) (ms : Members) → Fits n (object ms) → (m : ℕ) × (n ≡ suc m) × MembersFit m ms
members_fit zero ms h = absurd (omega (arith, h.1))
members_fit (suc m) ms h = (m, refl, (h.0, omega (arith, h.1)))

with_field_fits : (n : ℕ) (f : Field) (c d : Data) → ((m : ℕ) → n ≡ suc m → Fits m c) → Fits n d → Fits n (with_field f c d)
unfolding with_field
with_field_fits n f c null h g = g
with_field_fits n f c (boolean b) h g = g
with_field_fits n f c (number x) h g = g
with_field_fits n f c (string s) h g = g
with_field_fits n f c (array ds) h g = g
with_field_fits n f c (object ms) h g =
    let inside = members_fit n ms g in
    let all = put_fits inside.0 (field_name f) c ms (h inside.0 inside.1) inside.2 in
    (all.0, omega (arith, all.1, inside.1))

text_fits : (n : ℕ) (s : List ℕ) → Fits n (string s)
text_fits n s = (refl, omega arith)

by_name_fits : (n : ℕ) (f : Field) (d : Data) → Fits n d → Fits n (by_name f d)
unfolding by_name
by_name_fits n f d h = at (number_at f d)
  where
    at : (o : Option ℕ) → Fits n (option_map_or (λ k. with_field f (string (module_name k)) d) o d)
    at None = h
    at (Some k) = with_field_fits n f (string (module_name k)) d (λ m is. text_fits m (module_name k)) h

items_by_name_fit : (n : ℕ) (ds : Items) → ItemsFit n ds → ItemsFit n (items_by_name ds)
items_by_name_fit n no_items h = h
items_by_name_fit n (item d ds) h = more_fits n (by_name field.From d) (items_by_name ds) (by_name_fits n field.From d (first_fits n d ds h)) (items_by_name_fit n ds (rest_fits n d ds h))

-- of an array in a field, what is in it fits two less
array_fits : (n : ℕ) (f : Field) (d : Data) (ds : Items) → Fits n d → array_at f d ≡ Some ds → (m : ℕ) × (n ≡ suc (suc m)) × ItemsFit m ds
array_fits n f null ds h e = absurd (none-some ds e)
array_fits n f (boolean b) ds h e = absurd (none-some ds e)
array_fits n f (number x) ds h e = absurd (none-some ds e)
array_fits n f (string s) ds h e = absurd (none-some ds e)
array_fits n f (array es) ds h e = absurd (none-some ds e)
array_fits n f (object ms) ds h e = let inside = members_fit n ms h in at inside.0 inside.1 inside.2 (get_member (field_name f) ms) refl e
  where
    kind : (m : ℕ) (c : Data) → n ≡ suc m → Fits m c → as_array c ≡ Some ds → (k : ℕ) × (n ≡ suc (suc k)) × ItemsFit k ds
    kind m null is fits e = absurd (none-some ds e)
    kind m (boolean b) is fits e = absurd (none-some ds e)
    kind m (number x) is fits e = absurd (none-some ds e)
    kind m (string s) is fits e = absurd (none-some ds e)
    kind m (object ns) is fits e = absurd (none-some ds e)
    kind zero (array es) is fits e = absurd (omega (arith, fits.1))
    kind (suc k) (array es) is fits e = (k, is, subst (ItemsFit k) (same_Some es ds e) (fits.0, omega (arith, fits.1)))

    at : (m : ℕ) → n ≡ suc m → MembersFit m ms → (o : Option Data) → get_member (field_name f) ms ≡ o → option_and_then as_array o ≡ Some ds → (k : ℕ) × (n ≡ suc (suc k)) × ItemsFit k ds
    at m less fits None is e = absurd (none-some ds e)
    at m less fits (Some c) is e = kind m c less (found_fits m (field_name f) c ms fits is) e

-- with other items that fit as these did
array_put_fits : (n : ℕ) (f : Field) (d : Data) (ds es : Items) → array_at f d ≡ Some ds → ((m : ℕ) → ItemsFit m ds → ItemsFit m es) → Fits n d → Fits n (with_field f (array es) d)
array_put_fits n f d ds es at fit h =
    let inside = array_fits n f d ds h at in
    let all = fit inside.0 inside.2 in
    with_field_fits n f (array es) d (λ m is. (all.0, omega (arith, all.1, is, inside.1))) h

with_items_fits : (n : ℕ) (d : Data) → Fits n d → Fits n (with_items d)
unfolding with_items
with_items_fits n d h = at (array_at field.Items d) refl
  where
    at : (o : Option Items) → array_at field.Items d ≡ o → Fits n (option_map_or (λ ds. with_field field.Items (array (items_by_name ds)) d) o d)
    at None is = h
    at (Some ds) is = array_put_fits n field.Items d ds (items_by_name ds) is (λ m. items_by_name_fit m ds) h

named_module_fits : (n k : ℕ) (d : Data) → Fits n d → Fits n (named_module k d)
unfolding named_module
named_module_fits n k d h =
    with_field_fits n field.Name (string (module_name k)) (with_items (by_name field.Source (by_name field.Derive d))) (λ m is. text_fits m (module_name k))
    (with_items_fits n (by_name field.Source (by_name field.Derive d)) (by_name_fits n field.Source (by_name field.Derive d) (by_name_fits n field.Derive d h)))

named_modules_fit : (n k : ℕ) (ds : Items) → ItemsFit n ds → ItemsFit n (named_modules k ds)
named_modules_fit n k no_items h = h
named_modules_fit n k (item d ds) h = more_fits n (named_module k d) (named_modules (k + 1) ds) (named_module_fits n k d (first_fits n d ds h)) (named_modules_fit n (k + 1) ds (rest_fits n d ds h))

with_modules_fits : (n : ℕ) (d : Data) → Fits n d → Fits n (with_modules d)
unfolding with_modules
with_modules_fits n d h = at (array_at field.Modules d) refl
  where
    at : (o : Option Items) → array_at field.Modules d ≡ o → Fits n (option_map_or (λ ds. with_field field.Modules (array (named_modules 0 ds)) d) o d)
    at None is = h
    at (Some ds) is = array_put_fits n field.Modules d ds (named_modules 0 ds) is (λ m. named_modules_fit m 0 ds) h

pub upgraded_fits : (n : ℕ) (named : Bool) (d : Data) → Fits n d → Fits n (upgraded_by named d)
unfolding upgraded_by
upgraded_fits n true d h = h
upgraded_fits n false d h = with_field_fits n field.Notebook (number (unsigned 2)) (with_modules d) (λ m is. (refl, omega arith)) (with_modules_fits n d h)
