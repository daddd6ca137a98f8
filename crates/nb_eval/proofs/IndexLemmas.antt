-- Lemmas on the index of the locals.
use Rattle.std.proofs.Common.{◌≡◌, ◌≢◌, ◌⊎◌, inl, inr, ◌<◌, ◌≤◌, ℕ, zero, suc, ◌+◌, ◌-◌, Bool, true, false, List, [], ◌∷◌, ◌++◌, length, take, map, get_or, slice_get, slice_set, Option, Some, None, if◌then◌else◌, refl, ap, sym, ◌∙◌, subst, append-nil, append_assoc, length-append, arith}
use Rattle.std.specs.Str.{bytes_eq}
use Rattle.std.proofs.lemmas.Slice.Eq.{bytes_eq-Decides}
use Rattle.std.proofs.lemmas.List.{map-append, length-set, length-take-le, get_or-set_same, get_or-set_other}
use Rattle.std.proofs.Math.Seq.{take-append_seam}
use Rattle.nb_value.specs.declared.pairs.Field.{Field}
use Rattle.nb_value.specs.declared.value.Value.{Value}
use Rattle.nb_value.specs.Fields.{names}
use Rattle.nb_value.proofs.FieldLemmas.{names-append}
use Rattle.nb_eval.specs.Locals.{name_value, place, place_from, HasNext}
use Rattle.nb_eval.specs.LocalsIndex.{later_or, last_place, shadowed_after, under, IsIndexed, Sets}

-- ---- the last place of a name

-- a place counted from here on, or else the best before
counted : ℕ → Option ℕ → Option ℕ → Option ℕ
counted at None best = best
counted at (Some k) best = Some (at + k)

counted_more : (at : ℕ) (best : Option ℕ) (same : Bool) (found : Option ℕ)
    → counted (at + 1) found (if same then Some at else best) ≡ counted at (later_or found same) best
unfolding counted
counted_more at best true None = ap Some (omega arith)
counted_more at best false None = refl
counted_more at best same (Some k) = ap Some (omega arith)

from_last : (name : List ℕ) (at : ℕ) (best : Option ℕ) (ls : List (Field Value)) → place_from at best name ls ≡ counted at (last_place name (names ls)) best
unfolding counted
from_last name at best [] = refl
from_last name at best (l ∷ ls) = from_last name (at + 1) (if bytes_eq l.name name then Some at else best) ls ∙ counted_more at best (bytes_eq l.name name) (last_place name (names ls))

none_counted : (found : Option ℕ) → counted 0 found None ≡ found
unfolding counted
none_counted None = refl
none_counted (Some k) = ap Some (omega arith)

pub place-last : (name : List ℕ) (ls : List (Field Value)) → place name ls ≡ last_place name (names ls)
place-last name ls = from_last name 0 None ls ∙ none_counted (last_place name (names ls))

later_over : (found : Option ℕ) (last same : Bool) (n : ℕ) → later_or (if last then Some n else found) same ≡ (if last then Some (n + 1) else later_or found same)
later_over found true same n = refl
later_over found false same n = refl

pub last_place-snoc : (name n : List ℕ) (ns : List (List ℕ)) → last_place name (ns ++ n ∷ []) ≡ (if bytes_eq n name then Some (length ns) else last_place name ns)
last_place-snoc name n [] = refl
last_place-snoc name n (m ∷ ns) =
    ap (λ o. later_or o (bytes_eq m name)) (last_place-snoc name n ns) ∙ later_over (last_place name ns) (bytes_eq n name) (bytes_eq m name) (length ns) ∙ ap (λ k. if bytes_eq n name then Some k else later_or (last_place name ns) (bytes_eq m name)) (omega arith)

named_at : (name n : List ℕ) (ns : List (List ℕ)) (k : ℕ) (same : Bool) (found : Option ℕ) → bytes_eq n name ≡ same → ((j : ℕ) → found ≡ Some j → slice_get ns j ≡ Some name)
    → later_or found same ≡ Some k → slice_get (n ∷ ns) k ≡ Some name
named_at name n ns k same (Some j) b rest e = let is : j + 1 ≡ k = cc in let next : suc j ≡ k = omega arith in subst (λ i. slice_get (n ∷ ns) i ≡ Some name) next (rest j refl)
named_at name n ns k true None b rest e = let is : 0 ≡ k = cc in subst (λ i. slice_get (n ∷ ns) i ≡ Some name) is (ap Some ((bytes_eq-Decides n name).0 b))
named_at name n ns k false None b rest e = absurd (cc)

-- the name stands at its last place
pub named : (name : List ℕ) (ns : List (List ℕ)) (k : ℕ) → last_place name ns ≡ Some k → slice_get ns k ≡ Some name
named name [] k e = absurd (cc)
named name (n ∷ ns) k e = named_at name n ns k (bytes_eq n name) (last_place name ns) refl (named name ns) e

-- ---- what names shadow

shadowed-snoc : (seen ns : List (List ℕ)) (n : List ℕ) → shadowed_after seen (ns ++ n ∷ []) ≡ shadowed_after seen ns ++ last_place n (seen ++ ns) ∷ []
shadowed-snoc seen [] n = ap (λ ms. last_place n ms ∷ []) (sym (append-nil seen))
shadowed-snoc seen (m ∷ ns) n =
    ap (λ os. last_place m seen ∷ os) (shadowed-snoc (seen ++ m ∷ []) ns n) ∙ ap (λ ms. (last_place m seen ∷ shadowed_after (seen ++ m ∷ []) ns) ++ last_place n ms ∷ []) (append_assoc seen (m ∷ []) ns)

snoc_same : {A : Type 0} (xs ys : List A) (x y : A) → xs ++ x ∷ [] ≡ ys ++ y ∷ [] → (xs ≡ ys) × (x ≡ y)
snoc_same [] [] x y e = (refl, cc)
snoc_same [] (b ∷ ys) x y e = absurd (omega (arith, ap length e, length-append ys (y ∷ [])))
snoc_same (a ∷ xs) [] x y e = absurd (omega (arith, ap length e, length-append xs (x ∷ [])))
snoc_same (a ∷ xs) (b ∷ ys) x y e =
    let rest : xs ++ x ∷ [] ≡ ys ++ y ∷ [] = cc in
    let same = snoc_same xs ys x y rest in
    (cc, same.1)

-- ---- the index

pub length-names : (ls : List (Field Value)) → length (names ls) ≡ length ls
length-names [] = refl
length-names (l ∷ ls) = ap suc (length-names ls)

pub names-take : (n : ℕ) (ls : List (Field Value)) → names (take n ls) ≡ take n (names ls)
names-take zero [] = refl
names-take zero (l ∷ ls) = refl
names-take (suc n) [] = refl
names-take (suc n) (l ∷ ls) = ap (λ ns. l.name ∷ ns) (names-take n ls)

pub names-snoc : (ls : List (Field Value)) (l : Field Value) → names (ls ++ l ∷ []) ≡ names ls ++ l.name ∷ []
names-snoc ls l = names-append ls (l ∷ [])

-- the last place once one more local stands at the end
place-snoc : (name : List ℕ) (ls : List (Field Value)) (l : Field Value) → last_place name (names (ls ++ l ∷ [])) ≡ (if bytes_eq l.name name then Some (length ls) else last_place name (names ls))
place-snoc name ls l =
    ap (last_place name) (names-snoc ls l) ∙ last_place-snoc name l.name (names ls) ∙ ap (λ k. if bytes_eq l.name name then Some k else last_place name (names ls)) (length-names ls)

shadows-snoc : (ls : List (Field Value)) (l : Field Value) → shadowed_after [] (names (ls ++ l ∷ [])) ≡ shadowed_after [] (names ls) ++ last_place l.name (names ls) ∷ []
shadows-snoc ls l = ap (shadowed_after []) (names-snoc ls l) ∙ shadowed-snoc [] (names ls) l.name

pub IsIndexed-none : (number : List ℕ → Option ℕ) → ((name : List ℕ) → number name ≡ None) → IsIndexed [] [] [] number []
IsIndexed-none number none = record {
  places = λ name. ap (under []) (none name);
  shadows = refl;
  numbered = refl;
  below = λ name k e. let f = sym (none name) ∙ e in absurd (cc);
  apart = λ a b k e _. let f = sym (none a) ∙ e in absurd (cc);
}

-- what is numbered stays so
still : (old new : List ℕ → Option ℕ) → ((name : List ℕ) (k : ℕ) → old name ≡ Some k → new name ≡ Some k) → (ns : List (List ℕ)) (ks : List ℕ) → map old ns ≡ map Some ks → map new ns ≡ map Some ks
still old new more [] [] e = refl
still old new more [] (k ∷ ks) e = absurd (cc)
still old new more (n ∷ ns) [] e = absurd (cc)
still old new more (n ∷ ns) (k ∷ ks) e =
    let first : old n ≡ Some k = cc in
    let rest : map old ns ≡ map Some ks = cc in
    ap (λ o. o ∷ map new ns) (more n k first) ∙ ap (λ os. Some k ∷ os) (still old new more ns ks rest)

get_or-grown : (tops : List (Option ℕ)) (k : ℕ) → get_or (tops ++ None ∷ []) k None ≡ get_or tops k None
get_or-grown [] zero = refl
get_or-grown [] (suc k) = refl
get_or-grown (top ∷ tops) zero = refl
get_or-grown (top ∷ tops) (suc k) = get_or-grown tops k

under-grown : (tops : List (Option ℕ)) (o : Option ℕ) → under (tops ++ None ∷ []) o ≡ under tops o
under-grown tops None = refl
under-grown tops (Some k) = get_or-grown tops k

get_or-past : (tops : List (Option ℕ)) → get_or tops (length tops) None ≡ None
get_or-past [] = refl
get_or-past (top ∷ tops) = get_or-past tops

under-set : (tops : List (Option ℕ)) (k : ℕ) (top : Option ℕ) (o : Option ℕ) → ((j : ℕ) → o ≡ Some j → j ≢ k) → under (slice_set tops k top) o ≡ under tops o
under-set tops k top None other = refl
under-set tops k top (Some j) other = get_or-set_other tops k j top None (other j refl)

under-set_same : (tops : List (Option ℕ)) (k : ℕ) (top o : Option ℕ) → o ≡ Some k → k < length tops → under (slice_set tops k top) o ≡ top
under-set_same tops k top o is lt = ap (under (slice_set tops k top)) is ∙ get_or-set_same tops k top None lt

module _ (ns : List (List ℕ)) (ks : List ℕ) (os : List (Option ℕ)) (old new : List ℕ → Option ℕ) (tops : List (Option ℕ)) (h : IsIndexed ns ks os old tops) where
  -- one number more, which no name has yet
  pub IsIndexed-room : ((name : List ℕ) → new name ≡ old name) → IsIndexed ns ks os new (tops ++ None ∷ [])
  IsIndexed-room same = record {
    places = λ name. ap (under (tops ++ None ∷ [])) (same name) ∙ under-grown tops (old name) ∙ h.places name;
    shadows = h.shadows;
    numbered = still old new (λ name k e. same name ∙ e) ns ks h.numbered;
    below = λ name k e. omega (arith, h.below name k (sym (same name) ∙ e), length-append tops (None ∷ []));
    apart = λ a b k e f. h.apart a b k (sym (same a) ∙ e) (sym (same b) ∙ f);
  }

  module _ (n : List ℕ) (none : old n ≡ None) (sets : Sets old new n (length tops)) where
    abbrev Has : List ℕ → ℕ → Type 0
    Has name k = ((n ≡ name) × (k ≡ length tops)) ⊎ (old name ≡ Some k)

    has_by : (name : List ℕ) (k : ℕ) (same : Bool) → bytes_eq n name ≡ same → (if same then Some (length tops) else old name) ≡ Some k → Has name k
    has_by name k true b e = inl ((bytes_eq-Decides n name).0 b, cc)
    has_by name k false b e = inr e

    has : (name : List ℕ) (k : ℕ) → new name ≡ Some k → Has name k
    has name k e = has_by name k (bytes_eq n name) refl (sym (sets name) ∙ e)

    place_at : (name : List ℕ) (same : Bool) → bytes_eq n name ≡ same → under (tops ++ None ∷ []) (if same then Some (length tops) else old name) ≡ last_place name ns
    place_at name true b =
        let is : old name ≡ None = ap old (sym ((bytes_eq-Decides n name).0 b)) ∙ none in
        under-grown tops (Some (length tops)) ∙ get_or-past tops ∙ sym (ap (under tops) is) ∙ h.places name
    place_at name false b = under-grown tops (old name) ∙ h.places name

    still_at : (name : List ℕ) (k : ℕ) (same : Bool) → bytes_eq n name ≡ same → old name ≡ Some k → (if same then Some (length tops) else old name) ≡ Some k
    still_at name k true b e = let is : old name ≡ None = ap old (sym ((bytes_eq-Decides n name).0 b)) ∙ none in absurd (cc)
    still_at name k false b e = e

    below_by : (name : List ℕ) (k : ℕ) → Has name k → k < length (tops ++ None ∷ [])
    below_by name k (inl p) = omega (arith, p.1, length-append tops (None ∷ []))
    below_by name k (inr e) = omega (arith, h.below name k e, length-append tops (None ∷ []))

    apart_by : (a b : List ℕ) (k : ℕ) → Has a k → Has b k → a ≡ b
    apart_by a b k (inl p) (inl q) = sym p.0 ∙ q.0
    apart_by a b k (inl p) (inr e) = absurd (omega (arith, p.1, h.below b k e))
    apart_by a b k (inr e) (inl q) = absurd (omega (arith, q.1, h.below a k e))
    apart_by a b k (inr e) (inr f) = h.apart a b k e f

    -- a name that has none gets the next number
    pub IsIndexed-named : IsIndexed ns ks os new (tops ++ None ∷ [])
    IsIndexed-named = record {
      places = λ name. ap (under (tops ++ None ∷ [])) (sets name) ∙ place_at name (bytes_eq n name) refl;
      shadows = h.shadows;
      numbered = still old new (λ name k e. sets name ∙ still_at name k (bytes_eq n name) refl e) ns ks h.numbered;
      below = λ name k e. below_by name k (has name k e);
      apart = λ a b k e f. apart_by a b k (has a k e) (has b k f);
    }

-- a name of another number
other_number : (a b : List ℕ) (number : List ℕ → Option ℕ) (k : ℕ) → bytes_eq a b ≡ false → number a ≡ Some k → ((a b : List ℕ) (k : ℕ) → number a ≡ Some k → number b ≡ Some k → a ≡ b) → (j : ℕ) → number b ≡ Some j → j ≢ k
other_number a b number k differ is apart j e same =
    let equal : bytes_eq a b ≡ true = (bytes_eq-Decides a b).1 (apart a b k is (e ∙ ap Some same)) in
    absurd (cc)

numbers-snoc : (number : List ℕ → Option ℕ) (ls : List (Field Value)) (l : Field Value) → map number (names (ls ++ l ∷ [])) ≡ map number (names ls) ++ number l.name ∷ []
numbers-snoc number ls l = ap (map number) (names-snoc ls l) ∙ map-append number (names ls) (l.name ∷ [])

module _ (ls : List (Field Value)) (l : Field Value) (ks : List ℕ) (k : ℕ) (os : List (Option ℕ)) (number : List ℕ → Option ℕ) (tops : List (Option ℕ)) where
  more_at : IsIndexed (names ls) ks os number tops → number l.name ≡ Some k → (name : List ℕ) (same : Bool) → bytes_eq l.name name ≡ same → under (slice_set tops k (Some (length ls))) (number name) ≡ (if same then Some (length ls) else last_place name (names ls))
  more_at h is name true b = under-set_same tops k (Some (length ls)) (number name) (ap number (sym ((bytes_eq-Decides l.name name).0 b)) ∙ is) (h.below l.name k is)
  more_at h is name false b = under-set tops k (Some (length ls)) (number name) (other_number l.name name number k b is h.apart) ∙ h.places name

  pub IsIndexed-more : IsIndexed (names ls) ks os number tops → number l.name ≡ Some k → IsIndexed (names (ls ++ l ∷ [])) (ks ++ k ∷ []) (os ++ under tops (Some k) ∷ []) number (slice_set tops k (Some (length ls)))
  IsIndexed-more h is = record {
    places = λ name. more_at h is name (bytes_eq l.name name) refl ∙ sym (place-snoc name ls l);
    shadows = ap (λ os. os ++ under tops (Some k) ∷ []) h.shadows ∙ ap (λ o. shadowed_after [] (names ls) ++ o ∷ []) (sym (ap (under tops) is) ∙ h.places l.name) ∙ sym (shadows-snoc ls l);
    numbered = numbers-snoc number ls l ∙ ap (λ os. os ++ number l.name ∷ []) h.numbered ∙ ap (λ o. map Some ks ++ o ∷ []) is ∙ sym (map-append Some ks (k ∷ []));
    below = λ name j e. omega (arith, h.below name j e, length-set tops k (Some (length ls)));
    apart = h.apart;
  }

  module _ (o : Option ℕ) (h : IsIndexed (names (ls ++ l ∷ [])) (ks ++ k ∷ []) (os ++ o ∷ []) number tops) where
    same_numbers : (map number (names ls) ≡ map Some ks) × (number l.name ≡ Some k)
    same_numbers = snoc_same (map number (names ls)) (map Some ks) (number l.name) (Some k) (sym (numbers-snoc number ls l) ∙ h.numbered ∙ map-append Some ks (k ∷ []))

    same_outers : (os ≡ shadowed_after [] (names ls)) × (o ≡ last_place l.name (names ls))
    same_outers = snoc_same os (shadowed_after [] (names ls)) o (last_place l.name (names ls)) (h.shadows ∙ shadows-snoc ls l)

    fewer_at : (name : List ℕ) (same : Bool) → bytes_eq l.name name ≡ same → under tops (number name) ≡ (if same then Some (length ls) else last_place name (names ls)) → under (slice_set tops k o) (number name) ≡ last_place name (names ls)
    fewer_at name true b e =
        let is : l.name ≡ name = (bytes_eq-Decides l.name name).0 b in
        under-set_same tops k o (number name) (ap number (sym is) ∙ same_numbers.1) (h.below l.name k same_numbers.1) ∙ same_outers.1 ∙ ap (λ n. last_place n (names ls)) is
    fewer_at name false b e = under-set tops k o (number name) (other_number l.name name number k b same_numbers.1 h.apart) ∙ e

    pub IsIndexed-fewer : IsIndexed (names ls) ks os number (slice_set tops k o)
    IsIndexed-fewer = record {
      places = λ name. fewer_at name (bytes_eq l.name name) refl (h.places name ∙ place-snoc name ls l);
      shadows = same_outers.0;
      numbered = same_numbers.0;
      below = λ name j e. omega (arith, h.below name j e, length-set tops k o);
      apart = h.apart;
    }

-- ---- a value that is changed

pub names-set : (ls : List (Field Value)) (k : ℕ) (name : List ℕ) (v : Value) → slice_get (names ls) k ≡ Some name → names (slice_set ls k (name_value name v)) ≡ names ls
names-set [] k name v e = refl
names-set (l ∷ ls) zero name v e = let is : l.name ≡ name = cc in ap (λ n. n ∷ names ls) (sym is)
names-set (l ∷ ls) (suc k) name v e = ap (λ ns. l.name ∷ ns) (names-set ls k name v e)

pub name_there : {A : Type 0} (field : A → Field Value) (xs : List A) (k : ℕ) (name : List ℕ) (d : A) → slice_get (names (map field xs)) k ≡ Some name → (field (get_or xs k d)).name ≡ name
name_there field [] k name d e = absurd (cc)
name_there field (x ∷ xs) zero name d e = cc
name_there field (x ∷ xs) (suc k) name d e = name_there field xs k name d e

pub within : (ls : List (Field Value)) (k : ℕ) (name : List ℕ) → slice_get (names ls) k ≡ Some name → k < length ls
within [] k name e = absurd (cc)
within (l ∷ ls) zero name e = omega arith
within (l ∷ ls) (suc k) name e = let rest = within ls k name e in omega arith

-- ---- the same of a list of locals, by what each holds

module _ {A : Type 0} (field : A → Field Value) (number : A → ℕ) (outer : A → Option ℕ) (numbers : List ℕ → Option ℕ) where
  abbrev Of : List A → List (Option ℕ) → Type 0
  Of xs tops = IsIndexed (names (map field xs)) (map number xs) (map outer xs) numbers tops

  abbrev WithLast : List A → A → List (Option ℕ) → Type 0
  WithLast xs x tops = IsIndexed (names (map field xs ++ field x ∷ [])) (map number xs ++ number x ∷ []) (map outer xs ++ outer x ∷ []) numbers tops

  apart : (xs : List A) (x : A) (tops : List (Option ℕ)) → Of (xs ++ x ∷ []) tops → WithLast xs x tops
  apart xs x tops h =
      let fields = subst (λ fs. IsIndexed (names fs) (map number (xs ++ x ∷ [])) (map outer (xs ++ x ∷ [])) numbers tops) (map-append field xs (x ∷ [])) h in
      let numbered = subst (λ ks. IsIndexed (names (map field xs ++ field x ∷ [])) ks (map outer (xs ++ x ∷ [])) numbers tops) (map-append number xs (x ∷ [])) fields in
      subst (λ os. IsIndexed (names (map field xs ++ field x ∷ [])) (map number xs ++ number x ∷ []) os numbers tops) (map-append outer xs (x ∷ [])) numbered

  joined : (xs : List A) (x : A) (tops : List (Option ℕ)) → WithLast xs x tops → Of (xs ++ x ∷ []) tops
  joined xs x tops h =
      let fields = subst (λ fs. IsIndexed (names fs) (map number xs ++ number x ∷ []) (map outer xs ++ outer x ∷ []) numbers tops) (sym (map-append field xs (x ∷ []))) h in
      let numbered = subst (λ ks. IsIndexed (names (map field (xs ++ x ∷ []))) ks (map outer xs ++ outer x ∷ []) numbers tops) (sym (map-append number xs (x ∷ []))) fields in
      subst (λ os. IsIndexed (names (map field (xs ++ x ∷ []))) (map number (xs ++ x ∷ [])) os numbers tops) (sym (map-append outer xs (x ∷ []))) numbered

  -- one local more
  pub more : (xs ys : List A) (x : A) (tops : List (Option ℕ)) → ys ≡ xs ++ x ∷ [] → Of xs tops → numbers (field x).name ≡ Some (number x) → outer x ≡ under tops (Some (number x)) → Of ys (slice_set tops (number x) (Some (length (map field xs))))
  more xs ys x tops is h named shadows =
      let new = slice_set tops (number x) (Some (length (map field xs))) in
      let snoc = IsIndexed-more (map field xs) (field x) (map number xs) (number x) (map outer xs) numbers tops h named in
      let last = subst (λ o. IsIndexed (names (map field xs ++ field x ∷ [])) (map number xs ++ number x ∷ []) (map outer xs ++ o ∷ []) numbers new) (sym shadows) snoc in
      subst (λ zs. Of zs new) (sym is) (joined xs x new last)

  -- one local fewer
  pub fewer : (xs ys : List A) (x : A) (tops : List (Option ℕ)) → ys ≡ xs ++ x ∷ [] → Of ys tops → Of xs (slice_set tops (number x) (outer x))
  fewer xs ys x tops is h =
      IsIndexed-fewer (map field xs) (field x) (map number xs) (number x) (map outer xs) numbers tops (outer x) (apart xs x tops (subst (λ zs. Of zs tops) is h))

pub front : {A : Type 0} (xs ys : List A) (x : A) → ys ≡ xs ++ x ∷ [] → take (length ys - 1) ys ≡ xs
front xs ys x is =
    let len : length ys - 1 ≡ length xs = omega (arith, ap length is, length-append xs (x ∷ [])) in
    ap (λ n. take n ys) len ∙ ap (take (length xs)) is ∙ take-append_seam xs (x ∷ [])

-- ---- the local of a turn, which is the last

last_at : (name : List ℕ) (ns : List (List ℕ)) (at : ℕ) → length ns ≡ at + 1 → slice_get ns at ≡ Some name → last_place name ns ≡ Some at
last_at name [] at len e = absurd (cc)
last_at name (n ∷ []) zero len e = let is : n ≡ name = cc in ap (later_or None) ((bytes_eq-Decides n name).1 is)
last_at name (n ∷ []) (suc at) len e = absurd (cc)
last_at name (n ∷ m ∷ ns) zero len e = absurd (omega (arith, len))
last_at name (n ∷ m ∷ ns) (suc at) len e = ap (λ o. later_or o (bytes_eq n name)) (last_at name (m ∷ ns) at (omega (arith, len)) e) ∙ ap Some (omega arith)

pub next_place : (name : List ℕ) (ls : List (Field Value)) (at : ℕ) → length ls ≡ at + 1 → slice_get (names ls) at ≡ Some name → place name ls ≡ Some at
next_place name ls at len e = place-last name ls ∙ last_at name (names ls) at (length-names ls ∙ len) e

pub set_last : (l : Field Value) (ls : List (Field Value)) (at : ℕ) → length ls ≡ at + 1 → slice_set ls at l ≡ take at ls ++ l ∷ []
set_last l [] at len = absurd (omega (arith, len))
set_last l (m ∷ []) zero len = refl
set_last l (m ∷ n ∷ ls) zero len = absurd (omega (arith, len))
set_last l (m ∷ ls) (suc at) len = ap (λ ms. m ∷ ms) (set_last l ls at (omega (arith, len)))

slice_get-end : (ns : List (List ℕ)) (n : List ℕ) → slice_get (ns ++ n ∷ []) (length ns) ≡ Some n
slice_get-end [] n = refl
slice_get-end (m ∷ ns) n = slice_get-end ns n

pub has_next : (name : List ℕ) (at : ℕ) (v : Value) (ls : List (Field Value)) → at ≤ length ls → HasNext name at (take at ls ++ name_value name v ∷ [])
has_next name at v ls le =
    let l : Field Value = name_value name v in
    let len : length (take at ls) ≡ at = length-take-le at ls le in
    let here : length (names (take at ls)) ≡ at = length-names (take at ls) ∙ len in
    inr (omega (arith, len, length-append (take at ls) (l ∷ [])), ap (λ ns. slice_get ns at) (names-snoc (take at ls) l) ∙ ap (slice_get (names (take at ls) ++ name ∷ [])) (sym here) ∙ slice_get-end (names (take at ls)) name)

pub same_next : (name : List ℕ) (at : ℕ) (ls ms : List (Field Value)) → names ms ≡ names ls → HasNext name at ls → HasNext name at ms
same_next name at ls ms e (inl len) = inl (sym (length-names ms) ∙ ap length e ∙ length-names ls ∙ len)
same_next name at ls ms e (inr h) = inr (sym (length-names ms) ∙ ap length e ∙ length-names ls ∙ h.0, ap (λ ns. slice_get ns at) e ∙ h.1)

pub the_next : (name : List ℕ) (at : ℕ) (ls : List (Field Value)) → HasNext name at ls → length ls ≢ at → (length ls ≡ at + 1) × (slice_get (names ls) at ≡ Some name)
the_next name at ls (inl len) other = absurd (other len)
the_next name at ls (inr h) other = h

pub at_least : (name : List ℕ) (at : ℕ) (ls : List (Field Value)) → HasNext name at ls → at ≤ length ls
at_least name at ls (inl len) = omega (arith, len)
at_least name at ls (inr h) = omega (arith, h.0)

-- ---- a local that stands at the place under its number is its name's innermost

number_at : (number : List ℕ → Option ℕ) (ns : List (List ℕ)) (ks : List ℕ) (at : ℕ) (name : List ℕ) (k : ℕ) → map number ns ≡ map Some ks → slice_get ns at ≡ Some name → slice_get ks at ≡ Some k → number name ≡ Some k
number_at number [] ks at name k e n m = absurd (cc)
number_at number (n ∷ ns) [] at name k e x m = absurd (cc)
number_at number (n ∷ ns) (j ∷ ks) zero name k e x m = let first : number n ≡ Some j = cc in let is : n ≡ name = cc in let same : j ≡ k = cc in ap number (sym is) ∙ first ∙ ap Some same
number_at number (n ∷ ns) (j ∷ ks) (suc at) name k e x m = let rest : map number ns ≡ map Some ks = cc in number_at number ns ks at name k rest x m

pub innermost_at : (ns : List (List ℕ)) (ks : List ℕ) (os : List (Option ℕ)) (number : List ℕ → Option ℕ) (tops : List (Option ℕ)) (name : List ℕ) (at k : ℕ) → IsIndexed ns ks os number tops → slice_get ns at ≡ Some name → slice_get ks at ≡ Some k → under tops (Some k) ≡ Some at → last_place name ns ≡ Some at
innermost_at ns ks os number tops name at k h n m top = sym (h.places name) ∙ ap (under tops) (number_at number ns ks at name k h.numbered n m) ∙ top

pub slice_get-map : {A B : Type 0} (f : A → B) (xs : List A) (at : ℕ) (x : A) → slice_get xs at ≡ Some x → slice_get (map f xs) at ≡ Some (f x)
slice_get-map f [] at x e = absurd (cc)
slice_get-map f (y ∷ xs) zero x e = let is : y ≡ x = cc in ap (λ z. Some (f z)) is
slice_get-map f (y ∷ xs) (suc at) x e = slice_get-map f xs at x e

pub names-get : (ls : List (Field Value)) (at : ℕ) (l : Field Value) → slice_get ls at ≡ Some l → slice_get (names ls) at ≡ Some l.name
names-get ls at l e = slice_get-map (λ (l : Field Value). l.name) ls at l e

pub slice_get-get_or : {A : Type 0} (xs : List A) (at : ℕ) (x : A) → at < length xs → ((d : A) → x ≡ get_or xs at d) → slice_get xs at ≡ Some x
slice_get-get_or [] at x lt e = absurd (omega (arith, lt))
slice_get-get_or (y ∷ xs) zero x lt e = ap Some (sym (e y))
slice_get-get_or (y ∷ xs) (suc at) x lt e = slice_get-get_or xs at x (omega (arith, lt)) e
