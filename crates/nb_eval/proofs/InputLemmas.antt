-- What a field in the middle of fields in order tells of the fields before it and after it.
use Rattle.std.proofs.Common.{◌≡◌, ℕ, List, [], ◌∷◌, ◌++◌, Option, Some, None, refl, ap, ◌∙◌, subst, Ordering, Less, Equal, Greater, nat_cmp}
use Rattle.std.specs.List.{AllByRecursion}
use Rattle.std.specs.List.Sorted.{IsStrictlySortedBy}
use Rattle.std.specs.Ordering.{match_ordering, ordering_reverse}
use Rattle.std.specs.Cmp.Lexicographic.{slice_cmp}
use Rattle.std.specs.FinMap.{nat_cmp-IsAntisymmetric, slice_cmp-IsAntisymmetric}
use Rattle.std.proofs.lemmas.Cmp.{nat_list_cmp_total}
use Rattle.nb_value.specs.declared.pairs.Field.{Field}
use Rattle.nb_value.specs.Fields.{names, IsInOrder, value_at}

abbrev cmp : List ℕ → List ℕ → Ordering
cmp = slice_cmp nat_cmp

same_name : (a b : List ℕ) → cmp a b ≡ Equal → a ≡ b
same_name = slice_cmp-IsAntisymmetric nat_cmp-IsAntisymmetric

module _ {T : Type 0} where
  all_front : (P : List ℕ → Type 0) (xs ys : List (Field T)) → AllByRecursion P (names (xs ++ ys)) → AllByRecursion P (names xs)
  all_front P [] ys h = tt
  all_front P (x ∷ xs) ys h = (h.0, all_front P xs ys h.1)

  all_middle : (P : List ℕ → Type 0) (xs ys : List (Field T)) (m : Field T) → AllByRecursion P (names (xs ++ m ∷ ys)) → P m.name
  all_middle P [] ys m h = h.0
  all_middle P (x ∷ xs) ys m h = all_middle P xs ys m h.1

  pub in_front : (xs ys : List (Field T)) → IsInOrder (xs ++ ys) → IsInOrder xs
  unfolding IsStrictlySortedBy
  in_front [] ys h = tt
  in_front (x ∷ xs) ys h = (all_front (λ y. cmp x.name y ≡ Less) xs ys h.0, in_front xs ys h.1)

  pub in_back : (xs ys : List (Field T)) (m : Field T) → IsInOrder (xs ++ m ∷ ys) → IsInOrder ys
  unfolding IsStrictlySortedBy
  in_back [] ys m h = h.1
  in_back (x ∷ xs) ys m h = in_back xs ys m h.1

module _ {T : Type 0} (n : List ℕ) where
  chosen : Ordering → Field T → Option T → Option T
  chosen o f other = match_ordering o other (Some f.value) other

  -- names above the wanted one
  none_above : (m : List ℕ) (fs : List (Field T)) → cmp m n ≡ Greater → AllByRecursion (λ y. cmp m y ≡ Less) (names fs) → value_at n fs ≡ None
  unfolding chosen
  none_above m [] above h = refl
  none_above m (f ∷ fs) above h =
      let below : cmp n m ≡ Less = nat_list_cmp_total.antisymm n m ∙ ap ordering_reverse above in
      let less : cmp n f.name ≡ Less = nat_list_cmp_total.trans n m f.name below h.0 in
      let greater : cmp f.name n ≡ Greater = nat_list_cmp_total.antisymm f.name n ∙ ap ordering_reverse less in
      ap (λ o. chosen o f (value_at n fs)) greater ∙ none_above m fs above h.1

  pub value-after : (xs ys : List (Field T)) (m : Field T) → IsInOrder (xs ++ m ∷ ys) → cmp m.name n ≡ Less → value_at n (xs ++ m ∷ ys) ≡ value_at n ys
  unfolding IsStrictlySortedBy chosen
  value-after [] ys m h is = ap (λ o. chosen o m (value_at n ys)) is
  value-after (x ∷ xs) ys m h is =
      let less : cmp x.name n ≡ Less = nat_list_cmp_total.trans x.name m.name n (all_middle (λ y. cmp x.name y ≡ Less) xs ys m h.0) is in
      ap (λ o. chosen o x (value_at n (xs ++ m ∷ ys))) less ∙ value-after xs ys m h.1 is

  pub value-here : (xs ys : List (Field T)) (m : Field T) → IsInOrder (xs ++ m ∷ ys) → cmp m.name n ≡ Equal → value_at n (xs ++ m ∷ ys) ≡ Some m.value
  unfolding IsStrictlySortedBy chosen
  value-here [] ys m h is = ap (λ o. chosen o m (value_at n ys)) is
  value-here (x ∷ xs) ys m h is =
      let less : cmp x.name n ≡ Less = subst (λ k. cmp x.name k ≡ Less) (same_name m.name n is) (all_middle (λ y. cmp x.name y ≡ Less) xs ys m h.0) in
      ap (λ o. chosen o x (value_at n (xs ++ m ∷ ys))) less ∙ value-here xs ys m h.1 is

  pub value-before : (xs ys : List (Field T)) (m : Field T) → IsInOrder (xs ++ m ∷ ys) → cmp m.name n ≡ Greater → value_at n (xs ++ m ∷ ys) ≡ value_at n xs
  unfolding IsStrictlySortedBy chosen
  value-before [] ys m h is = ap (λ o. chosen o m (value_at n ys)) is ∙ none_above m.name ys is h.0
  value-before (x ∷ xs) ys m h is = ap (chosen (cmp x.name n) x) (value-before xs ys m h.1 is)
