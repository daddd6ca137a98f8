-- The walk over the modules that a derive copies.
use Rattle.std.proofs.Common.{inl, inr, ℕ, zero, suc, ◌≡◌, ◌+◌, ◌-◌, ◌<◌, ◌≤◌, refl, sym, ◌∙◌, ap, Bool, true, false, ◌&&◌, ◌||◌, not, cond, List, [], ◌∷◌, ◌++◌, length, arith, Option, Some, None, ◌⊎◌, subst}
use Rattle.std.specs.Prelude.{eqb, slice_get}
use Rattle.std.specs.List.{list_any, IsDistinct, AllByRecursion}
use Rattle.std.proofs.lemmas.List.{length_push}
use Rattle.std.proofs.lemmas.Option.{slice_get_past}
use Rattle.std.proofs.lemmas.Bool.{cases_Bool, eqb-true, eqb-false, ne_eqb}
use Rattle.std.proofs.lemmas.Map.Steps.{length-le_from_distinct_below}
use Rattle.nb_sheet.specs.Lists.{from_option}
use Rattle.nb_sheet.specs.declared.row.VarRow.{VarRow}
use Rattle.nb_sheet.specs.declared.row.BodyOf.{BodyOf}
use Rattle.nb_sheet.specs.declared.row.BodyOf.TheVariants.{Cell as CellBody, Import as ImportBody}
use Rattle.nb_sheet.specs.Derive.{Modules, by_derive, AreModules, has_number, add_modules, add_module, walk}

module _ {A : Type 0} (test : A → Bool) where
  any_push : (xs : List A) (x : A) → list_any test (xs ++ x ∷ []) ≡ (list_any test xs || test x)
  any_push [] x = or_false (test x)
    where
      or_false : (b : Bool) → (b || false) ≡ b
      or_false true = refl
      or_false false = refl
  any_push (y ∷ xs) x = ap (λ (b : Bool). test y || b) (any_push xs x) ∙ or_assoc (test y) (list_any test xs) (test x)
    where
      or_assoc : (a b c : Bool) → (a || (b || c)) ≡ ((a || b) || c)
      or_assoc true b c = refl
      or_assoc false b c = refl

-- ---- the list stays one of modules

differs_push : (x k : ℕ) (xs : List ℕ) → AllByRecursion (λ y. eqb x y ≡ false) xs → eqb x k ≡ false → AllByRecursion (λ y. eqb x y ≡ false) (xs ++ k ∷ [])
differs_push x k [] h e = (e, h)
differs_push x k (y ∷ xs) h e = (h.0, differs_push x k xs h.1 e)

eqb_sym : (a b : ℕ) → eqb b a ≡ false → eqb a b ≡ false
eqb_sym a b e = ne_eqb a b (λ same. eqb-false b a e (sym same))

none_of_two : (a b : Bool) → (a || b) ≡ false → (a ≡ false) × (b ≡ false)
none_of_two true b e = absurd (cc)
none_of_two false b e = (refl, e)

distinct_push : (k : ℕ) (xs : List ℕ) → IsDistinct eqb xs → has_number k xs ≡ false → IsDistinct eqb (xs ++ k ∷ [])
unfolding IsDistinct
distinct_push k [] d h = (d, d)
distinct_push k (x ∷ xs) d h =
    let p = none_of_two (eqb k x) (has_number k xs) h in
    (differs_push x k xs d.0 (eqb_sym x k p.0), distinct_push k xs d.1 p.1)

one_of_two : (a b : Bool) → (a || b) ≡ true → (a ≡ true) ⊎ (b ≡ true)
one_of_two true b e = inl refl
one_of_two false b e = inr e

pub modules_push : (n k : ℕ) (xs : List ℕ) → AreModules n xs → k < n → has_number k xs ≡ false → AreModules n (xs ++ k ∷ [])
modules_push n k xs a less h = record {
  distinct = distinct_push k xs a.distinct h;
  below = λ q is. elim (one_of_two (has_number q xs) (eqb q k) (sym (any_push (eqb q) xs k) ∙ is)) [
    | inl old ↦ a.below q old
    | inr new ↦ let same : q ≡ k = eqb-true q k new in omega (arith, same, less)
  ];
}

pub modules_few : (n k : ℕ) (xs : List ℕ) → AreModules n xs → k < n → has_number k xs ≡ false → n ≤ 64 → length xs < 64
modules_few n k xs a less h few =
    let more = modules_push n k xs a less h in
    omega (arith, length-le_from_distinct_below (xs ++ k ∷ []) n more.distinct more.below, length_push xs k, few)

pub modules_one : (n k : ℕ) → k < n → AreModules n (k ∷ [])
unfolding IsDistinct
modules_one n k less = record {
  distinct = (_, _);
  below = λ q is. elim (one_of_two (eqb q k) false is) [
    | inl new ↦ let same : q ≡ k = eqb-true q k new in omega (arith, same, less)
    | inr wrong ↦ absurd (cc)
  ];
}

-- ---- the walk

pub walk_more : (modules : Modules) (copied : ℕ → List VarRow) (n place k : ℕ) (list new end : List ℕ) → place < n → Some k ≡ slice_get list place → new ≡ add_modules modules list (copied k)
    → walk modules copied (n - place) place list ≡ end → walk modules copied (n - (place + 1)) (place + 1) new ≡ end
walk_more modules copied n place k list new end inside there e h =
    let left : n - place ≡ suc (n - (place + 1)) = omega (arith, inside) in
    ap (walk modules copied (n - (place + 1)) (place + 1)) e
    ∙ ap (from_option list (λ k. walk modules copied (n - (place + 1)) (place + 1) (add_modules modules list (copied k)))) there
    ∙ sym (ap (λ (m : ℕ). walk modules copied m place list) left)
    ∙ h

none_later : (list : List ℕ) (place next : ℕ) → next ≡ suc place → slice_get list place ≡ None → slice_get list next ≡ None
none_later list place zero f e = absurd (omega (arith, f))
none_later [] place (suc j) f e = refl
none_later (x ∷ xs) zero (suc j) f e = absurd (cc)
none_later (x ∷ xs) (suc i) (suc j) f e = none_later xs i j (omega (arith, f)) e

walk_ends : (modules : Modules) (copied : ℕ → List VarRow) (n place : ℕ) (list : List ℕ) → slice_get list place ≡ None → walk modules copied n place list ≡ list
walk_ends modules copied zero place list e = refl
walk_ends modules copied (suc n) place list e = ap (from_option list (λ k. walk modules copied n (place + 1) (add_modules modules list (copied k)))) e

pub walk_past : (modules : Modules) (copied : ℕ → List VarRow) (n place : ℕ) (list end : List ℕ) → None ≡ slice_get list place
    → walk modules copied (n - place) place list ≡ end → walk modules copied (n - (place + 1)) (place + 1) list ≡ end
walk_past modules copied n place list end e h =
    walk_ends modules copied (n - (place + 1)) (place + 1) list (none_later list place (place + 1) (omega arith) (sym e)) ∙ sym (walk_ends modules copied (n - place) place list (sym e)) ∙ h

-- ---- the bound of the walk is enough: a greater one gives the same list

made_there : (modules : Modules) (k : ℕ) → by_derive modules k ≡ true → k < length modules
made_there [] k e = absurd (cc)
made_there (b ∷ modules) zero e = omega arith
made_there (b ∷ modules) (suc k) e = let less : k < length modules = made_there modules k e in omega (arith, less)

both_are : (a b : Bool) → (a && not b) ≡ true → (a ≡ true) × (b ≡ false)
both_are true false e = (refl, refl)
both_are true true e = absurd (cc)
both_are false b e = absurd (cc)

add_keeps : (modules : Modules) (list : List ℕ) (body : Option BodyOf) → AreModules (length modules) list → AreModules (length modules) (add_module modules list body)
add_keeps modules list None a = a
add_keeps modules list (Some (CellBody cell)) a = a
add_keeps modules list (Some (ImportBody name from)) a =
    let test = by_derive modules from && not (has_number from list) in
    elim (cases_Bool test) [
      | inl here ↦
          let p = both_are (by_derive modules from) (has_number from list) here in
          subst (λ (b : Bool). AreModules (length modules) (cond b (list ++ from ∷ []) list)) (sym here) (modules_push (length modules) from list a (made_there modules from p.0) p.1)
      | inr not_here ↦ subst (λ (b : Bool). AreModules (length modules) (cond b (list ++ from ∷ []) list)) (sym not_here) a
    ]

adds_keep : (modules : Modules) (list : List ℕ) (rows : List VarRow) → AreModules (length modules) list → AreModules (length modules) (add_modules modules list rows)
adds_keep modules list [] a = a
adds_keep modules list (row ∷ rows) a = adds_keep modules (add_module modules list row.body) rows (add_keeps modules list row.body a)

pub walk_enough : (modules : Modules) (copied : ℕ → List VarRow) (more n place : ℕ) (list : List ℕ) → AreModules (length modules) list → length modules ≤ place + n
    → walk modules copied (n + more) place list ≡ walk modules copied n place list
walk_enough modules copied more zero place list a enough =
    walk_ends modules copied (0 + more) place list (slice_get_past list place (omega (arith, enough, length-le_from_distinct_below list (length modules) a.distinct a.below)))
walk_enough modules copied more (suc n) place list a enough =
    let later : suc n + more ≡ suc (n + more) = omega arith in
    ap (λ (m : ℕ). walk modules copied m place list) later
    ∙ go (λ k. walk_enough modules copied more n (place + 1) (add_modules modules list (copied k)) (adds_keep modules list (copied k) a) (omega (arith, enough))) (slice_get list place)
  where
    go : ((k : ℕ) → walk modules copied (n + more) (place + 1) (add_modules modules list (copied k)) ≡ walk modules copied n (place + 1) (add_modules modules list (copied k)))
        → (o : Option ℕ)
        → from_option list (λ k. walk modules copied (n + more) (place + 1) (add_modules modules list (copied k))) o
        ≡ from_option list (λ k. walk modules copied n (place + 1) (add_modules modules list (copied k))) o
    go same None = refl
    go same (Some k) = same k
