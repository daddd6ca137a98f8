-- The test of two lists of numbers decides whether they are one.
use Rattle.std.proofs.Common.{ℕ, ◌≡◌, ◌↔◌, refl, sym, IsTrue, Bool, true, false, eqb, List, [], ◌∷◌}
use Rattle.std.proofs.lemmas.Bool.{and_parts, and_from, eqb-true, eq-eqb, false≢true, false_from_ne_true}
use Rattle.nb_wave.specs.declared.footing.Footing.{Footing}
use Rattle.nb_wave.specs.Footings.{same_numbers, same_base, same_footing}

pub same_numbers_eq : (xs ys : List ℕ) → same_numbers xs ys ≡ true → xs ≡ ys
same_numbers_eq [] [] h = refl
same_numbers_eq [] (y ∷ ys) h = absurd (false≢true h)
same_numbers_eq (x ∷ xs) [] h = absurd (false≢true h)
same_numbers_eq (x ∷ xs) (y ∷ ys) h =
    let t : (eqb x y ≡ true) × (same_numbers xs ys ≡ true) = and_parts (eqb x y) (same_numbers xs ys) h in
    let e : x ≡ y = eqb-true x y t.0 in
    let f : xs ≡ ys = same_numbers_eq xs ys t.1 in cc

same_numbers_refl : (xs : List ℕ) → same_numbers xs xs ≡ true
same_numbers_refl [] = refl
same_numbers_refl (x ∷ xs) = and_from (eqb x x) (same_numbers xs xs) (eq-eqb x x refl) (same_numbers_refl xs)

same_numbers_from : (xs ys : List ℕ) → xs ≡ ys → same_numbers xs ys ≡ true
same_numbers_from xs ys e = rw e (same_numbers_refl ys)

pub is_same_numbers : (b : Bool) (xs ys : List ℕ) → (IsTrue b ↔ (xs ≡ ys)) → b ≡ same_numbers xs ys
is_same_numbers true xs ys h = sym (same_numbers_from xs ys (h.0 refl))
is_same_numbers false xs ys h = sym (false_from_ne_true (same_numbers xs ys) (λ k. false≢true (h.1 (same_numbers_eq xs ys k))))

pub same_base_refl : (f : Footing) → same_base f f ≡ true
same_base_refl f = rw (eq-eqb f.place f.place refl, eq-eqb f.mark f.mark refl, same_numbers_refl f.inputs, same_numbers_refl f.starts) refl

pub same_footing_refl : (f : Footing) → same_footing f f ≡ true
same_footing_refl f = and_from (same_base f f) (same_numbers f.renewals f.renewals) (same_base_refl f) (same_numbers_refl f.renewals)
