-- The first number that passes a test, as it is looked for.
use Rattle.std.proofs.Common.{inl, inr, ℕ, zero, suc, ◌≡◌, ◌+◌, ◌<◌, refl, sym, ◌∙◌, ap, Bool, true, false, List, ◌∷◌, add-one, arith, Some, None}
use Rattle.std.specs.List.{range_with_len}
use Rattle.std.proofs.lemmas.Bool.{cases_Bool}
use Rattle.std.proofs.lemmas.Option.{none-some}
use Rattle.nb_history.specs.Lists.{first_where}

skips : (test : ℕ → Bool) (x : ℕ) (xs : List ℕ) → first_where test (x ∷ xs) ≡ None → (test x ≡ false) × (first_where test xs ≡ None)
skips test x xs h =
    elim (cases_Bool (test x)) [
      | inl here ↦ let g : Some x ≡ None = rw here at h in absurd (none-some x (sym g))
      | inr not_here ↦ (not_here, rw not_here at h)
    ]

hit : (test : ℕ → Bool) (a k n : ℕ) → first_where test (range_with_len a k) ≡ None → test (a + k) ≡ true → k < n → first_where test (range_with_len a n) ≡ Some (a + k)
hit test a k zero h t l = absurd (omega (arith, l))
hit test a zero (suc n) h t l =
    let e : a + 0 ≡ a = omega arith in
    let here : test a ≡ true = rw e at t in
    rw (here, e) refl
hit test a (suc k) (suc n) h t l =
    let e : a + 1 + k ≡ a + suc k = omega arith in
    let p : (test a ≡ false) × (first_where test (range_with_len (a + 1) k) ≡ None) = skips test a (range_with_len (a + 1) k) h in
    let t' : test (a + 1 + k) ≡ true = ap test e ∙ t in
    let p0 : test a ≡ false = p.0 in
    rw p0 (hit test (a + 1) k n p.1 t' (omega (arith, l)) ∙ ap (λ (x : ℕ). Some x) e)

miss : (test : ℕ → Bool) (a k : ℕ) → first_where test (range_with_len a k) ≡ None → test (a + k) ≡ false → first_where test (range_with_len a (suc k)) ≡ None
miss test a zero h t =
    let e : a + 0 ≡ a = omega arith in
    let not_here : test a ≡ false = rw e at t in rw not_here refl
miss test a (suc k) h t =
    let e : a + 1 + k ≡ a + suc k = omega arith in
    let p : (test a ≡ false) × (first_where test (range_with_len (a + 1) k) ≡ None) = skips test a (range_with_len (a + 1) k) h in
    let p0 : test a ≡ false = p.0 in
    rw p0 (miss test (a + 1) k p.1 (ap test e ∙ t))

pub next_found : (test : ℕ → Bool) (k n : ℕ) → first_where test (range_with_len 1 k) ≡ None → test (k + 1) ≡ true → k < n → Some (k + 1) ≡ first_where test (range_with_len 1 n)
next_found test k n h t l =
    let c : 1 + k ≡ k + 1 = omega arith in
    sym (hit test 1 k n h (ap test c ∙ t) l ∙ ap (λ (x : ℕ). Some x) c)

pub next_missed : (test : ℕ → Bool) (k : ℕ) → first_where test (range_with_len 1 k) ≡ None → test (k + 1) ≡ false → first_where test (range_with_len 1 (k + 1)) ≡ None
next_missed test k h t =
    let c : 1 + k ≡ k + 1 = omega arith in
    ap (λ (m : ℕ). first_where test (range_with_len 1 m)) (add-one k) ∙ miss test 1 k h (ap test c ∙ t)

pub none_left : (test : ℕ → Bool) (k n : ℕ) → first_where test (range_with_len 1 k) ≡ None → k ≡ n → None ≡ first_where test (range_with_len 1 n)
none_left test k n h e = sym (ap (λ (m : ℕ). first_where test (range_with_len 1 m)) (sym e) ∙ h)
