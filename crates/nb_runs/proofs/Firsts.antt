-- The first number that passes a test, found by a walk.
use Rattle.std.proofs.Common.{inl, inr, ℕ, zero, suc, ◌≡◌, ◌+◌, ◌<◌, refl, sym, ◌∙◌, ap, Bool, true, false, List, [], ◌∷◌, arith, Option, Some, None, add-one}
use Rattle.std.proofs.lemmas.Bool.{cases_Bool}
use Rattle.std.proofs.lemmas.Option.{none-some}
use Rattle.std.specs.List.{range_with_len}
use Rattle.nb_history.specs.Lists.{first_where}

first_skips : (test : ℕ → Bool) (x : ℕ) (xs : List ℕ) → first_where test (x ∷ xs) ≡ None → (test x ≡ false) × (first_where test xs ≡ None)
first_skips test x xs h =
    elim (cases_Bool (test x)) [
      | inl here ↦ let g : Some x ≡ None = rw here at h in absurd (none-some x (sym g))
      | inr not_here ↦ (not_here, rw not_here at h)
    ]

first_hit : (test : ℕ → Bool) (a k n : ℕ) → first_where test (range_with_len a k) ≡ None → test (a + k) ≡ true → k < n → first_where test (range_with_len a n) ≡ Some (a + k)
first_hit test a k zero h t l = absurd (omega (arith, l))
first_hit test a zero (suc n) h t l =
    let e : a + 0 ≡ a = omega arith in
    let here : test a ≡ true = rw e at t in
    rw (here, e) refl
first_hit test a (suc k) (suc n) h t l =
    let e : a + 1 + k ≡ a + suc k = omega arith in
    let p : (test a ≡ false) × (first_where test (range_with_len (a + 1) k) ≡ None) = first_skips test a (range_with_len (a + 1) k) h in
    let t' : test (a + 1 + k) ≡ true = ap test e ∙ t in
    let p0 : test a ≡ false = p.0 in
    rw p0 (first_hit test (a + 1) k n p.1 t' (omega (arith, l)) ∙ ap (λ (x : ℕ). Some x) e)

first_miss : (test : ℕ → Bool) (a k : ℕ) → first_where test (range_with_len a k) ≡ None → test (a + k) ≡ false → first_where test (range_with_len a (suc k)) ≡ None
first_miss test a zero h t =
    let e : a + 0 ≡ a = omega arith in
    let not_here : test a ≡ false = rw e at t in rw not_here refl
first_miss test a (suc k) h t =
    let e : a + 1 + k ≡ a + suc k = omega arith in
    let p : (test a ≡ false) × (first_where test (range_with_len (a + 1) k) ≡ None) = first_skips test a (range_with_len (a + 1) k) h in
    let p0 : test a ≡ false = p.0 in
    rw p0 (first_miss test (a + 1) k p.1 (ap test e ∙ t))

-- the number after k passes, and none up to k does
pub next_found : (test : ℕ → Bool) (k n : ℕ) → first_where test (range_with_len 1 k) ≡ None → test (k + 1) ≡ true → k < n → Some (k + 1) ≡ first_where test (range_with_len 1 n)
next_found test k n h t l =
    let c : 1 + k ≡ k + 1 = omega arith in
    sym (first_hit test 1 k n h (ap test c ∙ t) l ∙ ap (λ (x : ℕ). Some x) c)

-- none up to k passes, nor does the number after it
pub next_missed : (test : ℕ → Bool) (k : ℕ) → first_where test (range_with_len 1 k) ≡ None → test (k + 1) ≡ false → first_where test (range_with_len 1 (k + 1)) ≡ None
next_missed test k h t =
    let c : 1 + k ≡ k + 1 = omega arith in
    ap (λ (m : ℕ). first_where test (range_with_len 1 m)) (add-one k) ∙ first_miss test 1 k h (ap test c ∙ t)
