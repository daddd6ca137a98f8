-- Tests that agree find the same in lists of numbers, also where one list goes on past all that pass.
use Rattle.std.proofs.Common.{ℕ, zero, suc, ◌+◌, ◌≡◌, ◌≤◌, refl, sym, ◌∙◌, ap, Bool, true, false, cond, List, arith, Some, None}
use Rattle.std.specs.List.{list_any, range_with_len}
use Rattle.nb_graph.specs.Needs.{has}
use Rattle.nb_graph.proofs.Reaches.{any_has, has_any}
use Rattle.nb_wave.specs.Rules.{first_where as first_by}
use Rattle.nb_history.specs.Lists.{first_where}

pub both_ways : (a b : Bool) → (a ≡ true → b ≡ true) → (b ≡ true → a ≡ true) → a ≡ b
both_ways true b f g = sym (f refl)
both_ways false true f g = g refl
both_ways false false f g = refl

-- some number of each list passes, or none does
pub any_same : (p q : ℕ → Bool) (xs ys : List ℕ) → ((u : ℕ) → p u ≡ q u) → ((u : ℕ) → q u ≡ true → has xs u ≡ has ys u) → list_any p xs ≡ list_any q ys
any_same p q xs ys same among =
    both_ways (list_any p xs) (list_any q ys)
    (λ h.
    let t : (w : ℕ) × (has xs w ≡ true) × (p w ≡ true) = any_has p xs h in
    let passes : q t.0 ≡ true = sym (same t.0) ∙ t.2 in
    has_any q ys t.0 (sym (among t.0 passes) ∙ t.1) passes)
    (λ h.
    let t : (w : ℕ) × (has ys w ≡ true) × (q w ≡ true) = any_has q ys h in
    has_any p xs t.0 (among t.0 t.2 ∙ t.1) (same t.0 ∙ t.2))

-- ---- the first that passes

first_none : (test : ℕ → Bool) (a n : ℕ) → ((u : ℕ) → a ≤ u → test u ≡ false) → first_by test (range_with_len a n) ≡ None
first_none test a zero past = refl
first_none test a (suc n) past =
    let here : test a ≡ false = past a (omega arith) in rw here (first_none test (a + 1) n (λ u h. past u (omega (arith, h))))

pub first_same : (p q : ℕ → Bool) (a n m : ℕ) → n ≤ m → ((u : ℕ) → p u ≡ q u) → ((u : ℕ) → a + n ≤ u → q u ≡ false) → first_by p (range_with_len a m) ≡ first_where q (range_with_len a n)
first_same p q a zero m h same past = first_none p a m (λ u k. same u ∙ past u (omega (arith, k)))
first_same p q a (suc n) zero h same past = absurd (omega (arith, h))
first_same p q a (suc n) (suc m) h same past =
    let e : p a ≡ q a = same a in
    let rest : first_by p (range_with_len (a + 1) m) ≡ first_where q (range_with_len (a + 1) n) = first_same p q (a + 1) n m (omega (arith, h)) same (λ u k. past u (omega (arith, k))) in
    ap (λ (b : Bool). cond b (Some a) (first_by p (range_with_len (a + 1) m))) e ∙ ap (cond (q a) (Some a)) rest
