-- The one list that sorts the items is `sorted` of them.
use native.Mathlib.Numerals.{unary_clauses}
use Rattle.std.proofs.Common.{◌≡◌, ℕ, suc, ◌+◌, ◌<◌, List, [], ◌∷◌, refl, ap, ◌∙◌, sym, subst, Bool, true, false, cond, arith, Ordering, Less, Equal, Greater}
use Rattle.std.specs.Prelude.{⊤, IsPermutation, IsSorted, sum_by}
use Rattle.std.specs.List.{AllByRecursion}
use Rattle.std.specs.Ordering.{is_lt, is_eq, ordering_reverse}
use Rattle.std.proofs.lemmas.List.Recursion.{is_sum_by}
use Rattle.std.proofs.lemmas.List.Elements.{recursion_from_All}
use Rattle.std.proofs.lemmas.List.Sorted.{sorted_far, sum_by-IsPermutation, ranks_by}
use Rattle.nb_value.specs.declared.value.Value.{Value}
use Rattle.nb_value.specs.Value.{value_cmp}
use Rattle.nb_value.specs.ValueOrder.{value_cmp_total}
use Rattle.nb_value.proofs.ValueLaws.{Equal-same, value_cmp-itself}
use Rattle.nb_builtins.specs.Extremes.{is_below}
use Rattle.nb_builtins.specs.Orders.{Sorts, placed, sorted}

abbrev NoneBelow : Value → List Value → Type 0
NoneBelow v ws = AllByRecursion (λ w. is_below w v ≡ false) ws

-- no value is below one before it
abbrev Up : List Value → Type 0
Up [] = ⊤
Up (v ∷ vs) = NoneBelow v vs × Up vs

below : (o : Ordering) → is_lt o ≡ true → o ≡ Less
below Less e = refl
below Equal e = cc
below Greater e = cc

tied : (o p : Ordering) → o ≡ ordering_reverse p → is_lt o ≡ false → is_lt p ≡ false → o ≡ Equal
tied Less p e f g = cc
tied Equal p e f g = refl
tied Greater Less e f g = cc
tied Greater Equal e f g = cc
tied Greater Greater e f g = cc

not_below : (o p : Ordering) → o ≡ ordering_reverse p → is_lt p ≡ true → is_lt o ≡ false
not_below Less Less e f = cc
not_below Less Equal e f = cc
not_below Less Greater e f = cc
not_below Equal p e f = refl
not_below Greater p e f = refl

-- two values of which neither is below the other are one
neither : (v w : Value) → is_below v w ≡ false → is_below w v ≡ false → v ≡ w
neither v w e f = Equal-same v w (tied (value_cmp v w) (value_cmp w v) (value_cmp_total.antisymm v w) e f)

above : (v w : Value) → is_below w v ≡ true → is_below v w ≡ false
above v w e = not_below (value_cmp v w) (value_cmp w v) (value_cmp_total.antisymm v w) e

itself : (v : Value) → is_below v v ≡ false
itself v = ap is_lt (value_cmp-itself v)

-- not below, twice
chain : (u v w : Value) → is_below u v ≡ false → is_below v w ≡ false → is_below u w ≡ false
chain u v w e f = (ranks_by value_cmp_total (λ x. x)).chain u v w e f

-- ---- a sorted list, one value after another

up_from_sorted : (vs : List Value) → IsSorted value_cmp vs → Up vs
up_from_sorted [] s = tt
up_from_sorted (v ∷ vs) s = (
  recursion_from_All (λ w. is_below w v ≡ false) vs (λ k d h. sorted_far (λ x y. is_below x y) (ranks_by value_cmp_total (λ x. x)) (v ∷ vs) s 0 (suc k) d (omega arith) (omega arith)),
  up_from_sorted vs (λ k d l h. simp unary_clauses (simp unary_clauses at (s (suc k) d (omega arith) (omega arith)))),
)

none_below-placed : (u v : Value) (ws : List Value) → is_below v u ≡ false → NoneBelow u ws → NoneBelow u (placed v ws)
none_below-placed u v [] e n = (e, tt)
none_below-placed u v (w ∷ ws) e n = elim (is_below w v) as (λ b. NoneBelow u (cond b (w ∷ placed v ws) (v ∷ w ∷ ws))) [
  | true ↦ (n.0, none_below-placed u v ws e n.1)
  | false ↦ (e, n)
]

none_below-through : (u v : Value) (ws : List Value) → is_below v u ≡ false → NoneBelow v ws → NoneBelow u ws
none_below-through u v [] e n = tt
none_below-through u v (w ∷ ws) e n = (chain w v u n.0 e, none_below-through u v ws e n.1)

up-placed_before : (v w : Value) (ws : List Value) (b : Bool) → is_below w v ≡ b → Up (w ∷ ws) → Up (placed v ws) → Up (cond b (w ∷ placed v ws) (v ∷ w ∷ ws))
up-placed_before v w ws true e p q = (none_below-placed w v ws (above v w e) p.0, q)
up-placed_before v w ws false e p q = ((e, none_below-through v w ws e p.0), p)

up-placed : (v : Value) (ws : List Value) → Up ws → Up (placed v ws)
up-placed v [] p = (tt, tt)
up-placed v (w ∷ ws) p = up-placed_before v w ws (is_below w v) refl p (up-placed v ws p.1)

up-sorted : (vs : List Value) → Up (sorted vs)
up-sorted [] = tt
up-sorted (v ∷ vs) = up-placed v (sorted vs) (up-sorted vs)

-- ---- how often a value occurs

abbrev one_if : Value → Value → ℕ
one_if v w = cond (is_eq (value_cmp v w)) 1 0

abbrev times : Value → List Value → ℕ
times v [] = 0
times v (w ∷ ws) = one_if v w + times v ws

times-sum_by : (v : Value) (ws : List Value) → times v ws ≡ sum_by (one_if v) ws
times-sum_by v ws = is_sum_by (times v) (one_if v) refl (λ _ _. refl) ws

times-permutation : (v : Value) (vs ws : List Value) → IsPermutation vs ws → times v ws ≡ times v vs
times-permutation v vs ws p = times-sum_by v ws ∙ sum_by-IsPermutation (one_if v) vs ws p ∙ sym (times-sum_by v vs)

times-placed : (u v : Value) (ws : List Value) → times u (placed v ws) ≡ times u (v ∷ ws)
times-placed u v [] = refl
times-placed u v (w ∷ ws) = elim (is_below w v) as (λ b. times u (cond b (w ∷ placed v ws) (v ∷ w ∷ ws)) ≡ times u (v ∷ w ∷ ws)) [
  | true ↦ let e : times u (placed v ws) ≡ one_if u v + times u ws = times-placed u v ws in omega arith
  | false ↦ refl
]

times-sorted : (u : Value) (vs : List Value) → times u (sorted vs) ≡ times u vs
times-sorted u [] = refl
times-sorted u (v ∷ vs) = times-placed u v (sorted vs) ∙ ap (λ n. one_if u v + n) (times-sorted u vs)

equal : (o : Ordering) → is_eq o ≡ true → o ≡ Equal
equal Less e = cc
equal Equal e = refl
equal Greater e = cc

occurs_first : (P : Value → Type 0) (v w : Value) (ws : List Value) (b : Bool) → is_eq (value_cmp v w) ≡ b → P w → (0 < times v ws → P v) → 0 < cond b 1 0 + times v ws → P v
occurs_first P v w ws true e p later h = subst P (sym (Equal-same v w (equal (value_cmp v w) e))) p
occurs_first P v w ws false e p later h = later (omega arith)

-- what holds of each value of a list holds of one that occurs there
occurs : (P : Value → Type 0) (v : Value) (ws : List Value) → AllByRecursion P ws → 0 < times v ws → P v
occurs P v [] a h = absurd (omega arith)
occurs P v (w ∷ ws) a h = occurs_first P v w ws (is_eq (value_cmp v w)) refl a.0 (occurs P v ws a.1) h

one_itself : (v : Value) → one_if v v ≡ 1
one_itself v = ap (λ o. cond (is_eq o) 1 0) (value_cmp-itself v)

-- a value that occurs in a sorted list isn't below its first
not_below_first : (v w : Value) (ws : List Value) → Up (w ∷ ws) → 0 < times v (w ∷ ws) → is_below v w ≡ false
not_below_first v w ws u h = occurs (λ x. is_below x w ≡ false) v (w ∷ ws) (itself w, u.0) h

-- sorted lists in which each value occurs as often are one list
same_sorted : (vs ws : List Value) → Up vs → Up ws → ((v : Value) → times v vs ≡ times v ws) → vs ≡ ws
same_sorted [] [] u t h = refl
same_sorted [] (w ∷ ws) u t h = absurd (omega (arith, h w, one_itself w))
same_sorted (v ∷ vs) [] u t h = absurd (omega (arith, h v, one_itself v))
same_sorted (v ∷ vs) (w ∷ ws) u t h =
    let first : v ≡ w = neither v w (not_below_first v w ws t (omega (arith, h v, one_itself v))) (not_below_first w v vs u (omega (arith, h w, one_itself w))) in
    let others : vs ≡ ws = same_sorted vs ws u.1 t.1 (λ x. omega (arith, h x, ap (one_if x) first)) in
    λ i. first i ∷ others i

pub sorts_alone : (before after : List Value) → Sorts before after → after ≡ sorted before
sorts_alone before after s = same_sorted after (sorted before) (up_from_sorted after s.sorted) (up-sorted before) (λ v. times-permutation v before after s.same ∙ sym (times-sorted v before))
