-- Numbers of keys: what a search for one answers, and what stays when a key is added.
use Rattle.std.proofs.Common.{ℕ, ◌+◌, ◌≡◌, ◌<◌, ◌≤◌, refl, ◌∙◌, ap, Bool, true, false, cond, not, nat_lt, List, [], ◌∷◌, length, position, Option, Some, None, unwrap_or, arith}
use Rattle.std.proofs.lemmas.Bool.{ltb-true, ltb-false}
use Rattle.std.specs.List.{position_or_len}

module _ {K : Type 0} (p : K → Bool) where
  small_step : (b : Bool) (m n : ℕ) → m ≤ n → cond (not b) (1 + m) 0 ≤ n + 1
  small_step true m n le = omega arith
  small_step false m n le = omega arith

  pub number_small : (ks : List K) → position_or_len p ks ≤ length ks
  number_small [] = omega arith
  number_small (x ∷ ks) = omega (arith, small_step (p x) (position_or_len p ks) (length ks) (number_small ks))

  found_step : (l : Bool) (m n : ℕ) → (l ≡ true → m < n) → (l ≡ false → n ≤ m) → m ≤ n → unwrap_or (cond l (Some m) None) n ≡ m
  found_step true m n less more small = refl
  found_step false m n less more small = omega (arith, more refl)

  pub number_searched : (ks : List K) → unwrap_or (position p ks) (length ks) ≡ position_or_len p ks
  number_searched ks =
      found_step (nat_lt (position_or_len p ks) (length ks)) (position_or_len p ks) (length ks)
      (λ yes. ltb-true (position_or_len p ks) (length ks) yes)
      (λ none. ltb-false (position_or_len p ks) (length ks) none)
      (number_small ks)

  pub number_from : (ks : List K) (o : Option ℕ) (n r : ℕ) → r ≡ unwrap_or o n → o ≡ position p ks → n ≡ length ks → r ≡ position_or_len p ks
  number_from ks o n r e found len = e ∙ ap (λ (x : Option ℕ). unwrap_or x n) found ∙ ap (λ (m : ℕ). unwrap_or (position p ks) m) len ∙ number_searched ks
