-- What is left of a list after its first elements.
use Rattle.std.proofs.Common.{◌≡◌, ◌≤◌, ℕ, zero, suc, ◌+◌, ◌-◌, List, [], ◌∷◌, length, drop, Option, Some, None, refl, sym, ap, ◌∙◌, add-one, length-drop, arith}
use Rattle.std.specs.Prelude.{slice_get}
use Rattle.std.proofs.lemmas.List.{drop_all}

left_at : {A : Type 0} (xs : List A) (n : ℕ) (x : A) → slice_get xs n ≡ Some x → drop n xs ≡ x ∷ drop (suc n) xs
left_at [] n x e = absurd (cc)
left_at (y ∷ ys) zero x e = let f : y ≡ x = cc in ap (λ z. z ∷ ys) f
left_at (y ∷ ys) (suc n) x e = left_at ys n x e

pub next_left : {A : Type 0} (xs : List A) (n : ℕ) (x : A) → slice_get xs n ≡ Some x → drop n xs ≡ x ∷ drop (n + 1) xs
next_left xs n x e = left_at xs n x e ∙ ap (λ k. x ∷ drop k xs) (sym (add-one n))

pub none_left : {A : Type 0} (xs : List A) (n : ℕ) → slice_get xs n ≡ None → drop n xs ≡ []
none_left [] zero e = refl
none_left [] (suc n) e = refl
none_left (x ∷ xs) zero e = absurd (cc)
none_left (x ∷ xs) (suc n) e = none_left xs n e

pub some_left : {A : Type 0} (xs : List A) (n : ℕ) → drop n xs ≡ [] → length xs ≤ n
some_left xs n e = let l : length (drop n xs) ≡ length xs - n = length-drop n xs in let z : length (drop n xs) ≡ 0 = ap length e in omega (arith, l, z)
