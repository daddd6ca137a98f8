-- A list and its reverse.
use Rattle.std.proofs.Common.{◌≡◌, ◌-◌, List, [], ◌∷◌, ◌++◌, length, Some, refl, sym, ap, ◌∙◌, subst, arith, length-append}
use Rattle.std.specs.Prelude.{reverse, slice_get}
use Rattle.std.proofs.lemmas.List.{reverse-append}

pub reverse_one : {A : Type 0} (s : List A) (a : A) → reverse (s ++ a ∷ []) ≡ a ∷ reverse s
reverse_one s a = reverse-append s (a ∷ [])

split_end : {A : Type 0} (x : A) (xs : List A) → (ys : List A) × (y : A) × (x ∷ xs ≡ ys ++ y ∷ [])
split_end x [] = ([], x, refl)
split_end x (z ∷ xs) = let s = split_end z xs in (x ∷ s.0, s.1, ap (λ r. x ∷ r) s.2)

at_end : {A : Type 0} (ys : List A) (y : A) → slice_get (ys ++ y ∷ []) (length ys) ≡ Some y
at_end [] y = refl
at_end (x ∷ ys) y = at_end ys y

-- the top is the last
pub top_is : {A : Type 0} (xs : List A) → slice_get (reverse xs) 0 ≡ slice_get xs (length xs - 1)
top_is [] = refl
top_is {A = A} (x ∷ xs) =
    let s = split_end x xs in
    let e : length (s.0 ++ s.1 ∷ []) - 1 ≡ length s.0 = omega (arith, length-append s.0 (s.1 ∷ [])) in
    let there : slice_get (s.0 ++ s.1 ∷ []) (length (s.0 ++ s.1 ∷ []) - 1) ≡ Some s.1 = ap (λ n. slice_get (s.0 ++ s.1 ∷ []) n) e ∙ at_end s.0 s.1 in
    let top : slice_get (reverse (s.0 ++ s.1 ∷ [])) 0 ≡ Some s.1 = ap (λ (r : List A). slice_get r 0) (reverse_one s.0 s.1) in
    subst (λ (r : List A). slice_get (reverse r) 0 ≡ slice_get r (length r - 1)) (sym s.2) (top ∙ sym there)
