-- Lists of numbers of two lengths differ.
use Rattle.std.proofs.Common.{ℕ, suc, ◌≡◌, ◌≢◌, refl, sym, ◌∙◌, ap, true, false, eqb, List, [], ◌∷◌, map, length}
use Rattle.std.proofs.lemmas.Bool.{and_parts, false≢true, false_from_ne_true}
use Rattle.std.proofs.lemmas.List.{length-map}
use Rattle.nb_history.specs.Lists.{same_numbers}

same_length : (xs ys : List ℕ) → same_numbers xs ys ≡ true → length xs ≡ length ys
same_length [] [] h = refl
same_length [] (y ∷ ys) h = absurd (false≢true h)
same_length (x ∷ xs) [] h = absurd (false≢true h)
same_length (x ∷ xs) (y ∷ ys) h = ap suc (same_length xs ys (and_parts (eqb x y) (same_numbers xs ys) h).1)

pub differ_length : (f : ℕ → ℕ) (xs ys : List ℕ) → length xs ≢ length ys → false ≡ same_numbers (map f xs) ys
differ_length f xs ys ne = sym (false_from_ne_true (same_numbers (map f xs) ys) (λ h. ne (sym (length-map xs f) ∙ same_length (map f xs) ys h)))
