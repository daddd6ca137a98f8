-- Starts that are pulled one by one.
use Rattle.std.proofs.Common.{ℕ, zero, suc, ◌≡◌, ◌+◌, ◌<◌, refl, sym, ◌∙◌, ap, List, [], ◌∷◌, length, arith, Option, Some, None}
use Rattle.std.specs.Prelude.{slice_get, slice_set}
use Rattle.nb_sheet.specs.Sheet.{Sheet}
use Rattle.nb_history.specs.Reading.{Start}
use Rattle.nb_runs.specs.Starts.{pulled_once, generates_in, all_pulled, pulled_first}

pub pulled_end : (sheet : Sheet) (v k : ℕ) (xs : List (Option Start)) → k ≡ length xs → pulled_first sheet k v xs ≡ all_pulled sheet v xs
pulled_end sheet v zero [] e = refl
pulled_end sheet v zero (x ∷ xs) e = absurd (omega (arith, e))
pulled_end sheet v (suc k) [] e = refl
pulled_end sheet v (suc k) (x ∷ xs) e = ap (λ l. pulled_once (generates_in sheet v) x ∷ l) (pulled_end sheet (v + 1) k xs (omega (arith, e)))

pub pulled_get : (sheet : Sheet) (v k : ℕ) (xs : List (Option Start)) → slice_get (pulled_first sheet k v xs) k ≡ slice_get xs k
pulled_get sheet v zero xs = refl
pulled_get sheet v (suc k) [] = refl
pulled_get sheet v (suc k) (x ∷ xs) = pulled_get sheet (v + 1) k xs

pub pulled_next : (sheet : Sheet) (v k : ℕ) (xs : List (Option Start)) (x : Option Start) → slice_get xs k ≡ Some x
    → slice_set (pulled_first sheet k v xs) k (pulled_once (generates_in sheet (v + k)) x) ≡ pulled_first sheet (suc k) v xs
pulled_next sheet v k [] x h = cc
pulled_next sheet v zero (y ∷ xs) x h =
    let e : v + 0 ≡ v = omega arith in
    let same : y ≡ x = cc in
    ap (λ (n : ℕ). pulled_once (generates_in sheet n) x ∷ xs) e ∙ ap (λ (z : Option Start). pulled_once (generates_in sheet v) z ∷ xs) (sym same)
pulled_next sheet v (suc k) (y ∷ xs) x h =
    let e : v + suc k ≡ v + 1 + k = omega arith in
    ap (λ (n : ℕ). pulled_once (generates_in sheet v) y ∷ slice_set (pulled_first sheet k (v + 1) xs) k (pulled_once (generates_in sheet n) x)) e
    ∙ ap (λ l. pulled_once (generates_in sheet v) y ∷ l) (pulled_next sheet (v + 1) k xs x h)

pub length_set : {A : Type 0} (xs : List A) (i : ℕ) (y : A) → length (slice_set xs i y) ≡ length xs
length_set [] i y = refl
length_set (x ∷ xs) zero y = refl
length_set (x ∷ xs) (suc i) y = ap suc (length_set xs i y)
