-- Digits, and the number that they write.
use Rattle.std.proofs.Common.{◌≡◌, ◌<◌, ◌^◌, ◌==◌, ℕ, ℤ, pos, Bool, true, false, cond, nat_lt, List, [], ◌∷◌, length, take, Option, Some, None, Result, Ok, Err, refl, sym, ap, subst, ◌∙◌, arith, rules}
use Rattle.std.proofs.lemmas.Bool.{false≢true}
use Rattle.std.proofs.lemmas.Bool.Decides.{nat_tests}
use Rattle.std.proofs.lemmas.Str.{IsUtf8-from_ascii}
use Rattle.std.proofs.lemmas.Str.Parse.{IsNumeralModel, numerals_by_value, parse_signed_digits}
use Rattle.std.specs.List.{prefix_len, list_all}
use Rattle.std.specs.Result.{OkIff, result_ok}
use Rattle.std.specs.Str.{IsUtf8}
use Rattle.std.specs.Str.Parse.{digits_value, ParsesSigned}
use Rattle.std.specs.Int.{w64}
use Rattle.nb_lexer.specs.Characters.{is_digit, begins}
use Rattle.nb_lexer.specs.Spelling.{too_wide}
use Rattle.nb_lexer.specs.Scan.{numeral_len}
use Rattle.nb_lexer.proofs.Runs.{run_passes, passes_ascii, digit_ascii}

pub own : IsNumeralModel (λ ds. list_all is_digit ds ≡ true) (digits_value 10)
own = numerals_by_value _ (search rules)

pub digits_utf8 : (ds : List ℕ) → list_all is_digit ds ≡ true → IsUtf8 ds
digits_utf8 ds e = IsUtf8-from_ascii ds (passes_ascii is_digit digit_ascii ds e)

-- the number if it isn't too wide
abbrev pub fitting : ℕ → Option ℤ
fitting n = cond (nat_lt n too_wide) (Some (pos n)) None

fits-yes : (n : ℕ) → n < 2 ^ 63 → fitting n ≡ Some (pos n)
fits-yes n h = go (nat_lt n too_wide) refl
  where
    go : (b : Bool) → nat_lt n too_wide ≡ b → cond b (Some (pos n)) None ≡ Some (pos n)
    go true e = refl
    go false e = grind (arith, nat_tests)

fits-no : (n : ℕ) → (n < 2 ^ 63 → ⊥) → fitting n ≡ None
fits-no n h = go (nat_lt n too_wide) refl
  where
    go : (b : Bool) → nat_lt n too_wide ≡ b → cond b (Some (pos n)) None ≡ None
    go true e = absurd (h (grind (arith, nat_tests)))
    go false e = refl

parsed : {E : Type 0} (ds : List ℕ) (n : ℕ) (r : Result ℤ E) → 0 < length ds → OkIff r ((0 < length ds) × (n < 2 ^ 63)) (pos n) → result_ok r ≡ fitting n
parsed ds n (Ok x) some h = ap Some h.1 ∙ sym (fits-yes n h.0.1)
parsed ds n (Err e) some h = sym (fits-no n (λ low. h (some, low)))

pub value_parsed : {E : Type 0} (ds text : List ℕ) (r : Result ℤ E) → text ≡ ds → list_all is_digit ds ≡ true → 0 < length ds → ParsesSigned w64 10 text r
    → result_ok r ≡ fitting (digits_value 10 ds)
value_parsed {E} ds text r same all some h =
    let P : List ℕ → Type 0 = λ t. ParsesSigned w64 10 t r in
    parsed ds (digits_value 10 ds) r some (parse_signed_digits own w64 ds r (subst P same h) all)

-- the digits of the number at the front
pub numeral_digits : (text : List ℕ) → begins is_digit text ≡ true → list_all is_digit (take (numeral_len text) text) ≡ true
numeral_digits [] e = absurd (false≢true e)
numeral_digits (b ∷ text) e = go (b == 48) refl
  where
    go : (d : Bool) → (b == 48) ≡ d → list_all is_digit (take (cond d 1 (prefix_len is_digit (b ∷ text))) (b ∷ text)) ≡ true
    go true z = rw e
    go false z = run_passes is_digit (b ∷ text)
