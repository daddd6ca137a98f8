-- A number's text before a byte that is no digit is read in one way.
use Rattle.std.proofs.Common.{◌≡◌, ℕ, suc, ◌^◌, ◌<◌, ℤ, pos, negsuc, true, List, [], ◌∷◌, ◌++◌, length, decimal, length-append, refl, sym, ap, subst, arith}
use Rattle.std.specs.Char.{digit_value}
use Rattle.std.specs.Str.Parse.{AllDigits}
use Rattle.std.proofs.lemmas.Bool.{ltb-true}
use Rattle.std.proofs.lemmas.Fmt.{decimal_is_IsNumeral, decimal_injective}
use Rattle.serde_json.specs.Find.{of_integer}
use Rattle.serde_json.specs.Written.{number_text}
use Rattle.nb_print.specs.Law.{is_short}

-- the text is empty, or begins with no digit
abbrev pub Stops : List ℕ → Type 0
Stops [] = Unit {0}
Stops (x ∷ xs) = digit_value x < 10 → ⊥

digits_once : (ds es s t : List ℕ) → AllDigits 10 ds → AllDigits 10 es → Stops s → Stops t → ds ++ s ≡ es ++ t → (ds ≡ es) × (s ≡ t)
digits_once [] [] s t d e p q h = (refl, h)
digits_once [] (y ∷ es) [] t d e p q h = absurd (cc)
digits_once [] (y ∷ es) (x ∷ s) t d e p q h = let same : y ≡ x = cc in absurd (p (subst (λ z. digit_value z < 10) same e.0))
digits_once (x ∷ ds) [] s [] d e p q h = absurd (cc)
digits_once (x ∷ ds) [] s (y ∷ t) d e p q h = let same : x ≡ y = cc in absurd (q (subst (λ z. digit_value z < 10) same d.0))
digits_once (x ∷ ds) (y ∷ es) s t d e p q h =
    let first : x ≡ y = cc in
    let rest = digits_once ds es s t d.1 e.1 p q (cc) in
    ((λ i. first i ∷ rest.0 i), rest.1)

pub decimals_once : (m n : ℕ) (s t : List ℕ) → m < 2 ^ 64 → n < 2 ^ 64 → Stops s → Stops t → decimal m ++ s ≡ decimal n ++ t → (m ≡ n) × (s ≡ t)
decimals_once m n s t a b p q h =
    let both = digits_once (decimal m) (decimal n) s t (decimal_is_IsNumeral m a).0.1 (decimal_is_IsNumeral n b).0.1 p q h in
    (decimal_injective m n a b both.0, both.1)

-- a number begins with a digit, or with the sign
begins : (ds s r : List ℕ) (b : ℕ) → 0 < length ds → AllDigits 10 ds → ds ++ s ≡ b ∷ r → digit_value b < 10
begins [] s r b some d h = absurd (omega arith)
begins (x ∷ ds) s r b some d h = let same : x ≡ b = cc in subst (λ z. digit_value z < 10) same d.0

decimal_begins : (n : ℕ) (s r : List ℕ) (b : ℕ) → n < 2 ^ 64 → decimal n ++ s ≡ b ∷ r → digit_value b < 10
decimal_begins n s r b h e = let is = decimal_is_IsNumeral n h in begins (decimal n) s r b is.0.0 is.0.1 e

short_pos : (n : ℕ) → is_short (pos n) ≡ true → n < 2 ^ 64
short_pos n h = ltb-true n (2 ^ 64) h

short_neg : (n : ℕ) → is_short (negsuc n) ≡ true → suc n < 2 ^ 64
short_neg n h = omega (arith, ltb-true n (2 ^ 63) h)

never_minus : (n : ℕ) (s r : List ℕ) → n < 2 ^ 64 → decimal n ++ s ≡ 45 ∷ r → ⊥
never_minus n s r h e = let low : 36 < 10 = decimal_begins n s r 45 h e in omega arith

-- the text of a whole number
abbrev pub whole_text : ℤ → List ℕ
whole_text z = number_text (of_integer z)

pub numbers_once : (y z : ℤ) (s t : List ℕ) → is_short y ≡ true → is_short z ≡ true → Stops s → Stops t → whole_text y ++ s ≡ whole_text z ++ t → (y ≡ z) × (s ≡ t)
numbers_once (pos m) (pos n) s t a b p q h = let both = decimals_once m n s t (short_pos m a) (short_pos n b) p q h in (ap pos both.0, both.1)
numbers_once (pos m) (negsuc n) s t a b p q h = absurd (never_minus m s (decimal (suc n) ++ t) (short_pos m a) h)
numbers_once (negsuc m) (pos n) s t a b p q h = absurd (never_minus n t (decimal (suc m) ++ s) (short_pos n b) (sym h))
numbers_once (negsuc m) (negsuc n) s t a b p q h =
    let rest : decimal (suc m) ++ s ≡ decimal (suc n) ++ t = cc in
    let both = decimals_once (suc m) (suc n) s t (short_neg m a) (short_neg n b) p q rest in
    (ap negsuc (omega (arith, both.0)), both.1)

-- the first byte of a number: a digit, or the sign
pub number_begins : (z : ℤ) (s r : List ℕ) (b : ℕ) → is_short z ≡ true → whole_text z ++ s ≡ b ∷ r → (b ≡ 45 → ⊥) → digit_value b < 10
number_begins (pos n) s r b h e other = decimal_begins n s r b (short_pos n h) e
number_begins (negsuc n) s r b h e other = absurd (other (cc))

decimal_some : (n : ℕ) (s : List ℕ) → n < 2 ^ 64 → decimal n ++ s ≡ [] → ⊥
decimal_some n s h e = omega (arith, (decimal_is_IsNumeral n h).0.0, ap length e, length-append (decimal n) s)

pub number_not_empty : (z : ℤ) (s : List ℕ) → is_short z ≡ true → whole_text z ++ s ≡ [] → ⊥
number_not_empty (pos n) s h e = decimal_some n s (short_pos n h) e
number_not_empty (negsuc n) s h e = cc
