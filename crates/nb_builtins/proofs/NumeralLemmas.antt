-- What `parse` reads of the texts that spell numbers.
use Rattle.std.proofs.Common.{◌≡◌, ◌≢◌, ℕ, zero, suc, ◌<◌, List, [], ◌∷◌, length, get_or, refl, ap, ◌∙◌, sym, Bool, true, false, cond, arith, rules, nat_lt, nat_le, Option, Some, None, Result, Ok, Err, ℤ, pos, neg_ℤ, w64, option_map, is_some}
use Rattle.std.specs.Prelude.{bytes_eq, ◌==◌, ◌^◌, ◌&&◌}
use Rattle.std.specs.List.{list_all}
use Rattle.std.specs.Char.{is_ascii_digit}
use Rattle.std.specs.Result.{OkIff, result_ok}
use Rattle.std.specs.Str.Parse.{digits_value, ParsesSigned}
use Rattle.std.specs.Cmp.Lexicographic.{bytes_decides}
use Rattle.std.proofs.lemmas.Str.Parse.{IsNumeralModel, numerals_by_value, parse_signed_minus, parse_signed_plain}
use Rattle.std.proofs.lemmas.Bool.Decides.{nat_tests}
use Rattle.nb_builtins.specs.Sums.{in_range}
use Rattle.nb_builtins.specs.Numerals.{positive, natural, spelled, is_numeral, int_within}

abbrev Digits : List ℕ → Type 0
Digits ds = list_all is_ascii_digit ds ≡ true

own : IsNumeralModel Digits (digits_value 10)
own = numerals_by_value Digits (search rules)

-- ---- digits 1 to 9 with digits behind, and `0`

record Reads (ds : List ℕ) (n : ℕ) : Type 0 where
  digits : Digits ds
  some : 0 < length ds
  value : digits_value 10 ds ≡ n
  no_plus : get_or ds 0 0 ≢ 43
  no_minus : get_or ds 0 0 ≢ 45

reads_positive : (ds : List ℕ) (n : ℕ) → positive ds ≡ Some n → Reads ds n
reads_positive [] n e = absurd (cc)
reads_positive (d ∷ ds) n e = of (nat_le 49 d) (nat_le d 57) (list_all is_ascii_digit ds) refl refl refl e
  where
    of : (b b' b'' : Bool) → nat_le 49 d ≡ b → nat_le d 57 ≡ b' → list_all is_ascii_digit ds ≡ b'' → cond (b && b' && b'') (Some (digits_value 10 (d ∷ ds))) None ≡ Some n → Reads (d ∷ ds) n
    of true true true p q r f = record {
      digits = grind (arith, nat_tests);
      some = omega arith;
      value = cc;
      no_plus = λ z. grind (arith, nat_tests);
      no_minus = λ z. grind (arith, nat_tests);
    }
    of false b' b'' p q r f = absurd (cc)
    of true false b'' p q r f = absurd (cc)
    of true true false p q r f = absurd (cc)

reads_zero : (ds : List ℕ) → bytes_eq ds (48 ∷ []) ≡ true → Reads ds 0
reads_zero ds e =
    let zero_is : ds ≡ 48 ∷ [] = (bytes_decides ds (48 ∷ [])).0 e in
    rw zero_is (record { digits = refl; some = omega arith; value = refl; no_plus = λ z. omega arith; no_minus = λ z. omega arith })

reads_natural : (ds : List ℕ) (n : ℕ) → natural ds ≡ Some n → Reads ds n
reads_natural ds n e = of (bytes_eq ds (48 ∷ [])) refl e
  where
    of : (b : Bool) → bytes_eq ds (48 ∷ []) ≡ b → cond b (Some 0) (positive ds) ≡ Some n → Reads ds n
    of true p f = let same : 0 ≡ n = cc in rw (sym same) (reads_zero ds p)
    of false p f = reads_positive ds n f

-- ---- within 64 bits

pos_fits : (n : ℕ) → in_range (pos n) ≡ nat_lt n (2 ^ 63)
pos_fits n = refl

neg_fits : (n : ℕ) → in_range (neg_ℤ (pos n)) ≡ nat_le n (2 ^ 63)
neg_fits zero = refl
neg_fits (suc n) = grind (arith, nat_tests)

fits_ok : {E : Type 0} (r : Result ℤ E) (P : Type 0) (z : ℤ) → OkIff r P z → (P → in_range z ≡ true) → (in_range z ≡ true → P) → result_ok r ≡ int_within (Some z)
fits_ok (Ok x) P z h f g = rw (f h.0) (ap Some h.1)
fits_ok (Err e) P z h f g = of (in_range z) refl
  where
    of : (b : Bool) → in_range z ≡ b → None ≡ cond b (Some z) None
    of true p = absurd (h (g p))
    of false p = refl

minus : {E : Type 0} (c : ℕ) (ds : List ℕ) (r : Result ℤ E) (n : ℕ) → c ≡ 45 → ParsesSigned w64 10 (c ∷ ds) r → Reads ds n → result_ok r ≡ int_within (Some (neg_ℤ (pos n)))
minus c ds r n e h d = rw (sym d.value) (fits_ok r _ _ (parse_signed_minus own w64 (c ∷ ds) r h e)
    (λ p. neg_fits (digits_value 10 ds) ∙ grind (arith, nat_tests)) (λ p. (d.digits, d.some, let q : nat_le (digits_value 10 ds) (2 ^ 63) ≡ true = sym (neg_fits (digits_value 10 ds)) ∙ p in grind (arith, nat_tests))))

plain : {E : Type 0} (ds : List ℕ) (r : Result ℤ E) (n : ℕ) → ParsesSigned w64 10 ds r → Reads ds n → result_ok r ≡ int_within (Some (pos n))
plain ds r n h d = rw (sym d.value) (fits_ok r _ _ (parse_signed_plain own w64 ds r h d.no_plus d.no_minus)
    (λ p. grind (arith, nat_tests)) (λ p. (d.digits, d.some, grind (arith, nat_tests))))

-- of a text that spells a number `parse` gives that number, where it is within 64 bits
pub parsed : {E : Type 0} (bs : List ℕ) (r : Result ℤ E) → ParsesSigned w64 10 bs r → is_numeral bs ≡ true → result_ok r ≡ int_within (spelled bs)
parsed [] r h e = absurd (cc)
parsed (c ∷ ds) r h e = of (c == 45) refl (positive ds) refl (natural (c ∷ ds)) refl e
  where
    of : (b : Bool) → (c == 45) ≡ b → (p : Option ℕ) → positive ds ≡ p → (o : Option ℕ) → natural (c ∷ ds) ≡ o
        → is_some (cond b (option_map (λ n. neg_ℤ (pos n)) p) (option_map pos o)) ≡ true → result_ok r ≡ int_within (cond b (option_map (λ n. neg_ℤ (pos n)) p) (option_map pos o))
    of true t (Some n) u o w f = minus c ds r n (grind (arith, nat_tests)) h (reads_positive ds n u)
    of true t None u o w f = absurd (cc)
    of false t p u (Some n) w f = plain (c ∷ ds) r n h (reads_natural (c ∷ ds) n w)
    of false t p u None w f = absurd (cc)
