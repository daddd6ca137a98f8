-- What `parse` reads of the texts that are numbers.
use Rattle.std.proofs.Common.{◌≡◌, ◌≢◌, ℕ, ◌<◌, ◌∙◌, List, [], ◌∷◌, length, get_or, refl, ap, sym, Bool, true, false, cond, arith, rules, nat_le, Option, Some, None, Result, Ok, Err, codes}
use Rattle.std.specs.Prelude.{bytes_eq, ◌^◌, ◌&&◌, ◌||◌, option_and_then}
use Rattle.std.specs.List.{list_all}
use Rattle.std.specs.Char.{is_ascii_digit}
use Rattle.std.specs.Result.{OkIff, result_ok}
use Rattle.std.specs.Str.Parse.{digits_value, ParsesUnsigned}
use Rattle.std.specs.Cmp.Lexicographic.{bytes_decides}
use Rattle.std.proofs.lemmas.Str.Parse.{IsNumeralModel, numerals_by_value, parse_plain}
use Rattle.std.proofs.lemmas.Bool.Decides.{nat_tests}
use Rattle.nb_cli.specs.Command.{is_positive, is_number, number, within}

abbrev Digits : List ℕ → Type 0
Digits ds = list_all is_ascii_digit ds ≡ true

own : IsNumeralModel Digits (digits_value 10)
own = numerals_by_value Digits (search rules)

record Spelled (ds : List ℕ) : Type 0 where
  digits : Digits ds
  some : 0 < length ds
  no_plus : get_or ds 0 0 ≢ 43

positive : (ds : List ℕ) → is_positive ds ≡ true → Spelled ds
positive [] e = absurd (cc)
positive (d ∷ ds) e = of (nat_le 49 d) (nat_le d 57) (list_all is_ascii_digit ds) refl refl refl e
  where
    of : (b b' b'' : Bool) → nat_le 49 d ≡ b → nat_le d 57 ≡ b' → list_all is_ascii_digit ds ≡ b'' → (b && b' && b'') ≡ true → Spelled (d ∷ ds)
    of true true true p q r f = record {
      digits = grind (arith, nat_tests);
      some = omega arith;
      no_plus = λ z. grind (arith, nat_tests);
    }
    of false b' b'' p q r f = absurd (cc)
    of true false b'' p q r f = absurd (cc)
    of true true false p q r f = absurd (cc)

spelled : (ds : List ℕ) → is_number ds ≡ true → Spelled ds
spelled ds e = of (bytes_eq ds (codes "0")) refl e
  where
    of : (b : Bool) → bytes_eq ds (codes "0") ≡ b → (b || is_positive ds) ≡ true → Spelled ds
    of true p f =
        let zero_is : ds ≡ 48 ∷ [] = (bytes_decides ds (48 ∷ [])).0 p in
        rw zero_is (record { digits = refl; some = omega arith; no_plus = λ z. omega arith })
    of false p f = positive ds f

no_number : (a b : Bool) (v : ℕ) → None ≡ cond (a && (b && false)) (Some v) None
no_number true true v = refl
no_number true false v = refl
no_number false b v = refl

-- of a text that is a number `parse` gives that number, where it has 32 bits
pub number_read : {E : Type 0} (least most : ℕ) (text : List ℕ) (r : Result ℕ E) → ParsesUnsigned 32 10 text r → is_number text ≡ true → most < 2 ^ 32
    → within least most (result_ok r) ≡ number least most text
number_read least most text r h e small = go r (parse_plain own 32 text r h (spelled text e).no_plus)
  where
    go : {E : Type 0} (r : Result ℕ E) → OkIff r (Digits text × (0 < length text) × (digits_value 10 text < 2 ^ 32)) (digits_value 10 text)
        → within least most (result_ok r) ≡ number least most text
    go (Ok x) k =
        let v = digits_value 10 text in
        ap (λ (n : ℕ). cond (nat_le least n && nat_le n most) (Some n) None) k.1
        ∙ ap (λ b. cond (b && (nat_le least v && nat_le v most)) (Some v) None) (sym e)
    go (Err d) k = over (nat_le (digits_value 10 text) most) refl
      where
        over : (b : Bool) → nat_le (digits_value 10 text) most ≡ b → None ≡ cond (is_number text && (nat_le least (digits_value 10 text) && b)) (Some (digits_value 10 text)) None
        over true q = absurd (k ((spelled text e).digits, (spelled text e).some, grind (arith, nat_tests)))
        over false q = no_number (is_number text) (nat_le least (digits_value 10 text)) (digits_value 10 text)
