-- The first byte of an operand is no "=", so `!` ends before it.
use Rattle.std.proofs.Common.{◌≡◌, ◌==◌, ◌&&◌, ◌||◌, ◌<◌, ◌^◌, ℕ, Bool, true, false, List, [], ◌∷◌, ◌++◌, refl, sym, subst, is_none, arith}
use Rattle.std.specs.Fmt.{decimal}
use Rattle.std.specs.List.{list_all}
use Rattle.std.proofs.lemmas.Bool.{and_parts}
use Rattle.std.proofs.lemmas.Bool.Decides.{nat_tests}
use Rattle.std.proofs.lemmas.Fmt.{decimal_is_IsNumeral}
use Rattle.nb_value.specs.Function.{function_name}
use Rattle.nb_lexer.specs.declared.word.Word.TheVariants as word
use Rattle.nb_lexer.specs.Characters.{is_digit, is_letter, is_in_name}
use Rattle.nb_lexer.specs.Words.{keyword}
use Rattle.nb_lexer.specs.Spelling.{is_name, Ends}
use Rattle.nb_lexer.specs.Written.{word_text, IsWritable}
use Rattle.nb_lexer.proofs.NumberLemmas.{own}
use Rattle.nb_grammar.specs.Grammar as g
use Rattle.nb_grammar.specs.Grammar.{PostfixWay, PrimaryWay, Steps}
use Rattle.nb_grammar.proofs.EachWord.{postfix_each, primary_each}
use Rattle.nb_parser.proofs.Tight.{Stops, ends_by}
use Rattle.nb_parser.proofs.WayTexts as text

letter_fine : (b : ℕ) → is_letter b ≡ true → (b == 61) ≡ false
letter_fine b e = grind (arith, nat_tests)

digit_fine : (b : ℕ) → is_digit b ≡ true → (b == 61) ≡ false
digit_fine b e = grind (arith, nat_tests)

after_stop : (t : List ℕ) → Stops t → Ends word.Not t
after_stop t s = ends_by word.Not (λ b e. runs b e) t s
  where
    runs : (b : ℕ) → (is_in_name b || (b == 61)) ≡ false → (b == 61) ≡ false
    runs b e = go (is_in_name b) (b == 61) e
      where
        go : (p q : Bool) → (p || q) ≡ false → q ≡ false
        go false q e = e
        go true q e = cc

name_fine : (x t : List ℕ) → is_name x ≡ true → Ends word.Not (x ++ t)
name_fine [] t e = cc
name_fine (b ∷ x) t e =
    letter_fine b (and_parts (is_letter b) (list_all is_in_name (b ∷ x)) (and_parts (is_letter b && list_all is_in_name (b ∷ x)) (is_none (keyword (b ∷ x))) e).0).0

digits_fine : (ds t : List ℕ) → list_all is_digit ds ≡ true → Stops t → Ends word.Not (ds ++ t)
digits_fine [] t e s = after_stop t s
digits_fine (b ∷ ds) t e s = digit_fine b (and_parts (is_digit b) (list_all is_digit ds) e).0

number_fine : (k : ℕ) (t : List ℕ) → k < 2 ^ 63 → Stops t → Ends word.Not (decimal k ++ t)
number_fine k t small s = digits_fine (decimal k) t (own.from (decimal k) (decimal_is_IsNumeral k (omega arith)).0.1) s

primary_fine : (d : PrimaryWay) (t : List ℕ) → primary_each IsWritable d → Stops t → Ends word.Not (text.primary_text d t)
primary_fine (g.number n) t p s = subst (λ z. Ends word.Not (word_text (word.Number z) ++ t)) (sym p.2) (number_fine p.0 t p.1 s)
primary_fine (g.quoted x) t p s = refl
primary_fine g.true_word t p s = refl
primary_fine g.false_word t p s = refl
primary_fine g.null_word t p s = refl
primary_fine (g.name x) t p s = name_fine x t p
primary_fine (g.call1 f is a) t p s = name_fine (function_name f) _ p.0
primary_fine (g.call2 f is a b) t p s = name_fine (function_name f) _ p.0
primary_fine (g.call3 f is a b c) t p s = name_fine (function_name f) _ p.0
primary_fine (g.fetch e) t p s = refl
primary_fine (g.round e) t p s = refl
primary_fine g.no_items t p s = refl
primary_fine (g.items e more) t p s = refl
primary_fine g.no_pairs t p s = refl
primary_fine (g.pairs q more) t p s = refl

steps_stop : (d : Steps) (t : List ℕ) → Stops t → Stops (text.steps_text d t)
steps_stop g.no_step t s = s
steps_stop (g.field x more) t s = refl
steps_stop (g.at e more) t s = refl

pub not_ends : (d : PostfixWay) (t : List ℕ) → postfix_each IsWritable d → Stops t → Ends word.Not (text.postfix_text d t)
not_ends (g.postfix p more) t h s = primary_fine p (text.steps_text more t) h.0 (steps_stop more t s)
