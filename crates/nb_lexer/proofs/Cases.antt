-- What kinds of words there are, and what holds of the spelling of each.
use Rattle.std.proofs.Common.{◌≡◌, ◌<◌, ◌&&◌, inl, inr, ℕ, ℤ, Bool, true, false, nat_lt, List, [], ◌∷◌, ◌++◌, length, refl, sym, ap, arith}
use Rattle.std.proofs.lemmas.Bool.{and_parts, or_cases}
use Rattle.std.proofs.lemmas.Bool.Decides.{nat_tests}
use Rattle.std.specs.Cmp.Lexicographic.{same_text}
use Rattle.std.specs.List.{list_all}
use Rattle.std.specs.Str.{bytes_eq}
use Rattle.nb_lexer.specs.declared.word.Word.{Word}
use Rattle.nb_lexer.specs.declared.word.Word.TheVariants as word
use Rattle.nb_lexer.specs.declared.token.TokenKind.TheVariants as kind
use Rattle.nb_lexer.specs.Characters.{is_digit, is_letter, is_in_name, is_quote, is_gap, begins}
use Rattle.nb_lexer.specs.Words.{fixed_text, kind_of}
use Rattle.nb_lexer.specs.Spelling.{is_first_digit, is_numeral, is_name, SpellsNumber, SpellsText, Spells}
use Rattle.nb_lexer.proofs.Runs.{begins_too}

-- what a word is, by its spelling
pub data Case (w : Word) (s : List ℕ) : Type 0 where
  a_name : (x : List ℕ) → w ≡ word.Name x → s ≡ x → is_name x ≡ true → Case w s
  a_number : (n : ℤ) → w ≡ word.Number n → SpellsNumber n s → Case w s
  a_text : (x : List ℕ) → w ≡ word.Quoted x → SpellsText x s → Case w s
  a_keyword : kind_of w ≡ kind.Keyword → s ≡ fixed_text w → Case w s
  a_sign : kind_of w ≡ kind.Sign → s ≡ fixed_text w → Case w s

pub case_of : (w : Word) (s : List ℕ) → Spells w s → Case w s
case_of (word.Name x) s h = a_name x refl h.0 h.1
case_of (word.Number n) s h = a_number n refl h
case_of (word.Quoted x) s h = a_text x refl h
case_of word.Let s h = a_keyword refl h
case_of word.If s h = a_keyword refl h
case_of word.Else s h = a_keyword refl h
case_of word.While s h = a_keyword refl h
case_of word.For s h = a_keyword refl h
case_of word.Of s h = a_keyword refl h
case_of word.Yield s h = a_keyword refl h
case_of word.Return s h = a_keyword refl h
case_of word.Throw s h = a_keyword refl h
case_of word.Cleanup s h = a_keyword refl h
case_of word.Fetch s h = a_keyword refl h
case_of word.True s h = a_keyword refl h
case_of word.False s h = a_keyword refl h
case_of word.Null s h = a_keyword refl h
case_of _ s h = a_sign refl h

-- ---- the first character

pub name_letter : (x : List ℕ) → is_name x ≡ true → begins is_letter x ≡ true
name_letter x e = (and_parts _ _ (and_parts _ _ e).0).0

pub name_passes : (x : List ℕ) → is_name x ≡ true → list_all is_in_name x ≡ true
name_passes x e = (and_parts _ _ (and_parts _ _ e).0).1

first_digit_digit : (b : ℕ) → is_first_digit b ≡ true → is_digit b ≡ true
first_digit_digit b e = grind (arith, nat_tests)

pub zero_is : (s : List ℕ) → bytes_eq s (48 ∷ []) ≡ true → s ≡ 48 ∷ []
zero_is s e = same_text s (48 ∷ []) (sym e)

pub numeral_digit : (s : List ℕ) → is_numeral s ≡ true → begins is_digit s ≡ true
numeral_digit s e =
    elim (or_cases (bytes_eq s (48 ∷ [])) (begins is_first_digit s && list_all is_digit s) e) [
      | inl z ↦ ap (begins is_digit) (zero_is s z)
      | inr d ↦ begins_too is_first_digit is_digit first_digit_digit s (and_parts _ _ d).0
    ]

pub numeral_passes : (s : List ℕ) → is_numeral s ≡ true → list_all is_digit s ≡ true
numeral_passes s e =
    elim (or_cases (bytes_eq s (48 ∷ [])) (begins is_first_digit s && list_all is_digit s) e) [
      | inl z ↦ ap (list_all is_digit) (zero_is s z)
      | inr d ↦ (and_parts _ _ d).1
    ]

-- ---- keywords and signs

pub keyword_letter : (w : Word) → kind_of w ≡ kind.Keyword → begins is_letter (fixed_text w) ≡ true
keyword_letter word.Let e = refl
keyword_letter word.If e = refl
keyword_letter word.Else e = refl
keyword_letter word.While e = refl
keyword_letter word.For e = refl
keyword_letter word.Of e = refl
keyword_letter word.Yield e = refl
keyword_letter word.Return e = refl
keyword_letter word.Throw e = refl
keyword_letter word.Cleanup e = refl
keyword_letter word.Fetch e = refl
keyword_letter word.True e = refl
keyword_letter word.False e = refl
keyword_letter word.Null e = refl
keyword_letter _ e = cc

pub keyword_passes : (w : Word) → kind_of w ≡ kind.Keyword → list_all is_in_name (fixed_text w) ≡ true
keyword_passes word.Let e = refl
keyword_passes word.If e = refl
keyword_passes word.Else e = refl
keyword_passes word.While e = refl
keyword_passes word.For e = refl
keyword_passes word.Of e = refl
keyword_passes word.Yield e = refl
keyword_passes word.Return e = refl
keyword_passes word.Throw e = refl
keyword_passes word.Cleanup e = refl
keyword_passes word.Fetch e = refl
keyword_passes word.True e = refl
keyword_passes word.False e = refl
keyword_passes word.Null e = refl
keyword_passes _ e = cc

abbrev pub is_low : ℕ → Bool
is_low b = nat_lt b 128

-- what a sign begins with
pub record SignBegins (text : List ℕ) : Type 0 where
  pub some : 0 < length text
  pub no_letter : begins is_letter text ≡ false
  pub no_digit : begins is_digit text ≡ false
  pub no_quote : begins is_quote text ≡ false
  pub no_gap : begins is_gap text ≡ false

pub sign_begins : (w : Word) → kind_of w ≡ kind.Sign → (text : List ℕ) → SignBegins (fixed_text w ++ text)
sign_begins word.Equal e text = record { some = omega arith; no_letter = refl; no_digit = refl; no_quote = refl; no_gap = refl }
sign_begins word.NotEqual e text = record { some = omega arith; no_letter = refl; no_digit = refl; no_quote = refl; no_gap = refl }
sign_begins word.LessOrEqual e text = record { some = omega arith; no_letter = refl; no_digit = refl; no_quote = refl; no_gap = refl }
sign_begins word.GreaterOrEqual e text = record { some = omega arith; no_letter = refl; no_digit = refl; no_quote = refl; no_gap = refl }
sign_begins word.And e text = record { some = omega arith; no_letter = refl; no_digit = refl; no_quote = refl; no_gap = refl }
sign_begins word.Or e text = record { some = omega arith; no_letter = refl; no_digit = refl; no_quote = refl; no_gap = refl }
sign_begins word.Plus e text = record { some = omega arith; no_letter = refl; no_digit = refl; no_quote = refl; no_gap = refl }
sign_begins word.Minus e text = record { some = omega arith; no_letter = refl; no_digit = refl; no_quote = refl; no_gap = refl }
sign_begins word.Times e text = record { some = omega arith; no_letter = refl; no_digit = refl; no_quote = refl; no_gap = refl }
sign_begins word.Divide e text = record { some = omega arith; no_letter = refl; no_digit = refl; no_quote = refl; no_gap = refl }
sign_begins word.Remainder e text = record { some = omega arith; no_letter = refl; no_digit = refl; no_quote = refl; no_gap = refl }
sign_begins word.OpenRound e text = record { some = omega arith; no_letter = refl; no_digit = refl; no_quote = refl; no_gap = refl }
sign_begins word.CloseRound e text = record { some = omega arith; no_letter = refl; no_digit = refl; no_quote = refl; no_gap = refl }
sign_begins word.OpenSquare e text = record { some = omega arith; no_letter = refl; no_digit = refl; no_quote = refl; no_gap = refl }
sign_begins word.CloseSquare e text = record { some = omega arith; no_letter = refl; no_digit = refl; no_quote = refl; no_gap = refl }
sign_begins word.OpenCurly e text = record { some = omega arith; no_letter = refl; no_digit = refl; no_quote = refl; no_gap = refl }
sign_begins word.CloseCurly e text = record { some = omega arith; no_letter = refl; no_digit = refl; no_quote = refl; no_gap = refl }
sign_begins word.Comma e text = record { some = omega arith; no_letter = refl; no_digit = refl; no_quote = refl; no_gap = refl }
sign_begins word.Colon e text = record { some = omega arith; no_letter = refl; no_digit = refl; no_quote = refl; no_gap = refl }
sign_begins word.Semicolon e text = record { some = omega arith; no_letter = refl; no_digit = refl; no_quote = refl; no_gap = refl }
sign_begins word.Dot e text = record { some = omega arith; no_letter = refl; no_digit = refl; no_quote = refl; no_gap = refl }
sign_begins word.Assign e text = record { some = omega arith; no_letter = refl; no_digit = refl; no_quote = refl; no_gap = refl }
sign_begins word.Less e text = record { some = omega arith; no_letter = refl; no_digit = refl; no_quote = refl; no_gap = refl }
sign_begins word.Greater e text = record { some = omega arith; no_letter = refl; no_digit = refl; no_quote = refl; no_gap = refl }
sign_begins word.Not e text = record { some = omega arith; no_letter = refl; no_digit = refl; no_quote = refl; no_gap = refl }
sign_begins word.Question e text = record { some = omega arith; no_letter = refl; no_digit = refl; no_quote = refl; no_gap = refl }
sign_begins _ e text = cc

pub sign_low : (w : Word) → kind_of w ≡ kind.Sign → list_all is_low (fixed_text w) ≡ true
sign_low word.Equal e = refl
sign_low word.NotEqual e = refl
sign_low word.LessOrEqual e = refl
sign_low word.GreaterOrEqual e = refl
sign_low word.And e = refl
sign_low word.Or e = refl
sign_low word.Plus e = refl
sign_low word.Minus e = refl
sign_low word.Times e = refl
sign_low word.Divide e = refl
sign_low word.Remainder e = refl
sign_low word.OpenRound e = refl
sign_low word.CloseRound e = refl
sign_low word.OpenSquare e = refl
sign_low word.CloseSquare e = refl
sign_low word.OpenCurly e = refl
sign_low word.CloseCurly e = refl
sign_low word.Comma e = refl
sign_low word.Colon e = refl
sign_low word.Semicolon e = refl
sign_low word.Dot e = refl
sign_low word.Assign e = refl
sign_low word.Less e = refl
sign_low word.Greater e = refl
sign_low word.Not e = refl
sign_low word.Question e = refl
sign_low _ e = cc
