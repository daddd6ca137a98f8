-- A line feed after a text changes nothing of what is read of it as JSON.
use Rattle.std.proofs.Common.{◌≡◌, inr, ℕ, zero, suc, ◌+◌, ◌-◌, ◌*◌, ◌≤◌, ◌&&◌, ◌||◌, ◌==◌, List, [], ◌∷◌, ◌++◌, Bool, true, false, cond, length, take, drop, nat_eq, Option, Some, None, option_map, option_and_then, refl, ap, ap₂, ◌∙◌, arith, length-append}
use Rattle.std.proofs.lemmas.List.{take-append-le, drop-append-le}
use Rattle.std.specs.Cmp.Lexicographic.{pointwise}
use Rattle.std.specs.List.{prefix_len}
use Rattle.std.specs.Char.{is_ascii_digit, is_digit, digit_value, encode_utf8}
use Rattle.json.specs.Token.{Token, boolean, null, number, bad}
use Rattle.json.specs.Text.{Within, plain, after_backslash, after_u, after_high, code_unit, short_escape, is_high_surrogate, is_low_surrogate, prepend, content}
use Rattle.json.specs.Word.{ends_word, after_digits, after_minus, after_sign, after_whole, after_fraction, after_exponent, after_number, number_before, literal, word}
use Rattle.json.specs.Lex.{token, Class, quote, backslash, operator, space, other, class, operator_lexeme, string_token, Mode, between, in_word, in_string, in_escape, lex_byte, lex, fresh, punctuate, tokens}
use Rattle.std.specs.Str.{IsUtf8}
use Rattle.std.proofs.lemmas.Str.{IsUtf8-append}
use Rattle.json.proofs.Printed.Utf8.{IsUtf8-IsGap}
use Rattle.serde_json.specs.Data.{Data}
use Rattle.nb_lines.specs.Reasons.{line_data}
use Rattle.nb_lines.proofs.DataLemmas.{line_data-read}
use Rattle.serde_json.specs.Read.{read, max_depth, of_json}
use Rattle.json.specs.Json as json
use Rattle.json.specs.Ascii as ascii
use Rattle.std.specs.Bool.{⊤}

abbrev more : List ℕ → List ℕ
more xs = xs ++ 10 ∷ []

-- ---- strings

then_same : {A B : Type 0} (f g : A → Option B) → ((a : A) → f a ≡ g a) → (o : Option A) → option_and_then f o ≡ option_and_then g o
then_same f g same None = refl
then_same f g same (Some a) = same a

-- a line feed is no digit
no_unit : (a b c : ℕ) → code_unit a b c 10 ≡ None
unfolding code_unit
no_unit a b c = go (is_digit a 16) (is_digit b 16) (is_digit c 16)
  where
    go : (p q r : Bool) → cond (p && q && r && is_digit 10 16) (Some (digit_value a * 4096 + digit_value b * 256 + digit_value c * 16 + digit_value 10)) None ≡ None
    go false q r = refl
    go true false r = refl
    go true true false = refl
    go true true true = refl

either_none : (b : Bool) (o : Option (List ℕ)) → o ≡ None → cond b o None ≡ None
either_none true o e = e
either_none false o e = refl

then_none : {A B : Type 0} (f : A → Option B) (o : Option A) → o ≡ None → option_and_then f o ≡ None
then_none f None e = refl
then_none f (Some a) e = absurd (cc)

content_more : (w : Within) (xs : List ℕ) → content w (more xs) ≡ content w xs
unfolding content short_escape
content_more plain [] = refl
content_more plain (x ∷ xs) = rw (content_more after_backslash xs, content_more plain xs) refl
content_more after_backslash [] = refl
content_more after_backslash (x ∷ xs) = rw (content_more after_u xs, content_more plain xs) refl
content_more after_u [] = refl
content_more after_u (a ∷ []) = refl
content_more after_u (a ∷ b ∷ []) = refl
content_more after_u (a ∷ b ∷ c ∷ []) = rw (no_unit a b c) refl
content_more after_u (a ∷ b ∷ c ∷ d ∷ xs) =
    then_same _ _
    (λ u. ap₂ (λ high rest. cond (is_high_surrogate u) high (cond (is_low_surrogate u) None (prepend (encode_utf8 u) rest))) (content_more (after_high u) xs) (content_more plain xs)) (code_unit a b c d)
content_more (after_high h) [] = refl
content_more (after_high h) (s ∷ []) = refl
content_more (after_high h) (s ∷ u ∷ []) = refl
content_more (after_high h) (s ∷ u ∷ a ∷ []) = refl
content_more (after_high h) (s ∷ u ∷ a ∷ b ∷ []) = refl
content_more (after_high h) (s ∷ u ∷ a ∷ b ∷ c ∷ []) = either_none ((s == 92) && (u == 117)) _ (then_none _ (code_unit a b c 10) (no_unit a b c))
content_more (after_high h) (s ∷ u ∷ a ∷ b ∷ c ∷ d ∷ xs) = rw (content_more plain xs) refl

-- ---- numbers

-- what is left has the line feed too
abbrev Leaves : (List ℕ → Option (List ℕ)) → Type 0
Leaves f = (t : List ℕ) → f (more t) ≡ option_map more (f t)

digits_same : (t : List ℕ) → prefix_len is_ascii_digit (more t) ≡ prefix_len is_ascii_digit t
digits_same [] = refl
digits_same (x ∷ xs) = ap (λ n. cond (is_ascii_digit x) (1 + n) 0) (digits_same xs)

digits_within : (t : List ℕ) → prefix_len is_ascii_digit t ≤ length t
digits_within [] = omega arith
digits_within (x ∷ xs) = go (is_ascii_digit x) (digits_within xs)
  where
    go : (b : Bool) → prefix_len is_ascii_digit xs ≤ length xs → cond b (1 + prefix_len is_ascii_digit xs) 0 ≤ length (x ∷ xs)
    go true h = omega (arith, h)
    go false h = omega arith

leaves_digits : Leaves after_digits
leaves_digits t =
    let n = prefix_len is_ascii_digit t in
    ap (λ k. cond (k == 0) None (Some (drop k (more t)))) (digits_same t) ∙ ap (λ r. cond (n == 0) None (Some r)) (drop-append-le n t (10 ∷ []) (digits_within t)) ∙ go (n == 0)
  where
    go : (b : Bool) → cond b None (Some (more (drop (prefix_len is_ascii_digit t) t))) ≡ option_map more (cond b None (Some (drop (prefix_len is_ascii_digit t) t)))
    go true = refl
    go false = refl

both_more : (b : Bool) (xs ys : List ℕ) → cond b (more xs) (more ys) ≡ more (cond b xs ys)
both_more true xs ys = refl
both_more false xs ys = refl

minus_more : (t : List ℕ) → after_minus (more t) ≡ more (after_minus t)
minus_more [] = refl
minus_more (x ∷ xs) = both_more (x == 45) xs (x ∷ xs)

sign_more : (t : List ℕ) → after_sign (more t) ≡ more (after_sign t)
sign_more [] = refl
sign_more (x ∷ xs) = both_more ((x == 45) || (x == 43)) xs (x ∷ xs)

either_leaves : (b : Bool) (x y p q : Option (List ℕ)) → x ≡ option_map more p → y ≡ option_map more q → cond b x y ≡ option_map more (cond b p q)
either_leaves true x y p q e f = e
either_leaves false x y p q e f = f

leaves_whole : Leaves after_whole
leaves_whole [] = refl
leaves_whole (x ∷ xs) = either_leaves (x == 48) (Some (more xs)) (after_digits (x ∷ more xs)) (Some xs) (after_digits (x ∷ xs)) refl (leaves_digits (x ∷ xs))

leaves_fraction : Leaves after_fraction
leaves_fraction [] = refl
leaves_fraction (x ∷ xs) = either_leaves (x == 46) (after_digits (more xs)) (Some (x ∷ more xs)) (after_digits xs) (Some (x ∷ xs)) (leaves_digits xs) refl

leaves_exponent : Leaves after_exponent
leaves_exponent [] = refl
leaves_exponent (x ∷ xs) =
    either_leaves ((x == 101) || (x == 69)) (after_digits (after_sign (more xs))) (Some (x ∷ more xs)) (after_digits (after_sign xs)) (Some (x ∷ xs)) (ap after_digits (sign_more xs) ∙ leaves_digits (after_sign xs)) refl

then_leaves : (f : List ℕ → Option (List ℕ)) → Leaves f → (o : Option (List ℕ)) → option_and_then f (option_map more o) ≡ option_map more (option_and_then f o)
then_leaves f leaves None = refl
then_leaves f leaves (Some t) = leaves t

leaves_number : Leaves after_number
unfolding after_number
leaves_number t =
    ap (λ u. option_and_then after_exponent (option_and_then after_fraction (after_whole u))) (minus_more t)
    ∙ ap (λ o. option_and_then after_exponent (option_and_then after_fraction o)) (leaves_whole (after_minus t))
    ∙ ap (option_and_then after_exponent) (then_leaves after_fraction leaves_fraction (after_whole (after_minus t)))
    ∙ then_leaves after_exponent leaves_exponent (option_and_then after_fraction (after_whole (after_minus t)))

-- a word that ends here ends there
ends_more : (t : List ℕ) → ends_word (more t) ≡ ends_word t
ends_more [] = refl
ends_more (x ∷ xs) = refl

number_more : (t : List ℕ) (o : Option (List ℕ)) → number_before (more t) (option_map more o) ≡ number_before t o
number_more t None = refl
number_more t (Some rest) =
    let less : length (more t) - length (more rest) ≡ length t - length rest = omega (arith, length-append t (10 ∷ []), length-append rest (10 ∷ [])) in
    ap₂ (λ b s. cond b (number s) bad) (ends_more rest)
    (ap (λ n. take n (more t)) less ∙ take-append-le (length t - length rest) t (10 ∷ []) (omega arith))

-- ---- the three literals

abbrev HasNoFeed : List ℕ → Type 0
HasNoFeed [] = ⊤
HasNoFeed (n ∷ ns) = (nat_eq n 10 ≡ false) × HasNoFeed ns

front_more : (name t : List ℕ) → HasNoFeed name → pointwise nat_eq name (take (length name) (more t)) ≡ pointwise nat_eq name (take (length name) t)
front_more [] t h = refl
front_more (n ∷ ns) [] h = ap (λ b. b && pointwise nat_eq ns (take (length ns) [])) h.0
front_more (n ∷ ns) (x ∷ xs) h = ap (λ b. nat_eq n x && b) (front_more ns xs h.1)

drop_none : (k : ℕ) (xs : List ℕ) → xs ≡ [] → drop k xs ≡ []
drop_none zero xs e = e
drop_none (suc k) [] e = refl
drop_none (suc k) (x ∷ xs) e = absurd (cc)

after_front : (k : ℕ) (t : List ℕ) → ends_word (drop k (more t)) ≡ ends_word (drop k t)
after_front zero t = ends_more t
after_front (suc k) [] = ap ends_word (drop_none k [] refl)
after_front (suc k) (x ∷ xs) = after_front k xs

literal_more : (name : List ℕ) (k : Token) (t : List ℕ) → HasNoFeed name → literal name k (more t) ≡ literal name k t
literal_more name k t h = ap₂ (λ a b. cond (a && b) k bad) (front_more name t h) (after_front (length name) t)

word_more : (x : ℕ) (xs : List ℕ) → word (more (x ∷ xs)) ≡ word (x ∷ xs)
unfolding word
word_more x xs =
    rw (
      literal_more ascii.true_text (boolean true) (x ∷ xs) (refl, (refl, (refl, (refl, tt)))),
      literal_more ascii.false_text (boolean false) (x ∷ xs) (refl, (refl, (refl, (refl, (refl, tt))))),
      literal_more ascii.null_text null (x ∷ xs) (refl, (refl, (refl, (refl, tt)))),
      leaves_number (x ∷ xs),
      number_more (x ∷ xs) (after_number (x ∷ xs)),
    )
    refl

-- ---- all

byte_more : (m : Mode) (c : Class) (x : ℕ) (xs : List ℕ) → ((n : Mode) → lex n (more xs) ≡ lex n xs) → lex_byte m c x (more xs) (λ n. lex n (more xs)) ≡ lex_byte m c x xs (λ n. lex n xs)
byte_more between quote x xs rest = ap₂ (λ o ls. token (string_token o) ∷ ls) (content_more plain xs) (rest in_string)
byte_more between backslash x xs rest = ap (λ ls. token bad ∷ ls) (rest in_word)
byte_more between operator x xs rest = ap (λ ls. operator_lexeme x ∷ ls) (rest between)
byte_more between space x xs rest = rest between
byte_more between other x xs rest = ap₂ (λ w ls. token w ∷ ls) (word_more x xs) (rest in_word)
byte_more in_word quote x xs rest = rest in_word
byte_more in_word backslash x xs rest = rest in_word
byte_more in_word operator x xs rest = ap (λ ls. operator_lexeme x ∷ ls) (rest between)
byte_more in_word space x xs rest = rest between
byte_more in_word other x xs rest = rest in_word
byte_more in_string quote x xs rest = rest between
byte_more in_string backslash x xs rest = rest in_escape
byte_more in_string operator x xs rest = rest in_string
byte_more in_string space x xs rest = rest in_string
byte_more in_string other x xs rest = rest in_string
byte_more in_escape c x xs rest = rest in_string

lex_more : (m : Mode) (xs : List ℕ) → lex m (more xs) ≡ lex m xs
unfolding lex
lex_more between [] = refl
lex_more in_word [] = refl
lex_more in_string [] = refl
lex_more in_escape [] = refl
lex_more m (x ∷ xs) = byte_more m (class x) x xs (λ n. lex_more n xs)

tokens_more : (text : List ℕ) → tokens (more text) ≡ tokens text
tokens_more text = ap (punctuate fresh) (lex_more between text)

pub read_more : (text : List ℕ) → read (text ++ 10 ∷ []) ≡ read text
read_more text = ap (λ ts. option_and_then of_json (option_and_then (λ p. json.if_last p.0 p.1) (json.value max_depth ts))) (tokens_more text)

pub line_read_again : (text : List ℕ) (d : Data) → IsUtf8 text → read text ≡ Some d → line_data (text ++ 10 ∷ []) ≡ Some d
line_read_again text d utf8 e = line_data-read (text ++ 10 ∷ []) d (IsUtf8-append text (10 ∷ []) utf8 (IsUtf8-IsGap (10 ∷ []) (inr refl, tt))) (read_more text ∙ e)
