-- The word at the front of a text that stands at the place at: which it is, and the place behind it; or the fault. No public clause
-- speaks of this: it is a step between the code and the spelling of words.
use Rattle.std.specs.Prelude.{◌≡◌, ◌+◌, ◌-◌, ◌<◌, ◌≤◌, ℕ, ◌==◌, pos, true, false, List, [], ◌∷◌, ◌++◌, Option, Some, None, Result, Ok, Err, Bool, nat_lt, take, drop, length, unwrap_or, if◌then◌else◌}
use Rattle.std.specs.List.{prefix_len}
use Rattle.std.specs.Str.{IsUtf8}
use Rattle.std.specs.Str.Parse.{digits_value}
use Rattle.nb_lexer.specs.declared.word.Word.{Word}
use Rattle.nb_lexer.specs.declared.word.Word.TheVariants as word
use Rattle.nb_lexer.specs.declared.token.Token.{Token}
use Rattle.nb_lexer.specs.declared.token.TokenKind.{TokenKind}
use Rattle.nb_lexer.specs.declared.fault.LexError.{LexError}
use Rattle.nb_lexer.specs.declared.fault.LexError.TheVariants.{BadCharacter, OpenText, BadEscape, TooWide, Memory}
use Rattle.nb_lexer.specs.Characters.{is_digit, is_letter, is_in_name, is_quote, begins}
use Rattle.nb_lexer.specs.Words.{fixed_text, keyword, sign, kind_of}
use Rattle.nb_lexer.specs.Spelling.{too_wide}
use Rattle.nb_lexer.specs.Lexes.{token_of, Takes}
use Rattle.nb_lexer.specs.Faults.{FaultAt}

abbrev pub Found : Type 0 → Type 0
Found A = Result (A × ℕ) LexError

-- ---- names and signs

abbrev pub name_word : List ℕ → Word
name_word x = unwrap_or (keyword x) (word.Name x)

abbrev pub name_at : ℕ → List ℕ → Word × ℕ
name_at at text = (name_word (take (prefix_len is_in_name text) text), at + prefix_len is_in_name text)

abbrev pub sign_or_stray : ℕ → Option Word → Found Word
sign_or_stray at None = Err (BadCharacter at)
sign_or_stray at (Some w) = Ok (w, at + length (fixed_text w))

-- ---- numbers

abbrev pub numeral_len : List ℕ → ℕ
numeral_len text = if begins (λ b. b == 48) text then 1 else prefix_len is_digit text

abbrev pub number_at : ℕ → List ℕ → Found Word
number_at at text =
    if nat_lt (digits_value 10 (take (numeral_len text) text)) too_wide then
    (if begins is_in_name (drop (numeral_len text) text) then Err (BadCharacter (at + numeral_len text))
    else Ok (word.Number (pos (digits_value 10 (take (numeral_len text) text))), at + numeral_len text))
    else Err (TooWide at)

-- ---- quoted texts

abbrev pub unescaped : ℕ → Option ℕ
unescaped c =
    if c == 34 then Some 34 else if c == 92 then Some 92 else if c == 110 then Some 10 else if c == 114 then Some 13
    else if c == 116 then Some 9 else None

abbrev pub escape_or_bad : ℕ → Option ℕ → Result (Option (ℕ × ℕ)) LexError
escape_or_bad at None = Err (BadEscape at)
escape_or_bad at (Some b) = Ok (Some (b, at + 2))

-- what stands behind the backslash at the place at, in a text whose quote is at the place quote
abbrev pub escape_at : ℕ → ℕ → List ℕ → Result (Option (ℕ × ℕ)) LexError
escape_at quote at [] = Err (OpenText quote)
escape_at quote at (c ∷ text) = escape_or_bad at (unescaped c)

-- a part: the byte that it stands for, and the place behind it; or none, at the closing quote
abbrev pub part_at : ℕ → ℕ → List ℕ → Result (Option (ℕ × ℕ)) LexError
part_at quote at [] = Err (OpenText quote)
part_at quote at (b ∷ text) =
    if b == 34 then Ok None
    else if b == 92 then escape_at quote at text
    else if nat_lt b 32 then Err (BadCharacter at)
    else Ok (Some (b, at + 1))

-- with these bytes in front of what is found
abbrev pub with_front : List ℕ → Found (List ℕ) → Found (List ℕ)
with_front front (Ok x) = Ok (front ++ x.0, x.1)
with_front front (Err e) = Err e

abbrev pub escaped_byte : Option ℕ → ℕ → Found (List ℕ) → Found (List ℕ)
escaped_byte None at rest = Err (BadEscape at)
escaped_byte (Some b) at rest = with_front (b ∷ []) rest

-- The bytes up to the closing quote, and the place behind it. The text goes on at the place at, or, where it is behind a backslash,
-- the backslash stands there.
abbrev pub inside : ℕ → Bool → ℕ → List ℕ → Found (List ℕ)
inside quote behind at [] = Err (OpenText quote)
inside quote true at (c ∷ text) = escaped_byte (unescaped c) at (inside quote false (at + 2) text)
inside quote false at (b ∷ text) =
    if b == 34 then Ok ([], at + 1)
    else if b == 92 then inside quote true at text
    else if nat_lt b 32 then Err (BadCharacter at)
    else with_front (b ∷ []) (inside quote false (at + 1) text)

abbrev pub quoted_word : Found (List ℕ) → Found Word
quoted_word (Ok x) = Ok (word.Quoted x.0, x.1)
quoted_word (Err e) = Err e

-- ---- any word

unfoldable pub front : ℕ → List ℕ → Found Word
front at text =
    if begins is_letter text then Ok (name_at at text)
    else if begins is_digit text then number_at at text
    else if begins is_quote text then quoted_word (inside at false (at + 1) (drop 1 text))
    else sign_or_stray at (sign text)

-- what stands at the place at, where the text goes on so: this token
pub record Stands (at : ℕ) (text : List ℕ) (t : Token) : Type 0 where
  pub word : Word
  pub behind : List ℕ
  pub takes : Takes (record { word = word; start = at; end = t.end }) text behind
  pub token_is : t ≡ token_of (record { word = word; start = at; end = t.end })
  pub behind_is : drop (t.end - at) text ≡ behind
  pub further : at < t.end
  pub within : t.end ≤ at + length text
  pub utf8 : IsUtf8 behind

-- or no token
abbrev pub FaultsAt : ℕ → List ℕ → LexError → Type 0
FaultsAt at text Memory = Unit {0}
FaultsAt at text (BadCharacter place) = FaultAt at text (BadCharacter place)
FaultsAt at text (OpenText place) = FaultAt at text (OpenText place)
FaultsAt at text (BadEscape place) = FaultAt at text (BadEscape place)
FaultsAt at text (TooWide place) = FaultAt at text (TooWide place)

-- ---- what the code answers

-- a token has the word's kind alone
abbrev pub kind_found : Found Word → Found TokenKind
kind_found (Ok x) = Ok (kind_of x.0, x.1)
kind_found (Err e) = Err e

-- what is answered, seen by view, is what is looked for, unless memory ran out
abbrev pub GivesBy : {X Y : Type 0} → (X → Y) → Result X LexError → Result Y LexError → Type 0
GivesBy view (Ok x) found = found ≡ Ok (view x)
GivesBy view (Err Memory) found = Unit {0}
GivesBy view (Err (BadCharacter place)) found = found ≡ Err (BadCharacter place)
GivesBy view (Err (OpenText place)) found = found ≡ Err (OpenText place)
GivesBy view (Err (BadEscape place)) found = found ≡ Err (BadEscape place)
GivesBy view (Err (TooWide place)) found = found ≡ Err (TooWide place)

abbrev pub Gives : {X : Type 0} → Result X LexError → Result X LexError → Type 0
Gives result found = GivesBy (λ x. x) result found
