-- How each word is spelled, and when it ends.
use Rattle.std.specs.Prelude.{◌≡◌, ◌<◌, ◌^◌, ℕ, ℤ, ◌==◌, pos, Bool, true, false, not, ◌&&◌, ◌||◌, List, [], ◌∷◌, ◌++◌, nat_lt, is_none, map, codes}
use Rattle.std.specs.List.{list_all, flat_map}
use Rattle.std.specs.Str.{bytes_eq}
use Rattle.std.specs.Str.Parse.{digits_value}
use Rattle.nb_lexer.specs.declared.word.Word.{Word}
use Rattle.nb_lexer.specs.declared.word.Word.TheVariants as word
use Rattle.nb_lexer.specs.declared.token.TokenKind.{TokenKind}
use Rattle.nb_lexer.specs.declared.token.TokenKind.TheVariants as kind
use Rattle.nb_lexer.specs.Characters.{is_digit, is_letter, is_in_name, begins}
use Rattle.nb_lexer.specs.Words.{fixed_text, keyword, kind_of}

-- ---- names

-- a letter, then letters and digits, and no keyword
abbrev pub is_name : List ℕ → Bool
is_name x = begins is_letter x && list_all is_in_name x && is_none (keyword x)

-- ---- numbers

abbrev pub is_first_digit : ℕ → Bool
is_first_digit b = nat_lt 48 b && nat_lt b 58

-- `0`, or a digit from 1 to 9 followed by digits
abbrev pub is_numeral : List ℕ → Bool
is_numeral s = bytes_eq s (codes "0") || (begins is_first_digit s && list_all is_digit s)

-- the first number that no token has
abbrev pub too_wide : ℕ
too_wide = 2 ^ 63

pub record SpellsNumber (n : ℤ) (s : List ℕ) : Type 0 where
  pub numeral : is_numeral s ≡ true
  pub value : n ≡ pos (digits_value 10 s)
  pub fits : digits_value 10 s < too_wide

-- ---- quoted texts

pub data Escape : Type 0 where
  quote backslash line_feed carriage_return tab : Escape

-- what stands behind the backslash
abbrev pub letter : Escape → ℕ
letter quote = 34
letter backslash = 92
letter line_feed = 110
letter carriage_return = 114
letter tab = 116

-- what it stands for
abbrev pub escaped : Escape → ℕ
escaped quote = 34
escaped backslash = 92
escaped line_feed = 10
escaped carriage_return = 13
escaped tab = 9

-- a byte that stands for itself inside quotes: of a character from U+0020 on that is neither a quote nor a backslash
abbrev pub is_plain : ℕ → Bool
is_plain b = not (nat_lt b 32) && not (b == 34) && not (b == 92)

-- what a quoted text is made of
pub data Part : Type 0 where
  plain : (b : ℕ) → is_plain b ≡ true → Part
  escape : Escape → Part

abbrev pub part_text : Part → List ℕ
part_text (plain b ok) = b ∷ []
part_text (escape e) = 92 ∷ letter e ∷ []

abbrev pub part_value : Part → ℕ
part_value (plain b ok) = b
part_value (escape e) = escaped e

-- what is written between the quotes
abbrev pub parts_text : List Part → List ℕ
parts_text ps = flat_map part_text ps

abbrev pub parts_value : List Part → List ℕ
parts_value ps = map part_value ps

pub record SpellsText (x s : List ℕ) : Type 0 where
  pub parts : List Part
  pub text_is : s ≡ 34 ∷ parts_text parts ++ 34 ∷ []
  pub value_is : parts_value parts ≡ x

-- ---- all words

abbrev pub Spells : Word → List ℕ → Type 0
Spells (word.Name x) s = (s ≡ x) × (is_name x ≡ true)
Spells (word.Number n) s = SpellsNumber n s
Spells (word.Quoted x) s = SpellsText x s
Spells w s = s ≡ fixed_text w

-- ---- the longest match

-- whether the kinds of letters and digits go on with this byte
abbrev pub kind_goes_on : TokenKind → ℕ → Bool
kind_goes_on kind.Name b = is_in_name b
kind_goes_on kind.Keyword b = is_in_name b
kind_goes_on (kind.Number n) b = is_in_name b
kind_goes_on (kind.Quoted x) b = false
kind_goes_on kind.Sign b = false

-- Whether a byte right behind the word belongs to the same run: `=` behind a sign that makes a longer one with it; a letter or digit
-- behind a name, a keyword or a number.
abbrev pub goes_on : Word → ℕ → Bool
goes_on word.Assign b = b == 61
goes_on word.Not b = b == 61
goes_on word.Less b = b == 61
goes_on word.Greater b = b == 61
goes_on w b = kind_goes_on (kind_of w) b

-- the word ends where this is what follows it
abbrev pub Ends : Word → List ℕ → Type 0
Ends w rest = begins (goes_on w) rest ≡ false
