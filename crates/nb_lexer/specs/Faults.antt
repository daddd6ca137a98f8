-- The first fault of a text, from the left.
use Rattle.std.specs.Prelude.{◌≡◌, ◌≤◌, ◌<◌, ◌+◌, ◌⊎◌, ◌≢◌, ℕ, true, false, List, [], ◌∷◌, ◌++◌, length, Result, Err, None}
use Rattle.std.specs.Str.Parse.{digits_value}
use Rattle.nb_lexer.specs.declared.fault.LexError.{LexError}
use Rattle.nb_lexer.specs.declared.fault.LexError.TheVariants.{BadCharacter, OpenText, BadEscape, TooWide, Memory}
use Rattle.nb_lexer.specs.Characters.{is_digit, is_letter, is_in_name, is_gap}
use Rattle.nb_lexer.specs.Words.{sign}
use Rattle.nb_lexer.specs.Spelling.{is_numeral, too_wide, Escape, letter, Part, parts_text}
use Rattle.nb_lexer.specs.Lexes.{Placed, Leads}

-- In all of these, text is what stands from the place at on.

-- A character that begins no token and is no gap: no letter, digit, quote or sign. A single `&` or `|` is no sign.
pub record IsStray (at : ℕ) (text : List ℕ) (place : ℕ) : Type 0 where
  pub first : ℕ
  pub more : List ℕ
  pub text_is : text ≡ first ∷ more
  pub no_gap : is_gap first ≡ false
  pub no_letter : is_letter first ≡ false
  pub no_digit : is_digit first ≡ false
  pub no_quote : first ≢ 34
  pub no_sign : sign text ≡ None
  pub place_is : place ≡ at

-- A digit, letter, `_` or `$` right behind a number, which doesn't go on with it.
pub record RunsOn (at : ℕ) (text : List ℕ) (place : ℕ) : Type 0 where
  pub digits : List ℕ
  pub next : ℕ
  pub more : List ℕ
  pub text_is : text ≡ digits ++ next ∷ more
  pub numeral : is_numeral digits ≡ true
  pub fits : digits_value 10 digits < too_wide
  pub next_is : is_in_name next ≡ true
  pub no_further : is_numeral (digits ++ next ∷ []) ≡ false
  pub place_is : place ≡ at + length digits

-- A number that is too wide.
pub record IsWide (at : ℕ) (text : List ℕ) (place : ℕ) : Type 0 where
  pub digits : List ℕ
  pub more : List ℕ
  pub text_is : text ≡ digits ++ more
  pub numeral : is_numeral digits ≡ true
  pub wide : too_wide ≤ digits_value 10 digits
  pub place_is : place ≡ at

-- A character below U+0020 inside quotes.
pub record IsControl (at : ℕ) (text : List ℕ) (place : ℕ) : Type 0 where
  pub parts : List Part
  pub control : ℕ
  pub more : List ℕ
  pub text_is : text ≡ 34 ∷ parts_text parts ++ control ∷ more
  pub below : control < 32
  pub place_is : place ≡ at + 1 + length (parts_text parts)

-- A backslash inside quotes, and behind it a character that makes no escape with it.
pub record IsNoEscape (at : ℕ) (text : List ℕ) (place : ℕ) : Type 0 where
  pub parts : List Part
  pub next : ℕ
  pub more : List ℕ
  pub text_is : text ≡ 34 ∷ parts_text parts ++ 92 ∷ next ∷ more
  pub no_letter : (e : Escape) → next ≢ letter e
  pub place_is : place ≡ at + 1 + length (parts_text parts)

-- A quote, and no closing one: the text ends, maybe after a backslash.
pub record IsOpen (at : ℕ) (text : List ℕ) (place : ℕ) : Type 0 where
  pub parts : List Part
  pub tail : List ℕ
  pub text_is : text ≡ 34 ∷ parts_text parts ++ tail
  pub tail_is : (tail ≡ []) ⊎ (tail ≡ 92 ∷ [])
  pub place_is : place ≡ at

-- what stands at the place at is this fault
abbrev pub FaultAt : ℕ → List ℕ → LexError → Type 0
FaultAt at text (BadCharacter place) = IsStray at text place ⊎ (RunsOn at text place ⊎ IsControl at text place)
FaultAt at text (OpenText place) = IsOpen at text place
FaultAt at text (BadEscape place) = IsNoEscape at text place
FaultAt at text (TooWide place) = IsWide at text place
FaultAt at text Memory = ⊥

-- the text's first fault: what stands before it are words and gaps
pub record IsFault (text : List ℕ) (e : LexError) : Type 0 where
  pub placed : List Placed
  pub stop : ℕ
  pub rest : List ℕ
  pub leads : Leads 0 text placed stop rest
  pub fault : FaultAt stop rest e

-- why a text is refused; any text may be, where memory runs out
abbrev pub Refuses : List ℕ → LexError → Type 0
Refuses text Memory = Unit {0}
Refuses text e = IsFault text e

-- what holds of a call's answer, unless memory ran out
abbrev pub UnlessMemory : {A : Type 0} → Result A LexError → Type 0 → Type 0
UnlessMemory (Err Memory) claim = Unit {0}
UnlessMemory _ claim = claim
