-- The tokens of a text: words, each in its place, with gaps between them.
use Rattle.std.specs.Prelude.{◌≡◌, ◌<◌, ◌≤◌, ◌+◌, ℕ, true, List, [], ◌∷◌, ◌++◌, length, map, slice_range}
use Rattle.std.specs.List.{list_all}
use Rattle.std.specs.Str.{IsCharBoundary}
use Rattle.nb_lexer.specs.declared.word.Word.{Word}
use Rattle.nb_lexer.specs.declared.token.Token.{Token}
use Rattle.nb_lexer.specs.Characters.{is_gap}
use Rattle.nb_lexer.specs.Words.{kind_of}
use Rattle.nb_lexer.specs.Spelling.{Spells, Ends}

-- a word, with the place where it begins and the place behind it
pub record Placed : Type 0 where
  pub word : Word
  pub start : ℕ
  pub end : ℕ

abbrev pub word_of : Placed → Word
word_of p = p.word

abbrev pub token_of : Placed → Token
token_of p = record { kind = kind_of p.word; start = p.start; end = p.end }

-- From the place at, where the text goes on with before, a gap leads to the place stop, where it goes on with after. A gap may be empty.
pub record Skips (at : ℕ) (before : List ℕ) (stop : ℕ) (after : List ℕ) : Type 0 where
  pub gap : List ℕ
  pub gap_is : list_all is_gap gap ≡ true
  pub text_is : before ≡ gap ++ after
  pub stop_is : stop ≡ at + length gap

-- The text goes on with before at the word's place, and behind the word with after. The word is the longest match.
pub record Takes (p : Placed) (before after : List ℕ) : Type 0 where
  pub spelling : List ℕ
  pub spells : Spells p.word spelling
  pub ends : Ends p.word after
  pub text_is : before ≡ spelling ++ after
  pub end_is : p.end ≡ p.start + length spelling

-- From the place at, where the text goes on with before, these words and gaps lead to the place stop, where it goes on with after.
abbrev pub Leads : ℕ → List ℕ → List Placed → ℕ → List ℕ → Type 0
Leads at before [] stop after = Skips at before stop after
Leads at before (p ∷ ps) stop after =
    (front back : List ℕ) × Skips at before p.start front × Takes p front back × Leads p.end back ps stop after

-- the words of a text
abbrev pub Lexes : List ℕ → List Placed → Type 0
Lexes text ps = Leads 0 text ps (length text) []

-- these are the tokens of a text, and as words they are those
pub record Reads (text : List ℕ) (tokens : List Token) (words : List Word) : Type 0 where
  pub placed : List Placed
  pub lexes : Lexes text placed
  pub tokens_are : map token_of placed ≡ tokens
  pub words_are : map word_of placed ≡ words

-- these are the tokens of a text
abbrev pub AreTokens : List ℕ → List Token → Type 0
AreTokens text tokens = (words : List Word) × Reads text tokens words

-- a text whose words are these
abbrev pub HasWords : List ℕ → List Word → Type 0
HasWords text words = (tokens : List Token) × Reads text tokens words

-- ---- places

-- The text may be cut at both ends of the token, and what stands between them spells a word of its kind.
pub record IsSpan (text : List ℕ) (t : Token) : Type 0 where
  pub order : t.start < t.end
  pub within : t.end ≤ length text
  pub start_cut : IsCharBoundary text t.start
  pub end_cut : IsCharBoundary text t.end
  pub word : Word
  pub kind_is : kind_of word ≡ t.kind
  pub spells : Spells word (slice_range text t.start t.end)

-- no token begins before the place at, or before the one before it ends
abbrev pub InOrder : ℕ → List Token → Type 0
InOrder at [] = Unit {0}
InOrder at (t ∷ ts) = (at ≤ t.start) × (t.start < t.end) × InOrder t.end ts
