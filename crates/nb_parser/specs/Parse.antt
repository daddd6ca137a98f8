-- Which cell a text spells, and why a text that spells none is refused.
use Rattle.std.specs.Prelude.{◌≡◌, ◌≤◌, ◌<◌, ℕ, List, ◌∷◌, ◌++◌, length, slice_range, None, Result, Err}
use Rattle.nb_lexer.specs.declared.word.Word.{Word}
use Rattle.nb_lexer.specs.declared.token.Token.{Token}
use Rattle.nb_lexer.specs.declared.fault.LexError.{LexError}
use Rattle.nb_lexer.specs.declared.fault.LexError.TheVariants as lex
use Rattle.nb_lexer.specs.Lexes.{Reads, HasWords}
use Rattle.nb_lexer.specs.Faults as lexer
use Rattle.nb_syntax.specs.declared.tree.Cell.{Cell}
use Rattle.nb_grammar.specs.declared.fault.Fault.{Fault}
use Rattle.nb_grammar.specs.declared.fault.Fault.TheVariants as fault
use Rattle.nb_grammar.specs.Law.{Spells, IsFault}
use Rattle.nb_parser.specs.declared.error.ParseError.{ParseError}
use Rattle.nb_parser.specs.declared.error.ParseError.TheVariants.{Lex, Unexpected, Ended, TooDeep, Memory}
use Rattle.nb_parser.specs.Text.{cell_of}

-- The text's words spell this cell, with at most 64 brackets open at any place.
pub record Parses (text : List ℕ) (c : Cell) : Type 0 where
  pub words : List Word
  pub has : HasWords text words
  pub spells : Spells 64 words c

-- the token with which so many are left, that one included
pub record IsLeft (tokens : List Token) (n : ℕ) (t : Token) : Type 0 where
  pub before : List Token
  pub after : List Token
  pub tokens_are : tokens ≡ before ++ t ∷ after
  pub left : n ≡ length (t ∷ after)

-- what the text has between the token's ends
abbrev pub token_text : List ℕ → Token → List ℕ
token_text text t = slice_range text t.start t.end

-- The error tells the place of this fault: where the token begins with which the words left begin, or where the text ends.
abbrev pub Places : List ℕ → List Token → Fault → ParseError → Type 0
Places text tokens (fault.Unexpected n) e = (t : Token) × IsLeft tokens n t × (e ≡ Unexpected t.start (token_text text t))
Places text tokens fault.Ended e = e ≡ Ended (length text)
Places text tokens (fault.TooDeep n) e = (t : Token) × IsLeft tokens n t × (e ≡ TooDeep t.start)

-- The text has words, and the error tells the place of their first fault, where at most 64 brackets may be open.
pub record IsWordFault (text : List ℕ) (e : ParseError) : Type 0 where
  pub tokens : List Token
  pub words : List Word
  pub reads : Reads text tokens words
  pub fault : Fault
  pub is_fault : IsFault 64 words fault
  pub place : Places text tokens fault e

-- why the text spells no cell: it has no words, or they have a fault
abbrev pub IsRefused : List ℕ → ParseError → Type 0
IsRefused text (Lex e) = lexer.IsFault text e
IsRefused text Memory = ⊥
IsRefused text e = IsWordFault text e

-- why a text is refused; any text may be, where memory runs out
abbrev pub Refuses : List ℕ → ParseError → Type 0
Refuses text Memory = Unit {0}
Refuses text e = IsRefused text e

-- what holds of a call's answer, unless memory ran out
abbrev pub UnlessMemory : {A : Type 0} → Result A ParseError → Type 0 → Type 0
UnlessMemory (Err Memory) claim = Unit {0}
UnlessMemory _ claim = claim

-- the text spells no cell, unless memory ran out
abbrev pub HasNone : List ℕ → ParseError → Type 0
HasNone text Memory = Unit {0}
HasNone text e = cell_of text ≡ None

-- what the lexer's refusal becomes
abbrev pub from_lexer : LexError → ParseError
from_lexer lex.Memory = Memory
from_lexer e = Lex e

-- The fault's words left are some of so many.
abbrev pub IsAmong : ℕ → Fault → Type 0
IsAmong count (fault.Unexpected n) = (0 < n) × (n ≤ count)
IsAmong count fault.Ended = Unit {0}
IsAmong count (fault.TooDeep n) = (0 < n) × (n ≤ count)
