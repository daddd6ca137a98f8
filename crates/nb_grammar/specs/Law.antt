-- What the words of a cell are, and which word is the first fault where they are none.
use Rattle.std.specs.Prelude.{◌≡◌, ◌≤◌, ℕ, zero, suc, List, [], ◌∷◌, ◌++◌, length, Option, Some, None, Result, Ok, Err}
use Rattle.nb_lexer.specs.declared.word.Word.{Word}
use Rattle.nb_lexer.specs.declared.word.Word.TheVariants as word
use Rattle.nb_syntax.specs.declared.tree.Cell.{Cell}
use Rattle.nb_grammar.specs.declared.fault.Fault.{Fault}
use Rattle.nb_grammar.specs.declared.fault.Fault.TheVariants.{Unexpected, Ended, TooDeep}
use Rattle.nb_grammar.specs.declared.fault.Stop.{Stop}
use Rattle.nb_grammar.specs.declared.fault.Stop.TheVariants as stops
use Rattle.nb_grammar.specs.Grammar.{CellWay, cell_words}
use Rattle.nb_grammar.specs.Trees.{cell_tree, cell_depth}

-- The words spell this cell, with at most so many brackets open at any place.
pub record Spells (room : ℕ) (ws : List Word) (c : Cell) : Type 0 where
  pub way : CellWay
  pub words : cell_words way [] ≡ ws
  pub tree_is : cell_tree way ≡ c
  pub deep : cell_depth way ≤ room

-- A cell begins with these words, however many brackets it opens.
abbrev pub Continues : List Word → Type 0
Continues ws = (more : List Word) × (c : Cell) × (room : ℕ) × Spells room (ws ++ more) c

-- what a word does to the number of open brackets
pub data Turn : Type 0 where
  opens closes stays : Turn

abbrev pub turn : Word → Turn
turn word.OpenRound = opens
turn word.OpenSquare = opens
turn word.OpenCurly = opens
turn word.CloseRound = closes
turn word.CloseSquare = closes
turn word.CloseCurly = closes
turn _ = stays

-- how many brackets may open behind the word, or None where the word opens one too many
abbrev pub counted : Turn → ℕ → Option ℕ
counted opens zero = None
counted opens (suc room) = Some room
counted closes room = Some (suc room)
counted stays room = Some room

abbrev pub onto : {A B : Type 0} → Option A → B → (A → B) → B
onto None stop go = stop
onto (Some x) stop go = go x

-- how many brackets may open behind the words, or None where they open one too many
abbrev pub left_after : ℕ → List Word → Option ℕ
left_after room [] = Some room
left_after room (w ∷ ws) = onto (counted (turn w) room) None (λ left. left_after left ws)

abbrev pub HasRoom : ℕ → List Word → Type 0
HasRoom room ws = (left : ℕ) × (left_after room ws ≡ Some left)

-- the words up to one, that one, and how many are left with it
pub record Splits (ws before : List Word) (w : Word) (n : ℕ) : Type 0 where
  pub after : List Word
  pub words : ws ≡ before ++ w ∷ after
  pub left : n ≡ length (w ∷ after)

-- The first fault. Unexpected: the first word with which no cell goes on. Ended: the words are no cell, but one begins with them.
-- TooDeep: a bracket with which a cell goes on, which opens while none may.
abbrev pub IsFault : ℕ → List Word → Fault → Type 0
IsFault room ws (Unexpected n) =
    (before : List Word) × (w : Word) × Splits ws before w n × Continues before × ¬ (Continues (before ++ w ∷ [])) × HasRoom room before
IsFault room ws Ended = Continues ws × ((c : Cell) (any : ℕ) → Spells any ws c → ⊥) × HasRoom room ws
IsFault room ws (TooDeep n) =
    (before : List Word) × (w : Word) × Splits ws before w n × Continues (before ++ w ∷ []) × (left_after room before ≡ Some 0) × (turn w ≡ opens)

-- what the words come to
abbrev pub IsRead : ℕ → List Word → Result Cell Fault → Type 0
IsRead room ws (Ok c) = Spells room ws c
IsRead room ws (Err f) = IsFault room ws f

-- what a function answers of the words, unless memory ran out
abbrev pub Comes : ℕ → List Word → Result Cell Stop → Type 0
Comes room ws (Ok c) = Spells room ws c
Comes room ws (Err stops.Memory) = Unit {0}
Comes room ws (Err (stops.Fault f)) = IsFault room ws f
