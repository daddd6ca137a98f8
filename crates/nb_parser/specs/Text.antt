-- The cell that a text spells, by reading from left to right.
use Rattle.std.specs.Prelude.{ℕ, zero, suc, List, [], ◌∷◌, length, drop, Option, Some, None, option_map, Result, Ok, Err}
use Rattle.std.specs.List.{prefix_len}
use Rattle.nb_lexer.specs.declared.word.Word.{Word}
use Rattle.nb_lexer.specs.Characters.{is_gap}
use Rattle.nb_lexer.specs.Scan.{Found, front}
use Rattle.nb_syntax.specs.declared.tree.Cell.{Cell}
use Rattle.nb_grammar.specs.declared.fault.Fault.{Fault}
use Rattle.nb_grammar.specs.Reading.{whole}

-- what stands behind the gap at the front, which may be empty
abbrev pub behind_gap : List ℕ → List ℕ
behind_gap text = drop (prefix_len is_gap text) text

-- the word found at the front of the text, and more from what stands behind it
abbrev pub and_more : (List ℕ → Option (List Word)) → List ℕ → Found Word → Option (List Word)
and_more more text (Ok x) = option_map (λ ws. x.0 ∷ ws) (more (drop x.1 text))
and_more more text (Err e) = None

-- the words of a text that begins with no gap, if they are at most so many
abbrev pub words_within : ℕ → List ℕ → Option (List Word)
words_within n [] = Some []
words_within zero (b ∷ text) = None
words_within (suc n) (b ∷ text) = and_more (λ rest. words_within n (behind_gap rest)) (b ∷ text) (front 0 (b ∷ text))

-- A text has no more words than bytes.
abbrev pub words_of : List ℕ → Option (List Word)
words_of text = words_within (length text) (behind_gap text)

abbrev pub if_read : Result Cell Fault → Option Cell
if_read (Ok c) = Some c
if_read (Err f) = None

abbrev pub if_words : Option (List Word) → Option Cell
if_words None = None
if_words (Some ws) = if_read (whole 64 ws)

-- the cell that the text spells, if it spells one
unfoldable pub cell_of : List ℕ → Option Cell
cell_of text = if_words (words_of text)
