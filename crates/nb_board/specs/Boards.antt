-- A board: one seat's view is the writer's, and its words are the table's. Every other view is a reader's.
use Rattle.std.specs.Prelude.{◌≡◌, ◌≤◌, ◌<◌, ℕ, ◌+◌, ◌-◌, true, false, List, [], slice_set, Option, Some, None, IfSome, IfNone}
use mathlib.Core.Option.{some}
use lib.ListN.{get_elem?}
use Rattle.atomic_table.specs.Table.{State, Me, Step}
use Rattle.nb_board.specs.declared.rule.View.{View}
use Rattle.nb_board.specs.declared.rule.Load.{Load}

-- the view of the seat that stores, with all words as it stored them
abbrev pub writer : List ℕ → View
writer words = record { writes = true; words = words; loads = 0; last = None }

-- the view of a seat that loads, with the number of its loads and the last of them
abbrev pub reader : ℕ → Option Load → View
reader loads last = record { writes = false; words = []; loads = loads; last = last }

-- the load of this word, which read this number
abbrev pub loaded : ℕ → ℕ → Load
loaded word number = record { word = word; number = number }

-- a reader as contracts see it: the number of the board's words, how often it has loaded one, and its last load
pub record Loads : Type 0 where
  pub size : ℕ
  pub count : ℕ
  pub last : Option Load

-- a reader of so many words that has loaded none
abbrev pub unread : ℕ → Loads
unread size = record { size = size; count = 0; last = None }

-- The variable has a word; the variables are counted from 1.
abbrev pub IsOn : ℕ → ℕ → Type 0
IsOn size var = (1 ≤ var) × (var ≤ size)

-- the place of a variable's word
abbrev pub word_at : ℕ → ℕ
word_at var = var - 1

-- The board's rule: one seat writes, and what it knows of the words is what they are.
pub record IsBoard (s : State ℕ View) : Type 0 where
  pub seat : ℕ
  pub writes : get_elem? s.views seat ≡ some (writer s.words)
  pub alone : (j : ℕ) (v : View) → get_elem? s.views j ≡ some v → v.writes ≡ true → j ≡ seat

-- A store gives the writer's view the new word.
abbrev pub Stored : Step ℕ → Me ℕ View → ℕ → Me ℕ View → Type 0
Stored st me found new = new ≡ (writer (slice_set me.0.words st.word st.first), me.1)

-- A load gives the reader's view one load more, and the last one is this.
abbrev pub Read : Step ℕ → Me ℕ View → ℕ → Me ℕ View → Type 0
Read st me found new = new ≡ (reader (me.0.loads + 1) (Some (loaded st.word found)), me.1)

-- The number that a load read is answered exactly where it is above the start.
abbrev pub AnswersNewer : ℕ → ℕ → Option ℕ → Type 0
AnswersNewer start found result = IfSome result (λ number. (number ≡ found) × (start < number)) × IfNone result (found ≤ start)

-- The reader has loaded the variable's word once more, and is else as before; the answer is what this load read, where it is newer.
abbrev pub LoadsNewer : ℕ → ℕ → Loads → Loads → Option ℕ → Type 0
LoadsNewer var start old new result = (found : ℕ) × (new ≡ record { size = old.size; count = old.count + 1; last = Some (loaded (word_at var) found) }) × AnswersNewer start found result

-- the word of the last load; 0 where there is none
abbrev pub word_of : Option Load → ℕ
word_of (Some load) = load.word
word_of None = 0

-- the number that the last load read; 0 where there is none
abbrev pub number_of : Option Load → ℕ
number_of (Some load) = load.number
number_of None = 0
