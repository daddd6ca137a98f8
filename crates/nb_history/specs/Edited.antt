-- A history in which editors take turns: each editor's lines once, in order.
use Rattle.std.specs.Prelude.{ℕ, ◌≡◌, ◌==◌, cond, List, [], ◌∷◌, Option, Some, None, MatchOption}
use Rattle.nb_value.specs.declared.pairs.Field.{Field}
use Rattle.nb_history.specs.Reading.{Reading}
use Rattle.nb_history.specs.Log.{nothing_yet, after, admit, IsLegal, RestsAfter}
use Rattle.nb_value.specs.declared.value.Value.{Value}
use Rattle.nb_log.specs.declared.event.Event.{Event}
use Rattle.nb_log.specs.declared.entry.Entry.{Entry}
use Rattle.nb_log.specs.declared.entry.Entry.TheVariants.{Edit, Frame, Settled, Late, Loaded, Refused, Rest, Dispose, Pending, Fulfilled, Rejected, Asked, Ended, Left}

-- where an entry comes from
pub data Source : Type 0 where
  Editor : (editor : ℕ) → Source
  Loader : Source
  Variable : Source

abbrev pub source_of : Entry → Source
source_of (Edit editor edit) = Editor editor
source_of (Frame editor) = Editor editor
source_of (Settled editor t a) = Editor editor
source_of (Late editor t) = Editor editor
source_of (Refused editor reason event) = Editor editor
source_of (Rest editor) = Editor editor
source_of (Dispose editor) = Editor editor
source_of (Loaded t a) = Loader
source_of (Pending v d) = Variable
source_of (Fulfilled v x) = Variable
source_of (Rejected v e) = Variable
source_of (Asked v t key) = Variable
source_of (Ended v) = Variable
source_of (Left v d) = Variable

-- an editor's first line, and the lines without it
abbrev pub put_back : ℕ × Event → Option (Event × List (ℕ × Event)) → Option (Event × List (ℕ × Event))
put_back l None = None
put_back l (Some p) = Some (p.0, l ∷ p.1)

abbrev pub first_line : ℕ → List (ℕ × Event) → Option (Event × List (ℕ × Event))
first_line editor [] = None
first_line editor (l ∷ lines) = cond (l.0 == editor) (Some (l.1, lines)) (put_back l (first_line editor lines))

-- what comes of an entry from there, where `rest` says it of what is left of the document and the lines
abbrev pub Comes : Reading → List (ℕ × Event) → List (ℕ × Event) → Source → Entry → (List (ℕ × Event) → List (ℕ × Event) → Type 0) → Type 0
Comes r document lines Variable e rest = rest document lines
Comes r document lines Loader e rest = ⊥
Comes r (l ∷ document) lines (Editor n) e rest = (n ≡ l.0) × (e ≡ admit r l.0 l.1) × rest document lines
Comes r [] lines (Editor n) e rest = MatchOption (first_line n lines) ⊥ (λ p. (e ≡ admit r n p.0) × rest [] p.1)

-- the external entries are `admit` of the lines, each once: first the document's in order, and then each editor's in order
abbrev pub TakesTurns : Reading → List (ℕ × Event) → List (ℕ × Event) → List Entry → Type 0
TakesTurns r document lines [] = (document ≡ []) × (lines ≡ [])
TakesTurns r document lines (e ∷ es) = Comes r document lines (source_of e) e (λ document lines. TakesTurns (after r e) document lines es)

-- a history of the document's lines and then the editors', at rest in the end
pub record IsEdited (builtins : List (Field Value)) (document lines : List (ℕ × Event)) (log : List Entry) : Type 0 where
  pub legal : IsLegal builtins log
  pub rests : RestsAfter builtins log
  pub turns : TakesTurns (nothing_yet builtins) document lines log
