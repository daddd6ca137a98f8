-- That between two lines the work ends, so that the serial history of any lines is there.
use Rattle.std.specs.Prelude.{ℕ, ⊤, ◌+◌, ◌*◌, ◌≡◌, ◌<◌, ◌≤◌, true, false, Some, None, List, [], ◌∷◌, ◌++◌, length, Result}
use Rattle.std.specs.List.{flat_map}
use Rattle.nb_value.specs.declared.value.Value.{Value}
use Rattle.nb_value.specs.declared.pairs.Field.{Field}
use Rattle.nb_value.specs.declared.outcome.Answer.{Answer}
use Rattle.nb_io.specs.declared.spawner.ChildRun.{ChildRun}
use Rattle.nb_io.specs.declared.spawner.ChildEnd.{ChildEnd}
use Rattle.nb_io.specs.declared.spawner.SpawnFail.{SpawnFail}
use Rattle.nb_sheet.specs.Lists.{Name, from_option}
use Rattle.nb_log.specs.declared.event.Event.{Event}
use Rattle.nb_log.specs.declared.entry.Entry.{Entry}
use Rattle.nb_log.specs.declared.entry.Entry.TheVariants.{Loaded, Asked}
use Rattle.nb_history.specs.Reading.{Reading, Start, start_of}
use Rattle.nb_history.specs.Rules.{pulls_on}
use Rattle.nb_history.specs.Log.{nothing_yet, after, reading, Fits, LegalFrom, IsLegal, IsQuiet, RestsAfter}
use Rattle.nb_history.specs.Serial.{Todo, SerialFrom, to_load, AreEditors, IsSerial, serial_within}
use Rattle.nb_history.specs.Loaders.{Loader, keys_of, argv_for, output_limit, IsAnswerOf, answers_in, AreRuns}
use Rattle.nb_history.specs.Starts.{is_of_variable, AllOfVariables}
use Rattle.nb_history.specs.Edited.{IsEdited}
use Rattle.nb_history.specs.Headline.{IsHistoryOf, IsReached}
use Rattle.nb_history.specs.Print.{entry_pieces, pieces, printing}
use Rattle.nb_history.specs.Work.{later_pulls, to_do}

-- an entry of a variable, or a loader's answer: what may come between two lines
abbrev pub IsBetween : Entry → Type 0
IsBetween (Loaded t a) = ⊤
IsBetween e = is_of_variable e ≡ true

-- between two lines the number of pulls past the first that have no outcome yet never grows
abbrev pub PullsNeverGrow : Type 0
PullsNeverGrow =
    (builtins : List (Field Value)) (log : List Entry) (e : Entry) → IsLegal builtins log → Fits (reading builtins log) e → IsBetween e
    → later_pulls (after (reading builtins log) e) ≤ later_pulls (reading builtins log)

-- a start that asks has had fewer answers than 64 for each of its pulls
abbrev pub PullsAskFew : Type 0
PullsAskFew =
    (builtins : List (Field Value)) (log : List Entry) (v t : ℕ) (key : Name) (s : Start) → IsLegal builtins log → Fits (reading builtins log) (Asked v t key)
    → start_of (reading builtins log) v ≡ Some s → length s.answers < 64 * s.pulls

-- after a loader's answer nothing leaves and nothing starts
abbrev pub AnswersStartNothing : Type 0
AnswersStartNothing =
    (builtins : List (Field Value)) (log : List Entry) (t : ℕ) (a : Answer) → IsLegal builtins log → Fits (reading builtins log) (Loaded t a)
    → IsQuiet (after (reading builtins log) (Loaded t a))

-- in any order that is legal, each entry between two lines takes some of what there is to do
abbrev pub AllUseUp : Type 0
AllUseUp =
    (builtins : List (Field Value)) (log : List Entry) (e : Entry) → IsLegal builtins log → Fits (reading builtins log) e → IsBetween e
    → to_do (after (reading builtins log) e) < to_do (reading builtins log)

abbrev pub AreBetween : List Entry → Type 0
AreBetween [] = ⊤
AreBetween (e ∷ es) = IsBetween e × AreBetween es

-- so as many may come before the next line, and no more
abbrev pub BetweenLinesEnds : Type 0
BetweenLinesEnds =
    (builtins : List (Field Value)) (log es : List Entry) → IsLegal builtins (log ++ es) → AreBetween es
    → length es ≤ to_do (reading builtins log)

-- without a loader's answer there is a bound by the number n of variables alone: at most 2 n n + 4 n entries of variables
-- stand in a row, in any order that is legal
abbrev pub VariablesEndSoon : Type 0
VariablesEndSoon =
    (builtins : List (Field Value)) (log es : List Entry) → IsLegal builtins (log ++ es) → AllOfVariables es
    → length es ≤ 2 * (length (reading builtins log).sheet.rows * length (reading builtins log).sheet.rows) + 4 * length (reading builtins log).sheet.rows

-- between an external entry before which nothing is pulling and the next external entry they are at most 3 n
abbrev pub BatchEndsSoon : Type 0
BatchEndsSoon =
    (builtins : List (Field Value)) (log : List Entry) (e : Entry) (es : List Entry) → IsLegal builtins log → LegalFrom (reading builtins log) (e ∷ es)
    → is_of_variable e ≡ false → pulls_on (reading builtins log) ≡ false → AllOfVariables es
    → length es ≤ 3 * length (after (reading builtins log) e).sheet.rows

-- ---- the work ends: the serial history goes on, with no line and no loader, until the log rests
pub record EndOfWork (builtins : List (Field Value)) (log : List Entry) : Type 0 where
  pub es : List Entry
  pub serial : (keys : List Name) (todo : Todo) → SerialFrom keys (reading builtins log) todo es todo
  pub legal : IsLegal builtins (log ++ es)
  pub rests : RestsAfter builtins (log ++ es)
  pub short : length es ≤ 2 * (length (reading builtins log).sheet.rows * length (reading builtins log).sheet.rows) + 4 * length (reading builtins log).sheet.rows

abbrev pub WorkEnds : Type 0
WorkEnds = (builtins : List (Field Value)) (log : List Entry) → IsLegal builtins log → EndOfWork builtins log

-- ---- with loaders

-- what a loader answers, for its ticket at its place
abbrev pub Answering : Type 0
Answering = Reading → ℕ → Answer

-- each answer of a loader is as they say
abbrev pub IsTold : Answering → Reading → Entry → Type 0
IsTold answer r (Loaded t a) = a ≡ answer r t
IsTold answer r e = ⊤

abbrev pub AreTold : Answering → Reading → List Entry → Type 0
AreTold answer r [] = ⊤
AreTold answer r (e ∷ es) = IsTold answer r e × AreTold answer (after r e) es

-- with loaders for these keys that give these answers, the serial history goes on until the log rests and no loader is to be run
pub record EndOfLoads (builtins : List (Field Value)) (log : List Entry) (keys : List Name) (answer : Answering) : Type 0 where
  pub es : List Entry
  pub used : List Answer
  pub serial : (lines : List (ℕ × Event)) (more : List Answer)
      → SerialFrom keys (reading builtins log) (record { lines = lines; answers = used ++ more }) es (record { lines = lines; answers = more })
  pub legal : IsLegal builtins (log ++ es)
  pub rests : RestsAfter builtins (log ++ es)
  pub loaded : to_load keys (reading builtins (log ++ es)) ≡ None
  pub told : AreTold answer (reading builtins log) es
  pub short : length es ≤ to_do (reading builtins log)

abbrev pub LoadsEnd : Type 0
LoadsEnd =
    (builtins : List (Field Value)) (log : List Entry) (keys : List Name) (answer : Answering) → IsLegal builtins log
    → EndOfLoads builtins log keys answer

-- ---- the serial history is there

-- the serial history of the lines, with loaders for these keys that give these answers
pub record SerialHistory (builtins : List (Field Value)) (keys : List Name) (answer : Answering) (lines : List (ℕ × Event)) : Type 0 where
  pub log : List Entry
  pub used : List Answer
  pub serial : IsSerial builtins keys lines used log
  pub legal : IsLegal builtins log
  pub told : AreTold answer (nothing_yet builtins) log

-- it is there, whatever the loaders answer
abbrev pub SerialEnds : Type 0
SerialEnds =
    (builtins : List (Field Value)) (keys : List Name) (answer : Answering) (lines : List (ℕ × Event)) → AreEditors lines
    → SerialHistory builtins keys answer lines

-- and with no loader it uses no answer
abbrev pub SerialEndsAlone : Type 0
SerialEndsAlone =
    (builtins : List (Field Value)) (lines : List (ℕ × Event)) → AreEditors lines
    → (log : List Entry) × IsSerial builtins [] lines [] log × IsLegal builtins log

-- every serial history is legal
abbrev pub SerialIsLegal : Type 0
SerialIsLegal =
    (builtins : List (Field Value)) (keys : List Name) (lines : List (ℕ × Event)) (answers : List Answer) (log : List Entry)
    → AreEditors lines → IsSerial builtins keys lines answers log → IsLegal builtins log

-- it is determined, and it rests
abbrev pub SerialIsOne : Type 0
SerialIsOne =
    (builtins : List (Field Value)) (keys : List Name) (lines : List (ℕ × Event)) (answers : List Answer) (log other : List Entry)
    → IsSerial builtins keys lines answers log → IsSerial builtins keys lines answers other → log ≡ other

abbrev pub SerialRests : Type 0
SerialRests =
    (builtins : List (Field Value)) (keys : List Name) (lines : List (ℕ × Event)) (answers : List Answer) (log : List Entry)
    → IsSerial builtins keys lines answers log → RestsAfter builtins log

-- and it is what its first entries are, where there are more than it has
abbrev pub SerialIsFirst : Type 0
SerialIsFirst =
    (builtins : List (Field Value)) (keys : List Name) (lines : List (ℕ × Event)) (answers : List Answer) (log : List Entry) (n : ℕ)
    → IsSerial builtins keys lines answers log → length log < n
    → serial_within keys n (nothing_yet builtins) (record { lines = lines; answers = answers }) ≡ log

-- a history in which the editors take turns, after the document's lines, is there too
abbrev pub EditedIsThere : Type 0
EditedIsThere =
    (builtins : List (Field Value)) (document lines : List (ℕ × Event)) → AreEditors document → AreEditors lines
    → (log : List Entry) × IsEdited builtins document lines log

-- ---- what is promised at rests holds of them

-- each serial history of editors' lines, whose answers are those of runs, is a history of them, as it is promised
abbrev pub SerialIsHistory : Type 0
SerialIsHistory =
    (builtins : List (Field Value)) (loaders : List Loader) (lines : List (ℕ × Event)) (runs : List ChildRun) (log : List Entry)
    → AreEditors lines → IsSerial builtins (keys_of loaders) lines (answers_in log) log → AreRuns loaders (nothing_yet builtins) log runs
    → IsHistoryOf builtins loaders lines runs log

-- how the program for a ticket ends, at its place, and what that answers
pub record Programs : Type 0 where
  pub ends : Reading → ℕ → Result ChildEnd SpawnFail
  pub answer : Answering
  pub each : (r : Reading) (t : ℕ) → IsAnswerOf (ends r t) (answer r t)

-- the runs of these programs in a log, one for each answer
abbrev pub runs_of : List Loader → Programs → Reading → List Entry → List ChildRun
runs_of loaders programs r [] = []
runs_of loaders programs r (Loaded t a ∷ es) =
    record { argv = from_option [] (λ (argv : List Name). argv) (argv_for loaders r t); limit = output_limit; answer = programs.ends r t } ∷ runs_of loaders programs (after r (Loaded t a)) es
runs_of loaders programs r (e ∷ es) = runs_of loaders programs (after r e) es

-- it is there, however the programs end
abbrev pub HistoryIsThere : Type 0
HistoryIsThere =
    (builtins : List (Field Value)) (loaders : List Loader) (programs : Programs) (lines : List (ℕ × Event)) → AreEditors lines
    → (log : List Entry) × IsHistoryOf builtins loaders lines (runs_of loaders programs (nothing_yet builtins) log) log

-- and with no loader no program is run
abbrev pub HistoryIsThereAlone : Type 0
HistoryIsThereAlone =
    (builtins : List (Field Value)) (lines : List (ℕ × Event)) → AreEditors lines
    → (log : List Entry) × IsHistoryOf builtins [] lines [] log

-- ---- what runs say of it

-- a run has one answer
abbrev pub AnswerIsOne : Type 0
AnswerIsOne = (end : Result ChildEnd SpawnFail) (a b : Answer) → IsAnswerOf end a → IsAnswerOf end b → a ≡ b

-- the answers that a serial history uses are those in its entries
abbrev pub AnswersAreIn : Type 0
AnswersAreIn =
    (builtins : List (Field Value)) (keys : List Name) (lines : List (ℕ × Event)) (answers : List Answer) (log : List Entry)
    → IsSerial builtins keys lines answers log → answers ≡ answers_in log

-- the lines, the loaders and the runs determine the history
abbrev pub HistoryIsOne : Type 0
HistoryIsOne =
    (builtins : List (Field Value)) (loaders : List Loader) (lines : List (ℕ × Event)) (runs : List ChildRun) (log other : List Entry)
    → IsHistoryOf builtins loaders lines runs log → IsHistoryOf builtins loaders lines runs other → log ≡ other

-- what is reached is legal
abbrev pub ReachedIsLegal : Type 0
ReachedIsLegal =
    (builtins : List (Field Value)) (loaders : List Loader) (lines : List (ℕ × Event)) (runs : List ChildRun) (log : List Entry)
    → AreEditors lines → IsReached builtins loaders lines runs log → IsLegal builtins log

-- and a front of each history in which the same runs come first, whatever runs come later
abbrev pub ReachedIsFront : Type 0
ReachedIsFront =
    (builtins : List (Field Value)) (loaders : List Loader) (lines : List (ℕ × Event)) (runs more : List ChildRun) (log whole : List Entry)
    → IsReached builtins loaders lines runs log → IsHistoryOf builtins loaders lines (runs ++ more) whole
    → (back : List Entry) × (whole ≡ log ++ back)

-- ---- what is written of it, in pieces

-- the lines that are printed, put together, are the printing
abbrev pub PiecesArePrinting : Type 0
PiecesArePrinting = (builtins : List (Field Value)) (log : List Entry) → flat_map (λ (piece : List ℕ). piece) (pieces builtins log) ≡ printing builtins log

-- those of the entries of a front come first
abbrev pub FrontIsWrittenFirst : Type 0
FrontIsWrittenFirst =
    (builtins : List (Field Value)) (front back : List Entry)
    → (more : List (List ℕ)) × (pieces builtins (front ++ back) ≡ entry_pieces front ++ more)
