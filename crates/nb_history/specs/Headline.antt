-- What is promised of the history of a list of lines.
use Rattle.std.specs.Prelude.{◌≡◌, ℕ, true, List, [], ◌++◌}
use Rattle.nb_value.specs.declared.value.Value.{Value}
use Rattle.nb_value.specs.declared.pairs.Field.{Field}
use Rattle.nb_io.specs.declared.spawner.ChildRun.{ChildRun}
use Rattle.nb_log.specs.declared.event.Event.{Event}
use Rattle.nb_log.specs.declared.entry.Entry.{Entry}
use Rattle.nb_history.specs.Reading.{shown}
use Rattle.nb_history.specs.Rules.{wanted, scratch}
use Rattle.nb_history.specs.Log.{nothing_yet, reading, IsLegal, RestsAfter}
use Rattle.nb_history.specs.Serial.{SerialFrom, IsSerial}
use Rattle.nb_history.specs.Loaders.{Loader, keys_of, answers_in, AreRuns}

-- every wanted variable shows what evaluating the present definitions from scratch gives, and nothing exactly where that waits
abbrev pub ShowsScratch : List (Field Value) → List Entry → Type 0
ShowsScratch builtins log =
    (v : ℕ) → wanted (reading builtins log) v ≡ true → shown (reading builtins log) v ≡ scratch (reading builtins log) v

-- that holds after each front of the log that rests
abbrev pub HoldsAtRests : List (Field Value) → List Entry → Type 0
HoldsAtRests builtins log = (front back : List Entry) → log ≡ front ++ back → RestsAfter builtins front → ShowsScratch builtins front

-- that is so of every legal log
abbrev pub RestsHold : Type 0
RestsHold = (builtins : List (Field Value)) (log : List Entry) → IsLegal builtins log → HoldsAtRests builtins log

-- The log is the serial history of the lines, with these loaders and these runs of their programs: each answer of a
-- loader is that of its run. It is legal, so that every notice is what the definitions and inputs present at its place
-- give. It ends at rest, and what is promised at rests holds at each of them.
pub record IsHistoryOf (builtins : List (Field Value)) (loaders : List Loader) (lines : List (ℕ × Event)) (runs : List ChildRun) (log : List Entry) : Type 0 where
  pub serial : IsSerial builtins (keys_of loaders) lines (answers_in log) log
  pub told : AreRuns loaders (nothing_yet builtins) log runs
  pub legal : IsLegal builtins log
  pub rests : HoldsAtRests builtins log
  pub ends_at_rest : RestsAfter builtins log

-- The log is a front of the serial history of the lines, up to which just these runs were made: what a call had reached
-- that stopped before the next run gave an answer. What it wrote is a front of the lines of these entries.
pub record IsReached (builtins : List (Field Value)) (loaders : List Loader) (lines : List (ℕ × Event)) (runs : List ChildRun) (log : List Entry) : Type 0 where
  -- the lines that are still to come
  pub left : List (ℕ × Event)
  pub steps : SerialFrom (keys_of loaders) (nothing_yet builtins) (record { lines = lines; answers = answers_in log }) log (record { lines = left; answers = [] })
  pub told : AreRuns loaders (nothing_yet builtins) log runs
