-- How a log goes on by lines, and by the runs of loaders' programs.
use Rattle.std.specs.Prelude.{◌≡◌, ℕ, List, [], ◌++◌, Option, None}
use Rattle.nb_value.specs.declared.value.Value.{Value}
use Rattle.nb_value.specs.declared.pairs.Field.{Field}
use Rattle.nb_io.specs.declared.spawner.ChildRun.{ChildRun}
use Rattle.nb_io.specs.Runs.{Grows}
use Rattle.nb_log.specs.declared.event.Event.{Event}
use Rattle.nb_log.specs.declared.entry.Entry.{Entry}
use Rattle.nb_history.specs.Rules.{ready}
use Rattle.nb_history.specs.Serial.{Todo, SerialFrom, least_var, to_load}
use Rattle.nb_history.specs.Loaders.{Loader, keys_of, answers_in, AreRuns}
use Rattle.nb_history.specs.History.{History, standing, IsClosedHistory}
use Rattle.nb_history.specs.Headline.{IsHistoryOf}

-- what is still to come: these lines, and the answers that these entries take
abbrev pub to_take : List (ℕ × Event) → List Entry → Todo
to_take lines es = record { lines = lines; answers = answers_in es }

-- The log gained the first possible entries, until these lines were taken, whatever lines come after them. The answers of
-- loaders in it are those of these runs, which were added to the runs where they are known.
pub record Goes (loaders : List Loader) (lines : List (ℕ × Event)) (old new : History) (before now : Option (List ChildRun)) : Type 0 where
  pub builtins : new.builtins ≡ old.builtins
  pub es : List Entry
  pub longer : new.log ≡ old.log ++ es
  pub steps : (left : List (ℕ × Event)) → SerialFrom (keys_of loaders) (standing old) (to_take (lines ++ left) es) es (to_take left [])
  pub runs : List ChildRun
  pub adds : Grows before now runs
  pub told : AreRuns loaders (standing old) es runs

-- The next line may come: nothing is ready, and no loader is left to run.
pub record AwaitsLine (loaders : List Loader) (h : History) : Type 0 where
  pub closed : IsClosedHistory h
  pub done : least_var (standing h) (ready (standing h)) ≡ None
  pub loaded : to_load (keys_of loaders) (standing h) ≡ None

-- The log is the history of the lines with these loaders, and with the runs that were added where runs are known.
pub record HasHistory (builtins : List (Field Value)) (loaders : List Loader) (lines : List (ℕ × Event)) (before now : Option (List ChildRun)) (log : List Entry) : Type 0 where
  pub runs : List ChildRun
  pub adds : Grows before now runs
  pub history : IsHistoryOf builtins loaders lines runs log
