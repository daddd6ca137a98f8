-- How a log goes on by the run of a loader's program.
use Rattle.std.specs.Prelude.{ℕ, ◌+◌, ◌≡◌, List, ◌∷◌, ◌++◌, codes, length, map, Option, Some, None, Result}
use Rattle.std.specs.declared.result.Result.TheVariants.{Ok, Err}
use Rattle.nb_value.specs.declared.outcome.Answer.{Answer}
use Rattle.nb_value.specs.declared.outcome.Answer.TheVariants.{Failure}
use Rattle.nb_io.specs.declared.spawner.ChildRun.{ChildRun}
use Rattle.nb_io.specs.Runs.{AddsRun}
use Rattle.nb_io.specs.Causes.{Rose}
use Rattle.nb_log.specs.declared.entry.Entry.{Entry}
use Rattle.nb_log.specs.declared.entry.Entry.TheVariants.{Loaded}
use Rattle.nb_sheet.specs.Lists.{Name}
use Rattle.nb_history.specs.Reading.{Reading}
use Rattle.nb_history.specs.Log.{NothingReady}
use Rattle.nb_history.specs.Serial.{to_load}
use Rattle.nb_history.specs.Loaders.{Loader, keys_of, argv_for, IsRunFor}
use Rattle.nb_history.specs.History.{History, standing}
use Rattle.nb_core.specs.Core.{Gains}
use Rattle.nb_doc.specs.declared.document.Loader.{Loader as DocumentLoader}
use Rattle.nb_loader.specs.declared.step.LoadStep.{LoadStep}
use Rattle.nb_loader.specs.declared.step.LoadStep.TheVariants.{Placed, Nothing}
use Rattle.nb_loader.specs.Runs.{MayRunOnce}

-- the loaders of a document, as histories have them
abbrev pub as_loaders : List DocumentLoader → List Loader
as_loaders loaders = map (λ (l : DocumentLoader). record { key = l.key; argv = l.argv }) loaders

-- the ticket is the next that is loaded: where nothing is ready, and neither is the notebook disposed of nor the log full,
-- the least live one whose key has a loader
pub record IsNextLoad (loaders : List Loader) (r : Reading) (t : ℕ) : Type 0 where
  pub rests : NothingReady r
  pub first : to_load (keys_of loaders) r ≡ Some t

-- no ticket is
abbrev pub NothingToLoad : List Loader → Reading → Type 0
NothingToLoad loaders r = NothingReady r → to_load (keys_of loaders) r ≡ None

-- The ticket that is next has its answer: it is that of one run of its loader's program, which was added to the runs,
-- where they are known. The log gained it at this place, and then what follows from it.
pub record Loads (loaders : List Loader) (old new : History) (before now : Option (List ChildRun)) (place : ℕ) : Type 0 where
  pub ticket : ℕ
  pub answer : Answer
  pub run : ChildRun
  pub next : IsNextLoad loaders (standing old) ticket
  pub told : IsRunFor loaders (standing old) ticket answer run
  pub adds : AddsRun before now run
  pub gains : Gains old (Loaded ticket answer) new
  pub at : place ≡ length old.log + 1

-- Memory ran out before the answer came: a ticket is next, and the program of its loader may have run.
pub record Stops (loaders : List Loader) (r : Reading) (before now : Option (List ChildRun)) : Type 0 where
  pub ticket : ℕ
  pub argv : List Name
  pub next : IsNextLoad loaders r ticket
  pub words : argv_for loaders r ticket ≡ Some argv
  pub runs : MayRunOnce argv before now

-- what the step did with the log and with the runs
abbrev pub Steps : {E : Type 0} → List Loader → History → History → Option (List ChildRun) → Option (List ChildRun) → Result LoadStep E → Type 0
Steps loaders old new before now (Ok (Placed place)) = Loads loaders old new before now place
Steps loaders old new before now (Ok Nothing) = NothingToLoad loaders (standing old) × (new ≡ old)
Steps loaders old new before now (Err e) = Stops loaders (standing old) before now × (new ≡ old)

-- the failure `spawn` comes into the log only where the count of faults rose
abbrev pub SpawnHasCause : History → History → ℕ → ℕ → Type 0
SpawnHasCause old new before now = (t : ℕ) (es : List Entry) → new.log ≡ old.log ++ Loaded t (Failure (codes "spawn")) ∷ es → Rose before now

-- what was found of the next ticket: none is, or it and the words of its loader
abbrev pub FindsNext : List Loader → Reading → Option (ℕ × List Name) → Type 0
FindsNext loaders r None = NothingToLoad loaders r
FindsNext loaders r (Some p) = IsNextLoad loaders r p.0 × (argv_for loaders r p.0 ≡ Some p.1)
