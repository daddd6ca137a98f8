-- One run of a program.
use Rattle.std.specs.Prelude.{◌≡◌, ◌⊎◌, ℕ, List, [], Option, Result}
use Rattle.std.specs.declared.result.Result.TheVariants.{Ok, Err}
use Rattle.nb_value.specs.declared.outcome.Answer.{Answer}
use Rattle.nb_io.specs.declared.spawner.ChildRun.{ChildRun}
use Rattle.nb_io.specs.Runs.{Grows, AddsRun}
use Rattle.nb_history.specs.Loaders.{output_limit, IsAnswerOf}

-- the run is of these words, and its output may have as much as a loader's
pub record IsRunOf (words : List (List ℕ)) (run : ChildRun) : Type 0 where
  pub argv : run.argv ≡ words
  pub limit : run.limit ≡ output_limit

-- one run was made of these words, and where runs are known it was added to them
pub record MadeRun (words : List (List ℕ)) (before now : Option (List ChildRun)) (run : ChildRun) : Type 0 where
  pub of : IsRunOf words run
  pub adds : AddsRun before now run

-- no run was made of these words that is known, or one
abbrev pub MayRunOnce : List (List ℕ) → Option (List ChildRun) → Option (List ChildRun) → Type 0
MayRunOnce words before now = Grows before now [] ⊎ ((run : ChildRun) × MadeRun words before now run)

-- one run was made of these words, and this is its answer; where memory ran out it may have been made
abbrev pub RunsOnce : {E : Type 0} → List (List ℕ) → Option (List ChildRun) → Option (List ChildRun) → Result Answer E → Type 0
RunsOnce words before now (Ok a) = (run : ChildRun) × MadeRun words before now run × IsAnswerOf run.answer a
RunsOnce words before now (Err e) = MayRunOnce words before now
