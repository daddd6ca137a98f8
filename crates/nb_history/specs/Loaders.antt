-- The programs that a notebook names for the data that it fetches, and what a run of one answers.
use Rattle.std.specs.Prelude.{ℕ, ⊤, ◌≡◌, Bool, false, List, [], ◌∷◌, ◌++◌, map, nat_eq, codes, ℤ, pos, negsuc, Option, None, Some, if◌then◌else◌, Result, MatchBool}
use Rattle.std.specs.declared.result.Result.TheVariants.{Ok, Err}
use Rattle.std.specs.Str.{bytes_eq}
use Rattle.std.specs.Fmt.{signed_decimal}
use Rattle.nb_value.specs.declared.value.Value.{Value}
use Rattle.nb_value.specs.declared.outcome.Answer.{Answer}
use Rattle.nb_value.specs.declared.outcome.Answer.TheVariants.{Value as Given, Failure}
use Rattle.nb_value.specs.Json.{IsJsonOf, FitsLimits}
use Rattle.nb_eval.specs.Operate.{is_zero}
use Rattle.nb_io.specs.declared.spawner.ChildRun.{ChildRun}
use Rattle.nb_io.specs.declared.spawner.ChildEnd.{ChildEnd}
use Rattle.nb_io.specs.declared.spawner.SpawnFail.{SpawnFail}
use Rattle.nb_io.specs.declared.spawner.SpawnFail.TheVariants.{Failed, TooLong, Memory}
use Rattle.nb_sheet.specs.Lists.{Name, nth, option_then}
use Rattle.nb_log.specs.declared.entry.Entry.{Entry}
use Rattle.nb_log.specs.declared.entry.Entry.TheVariants.{Loaded}
use Rattle.nb_history.specs.Reading.{Reading, Ticket}
use Rattle.nb_history.specs.Log.{after}

-- a program, by its words, for the fetches of a key
pub record Loader : Type 0 where
  pub key : Name
  pub argv : List Name

-- the keys that have a loader
abbrev pub keys_of : List Loader → List Name
keys_of loaders = map (λ (l : Loader). l.key) loaders

-- the words of the first loader that has the key
abbrev pub argv_of : List Loader → Name → Option (List Name)
argv_of [] key = None
argv_of (l ∷ loaders) key = if bytes_eq l.key key then Some l.argv else argv_of loaders key

-- those of the loader for the key that the ticket was given for
abbrev pub argv_for : List Loader → Reading → ℕ → Option (List Name)
argv_for loaders r t = option_then (nth r.tickets t) (λ (k : Ticket). argv_of loaders k.key)

-- ---- what one run answers

-- an output may have so many bytes
abbrev pub output_limit : ℕ
output_limit = 65536

-- the value that an output is the JSON of, within the limits of values, and a failure where it is of none
abbrev pub GivesOutput : List ℕ → Answer → Type 0
GivesOutput output (Given v) = IsJsonOf output v × FitsLimits v
GivesOutput output (Failure why) = (why ≡ codes "output") × ((v : Value) → IsJsonOf output v → FitsLimits v → ⊥)

-- Where the program didn't start, that is the failure; where it wrote too much, that; where it ended with another status
-- than 0, the status; else what its output gives. Want of memory is no answer.
abbrev pub IsAnswerOf : Result ChildEnd SpawnFail → Answer → Type 0
IsAnswerOf (Err Failed) a = a ≡ Failure (codes "spawn")
IsAnswerOf (Err TooLong) a = a ≡ Failure (codes "output")
IsAnswerOf (Err Memory) a = ⊥
IsAnswerOf (Ok end) a = MatchBool (is_zero end.status) (GivesOutput end.output a) (a ≡ Failure (codes "status " ++ signed_decimal end.status))

-- ---- the runs of a log

-- the answers of loaders that an entry takes, and those that the entries of a log take, in order
abbrev pub answer_in : Entry → List Answer
answer_in (Loaded t a) = a ∷ []
answer_in e = []

abbrev pub answers_in : List Entry → List Answer
answers_in [] = []
answers_in (e ∷ es) = answer_in e ++ answers_in es

-- the answer for a ticket is that of one run of the loader for its key
pub record IsRunFor (loaders : List Loader) (r : Reading) (t : ℕ) (a : Answer) (run : ChildRun) : Type 0 where
  pub argv : argv_for loaders r t ≡ Some run.argv
  pub limit : run.limit ≡ output_limit
  pub answer : IsAnswerOf run.answer a

-- each answer of a loader in the log is that of one of these runs, in their order, and no run is left
abbrev pub AreRuns : List Loader → Reading → List Entry → List ChildRun → Type 0
AreRuns loaders r [] [] = ⊤
AreRuns loaders r [] (run ∷ runs) = ⊥
AreRuns loaders r (Loaded t a ∷ es) [] = ⊥
AreRuns loaders r (Loaded t a ∷ es) (run ∷ runs) = IsRunFor loaders r t a run × AreRuns loaders (after r (Loaded t a)) es runs
AreRuns loaders r (e ∷ es) runs = AreRuns loaders (after r e) es runs
