-- The cleanups that the starts of a variable record, and those that its entries dispose of.
use Rattle.std.specs.Prelude.{ℕ, ◌≡◌, Bool, true, false, cond, ◌==◌, List, [], ◌∷◌, ◌++◌, map}
use Rattle.nb_value.specs.declared.value.Value.{Value}
use Rattle.nb_value.specs.declared.pairs.Field.{Field}
use Rattle.nb_value.specs.declared.outcome.CellError.{CellError}
use Rattle.nb_eval.specs.Evaluation.{Evaluated}
use Rattle.nb_sheet.specs.Lists.{from_option}
use Rattle.nb_log.specs.declared.entry.Entry.{Entry}
use Rattle.nb_log.specs.declared.entry.Entry.TheVariants.{Pending, Fulfilled, Rejected, Asked, Ended, Left}
use Rattle.nb_history.specs.Reading.{Reading, shown, owed}
use Rattle.nb_history.specs.Rules.{evaluation, deciding_error}
use Rattle.nb_history.specs.Log.{nothing_yet, after, reading, cleanups_now, IsLegal}
use Rattle.nb_history.specs.Starts.{starts, is_notice_of}

-- the cleanups at each of v's `asked`, `fulfilled`, `rejected` and `ended` entries:
-- of those before v's next start, and then of those of each start, in order
abbrev pub Records : Type 0
Records = List (List Value) × List (List (List Value))

-- with one more entry in front: a start, one that records, or another
abbrev pub recorded_too : Bool → Bool → List Value → Records → Records
recorded_too true records cleanups later = ([], later.0 ∷ later.1)
recorded_too false true cleanups later = (cleanups ∷ later.0, later.1)
recorded_too false false cleanups later = later

abbrev pub records_from : Reading → ℕ → List Entry → Records
records_from r v [] = ([], [])
records_from r v (e ∷ es) = recorded_too (starts v e) (is_notice_of v e) (cleanups_now r v) (records_from (after r e) v es)

-- of each start of v
abbrev pub records : List (Field Value) → List Entry → ℕ → List (List (List Value))
records builtins log v = (records_from (nothing_yet builtins) v log).1

-- the last, and the first list where there is none
abbrev pub last_or : List Value → List (List Value) → List Value
last_or x [] = x
last_or x (y ∷ ys) = last_or y ys

abbrev pub put_together : List (List Value) → List Value
put_together [] = []
put_together (x ∷ xs) = x ++ put_together xs

-- the recorded cleanups of a start are those at the last of its entries, and none before it has one
abbrev pub of_start : List (List Value) → List Value
of_start cleanups = last_or [] cleanups

-- what v's `pending` or `left` disposes of
abbrev pub disposed_by : ℕ → Entry → List Value
disposed_by v (Pending u d) = cond (u == v) d []
disposed_by v (Left u d) = cond (u == v) d []
disposed_by v e = []

-- the disposed lists of v's `pending` and `left` entries, put together in order
abbrev pub disposed : ℕ → List Entry → List Value
disposed v [] = []
disposed v (e ∷ es) = disposed_by v e ++ disposed v es

-- In a legal log the disposed lists of each variable, followed by what it owes now, are the recorded cleanups of its
-- starts, put together in order: each is disposed of once, none is lost, and none is disposed of that isn't recorded.
abbrev pub CleansUpOnce : Type 0
CleansUpOnce =
    (builtins : List (Field Value)) (log : List Entry) → IsLegal builtins log → (v : ℕ)
    → disposed v log ++ owed (reading builtins log) v ≡ put_together (map of_start (records builtins log v))
