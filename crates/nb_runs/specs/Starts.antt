-- The steps of a start, with what they take of a reading as arguments.
use Rattle.std.specs.Prelude.{ℕ, ◌≡◌, ◌<◌, zero, suc, ◌+◌, Bool, cond, ◌&&◌, ◌||◌, not, nat_le, true, false, List, [], ◌∷◌, Option, Some, None, is_some}
use Rattle.nb_value.specs.declared.value.Value.{Value}
use Rattle.nb_value.specs.declared.outcome.Outcome.{Outcome}
use Rattle.nb_sheet.specs.Sheet.{Sheet}
use Rattle.nb_sheet.specs.Lists.{option_then, nth}
use Rattle.nb_history.specs.Reading.{Start}
use Rattle.nb_history.specs.Rules.{body_of, generates}
use Rattle.nb_history.specs.Log.{shows_value}

-- `showing`, by the cleanups, whether it ends at once, and the entry's place
abbrev pub shown_by : Outcome → List Value → Bool → ℕ → Start → Start
shown_by x cleanups ends place s =
    record s {
      shown = Some x;
      running = false;
      ended = s.ended || ends;
      owed = cleanups;
      renewal = cond (nat_le 2 s.pulls) place s.renewal;
    }

-- `asking` and `ending_now`, by the cleanups
abbrev pub asked_by : ℕ → List Value → Start → Start
asked_by t cleanups s = record s { ticket = Some t; running = false; owed = cleanups }

abbrev pub ended_by : List Value → Start → Start
ended_by cleanups s = record s { running = false; ended = true; owed = cleanups }

-- whether a frame pulls it, where its variable's body generates
abbrev pub is_pulled : Start → Bool
is_pulled s = shows_value s.shown && not s.ended && not s.running && not (is_some s.ticket)

abbrev pub pulled_once : Bool → Option Start → Option Start
pulled_once generator None = None
pulled_once generator (Some s) = cond (generator && shows_value s.shown && not s.ended && not s.running && not (is_some s.ticket)) (Some (record s { pulls = s.pulls + 1; running = true })) (Some s)

abbrev pub generates_in : Sheet → ℕ → Bool
generates_in s v = generates (body_of s v)

-- the first k starts pulled
abbrev pub pulled_first : Sheet → ℕ → ℕ → List (Option Start) → List (Option Start)
pulled_first sheet zero v starts = starts
pulled_first sheet (suc k) v [] = []
pulled_first sheet (suc k) v (s ∷ starts) = pulled_once (generates_in sheet v) s ∷ pulled_first sheet k (v + 1) starts

-- all of them
abbrev pub all_pulled : Sheet → ℕ → List (Option Start) → List (Option Start)
all_pulled sheet v [] = []
all_pulled sheet v (s ∷ starts) = pulled_once (generates_in sheet v) s ∷ all_pulled sheet (v + 1) starts

-- a start that is there, changed
abbrev pub change_in : Option Start → (Start → Start) → Option Start
change_in o change = option_then o (λ s. Some (change s))

-- v's start among these
abbrev pub start_in : List (Option Start) → ℕ → Option Start
start_in starts v = option_then (nth starts v) (λ s. s)

-- each start counts its pulls below this
abbrev pub PullsBelow : ℕ → List (Option Start) → Type 0
PullsBelow n starts = (v : ℕ) (s : Start) → nth starts v ≡ Some (Some s) → s.pulls < n
