-- The state of a variable, and what the entries of a log do to it.
use Rattle.std.specs.Prelude.{ℕ, ◌≡◌, ◌<◌, ◌^◌, ◌+◌, Bool, true, false, ◌||◌, List, [], ◌∷◌, ◌++◌, Option, Some, None, replicate}
use Rattle.nb_value.specs.declared.value.Value.{Value}
use Rattle.nb_value.specs.declared.outcome.Outcome.{Outcome}
use Rattle.nb_value.specs.declared.outcome.Answer.{Answer}
use Rattle.nb_sheet.specs.Lists.{nth, from_option}
use Rattle.nb_history.specs.Reading.{Footing, Start}
use Rattle.nb_history.specs.Log.{new_start, answering}
use Rattle.nb_runs.specs.Starts.{is_pulled, pulled_once, shown_by, asked_by, ended_by}
use Rattle.nb_runs.specs.declared.run_state.RunState.{RunState}
use Rattle.nb_runs.specs.declared.run_state.Change.{Change}
use Rattle.nb_runs.specs.declared.run_state.Change.TheVariants.{Started, Answered, Pulled, Shown, Asked, Ended, Left}

-- no start
abbrev pub idle_state : RunState
idle_state =
    record { start = 0; answers = []; ticket = None; pulls = 0; shown = None; running = false; ended = false; owed = [] }

-- no answers, no ticket, pull count 1, nothing shown, running, not ended, nothing owed
abbrev pub started_state : ℕ → RunState
started_state place =
    record { start = place; answers = []; ticket = None; pulls = 1; shown = None; running = true; ended = false; owed = [] }

-- a state after a change
abbrev pub changed_by : Change → RunState → RunState
changed_by (Started place) s = started_state place
changed_by (Answered a) s = record s { answers = s.answers ++ a ∷ []; ticket = None; running = true }
changed_by Pulled s = record s { pulls = s.pulls + 1; running = true }
changed_by (Shown x owed ended) s = record s { shown = Some x; running = false; ended = s.ended || ended; owed = owed }
changed_by (Asked t owed) s = record s { ticket = Some t; running = false; owed = owed }
changed_by (Ended owed) s = record s { ended = true; running = false; owed = owed }
changed_by Left s = idle_state

-- a start's number is at least 1, and all else comes to a variable that isn't idle; pulls stay within 32 bits
abbrev pub MayCome : Change → RunState → Type 0
MayCome (Started place) s = 0 < place
MayCome Pulled s = (0 < s.start) × (s.pulls + 1 < 2 ^ 32)
MayCome (Answered a) s = 0 < s.start
MayCome (Shown x owed ended) s = 0 < s.start
MayCome (Asked t owed) s = 0 < s.start
MayCome (Ended owed) s = 0 < s.start
MayCome Left s = 0 < s.start

-- v's state, idle where there is none
abbrev pub state_in : List RunState → ℕ → RunState
state_in states v = from_option idle_state (λ (s : RunState). s) (nth states v)

-- each of the 1,024 variables is idle
unfoldable pub no_runs : List RunState
no_runs = replicate 1024 idle_state

-- ---- states and starts

-- what a state tells of a start; it leaves out what the start rests on, and its renewal
abbrev pub state_of : Option Start → RunState
state_of None = idle_state
state_of (Some s) =
    record {
      start = s.number;
      answers = s.answers;
      ticket = s.ticket;
      pulls = s.pulls;
      shown = s.shown;
      running = s.running;
      ended = s.ended;
      owed = s.owed;
    }

-- each change does to the state what the entry does to the start
abbrev pub StartsNew : Type 0
StartsNew = (o : Option Start) (place : ℕ) (kept : Footing) → changed_by (Started place) (state_of o) ≡ state_of (Some (new_start place kept))

abbrev pub AnswersStart : Type 0
AnswersStart = (s : Start) (a : Answer) → changed_by (Answered a) (state_of (Some s)) ≡ state_of (Some (answering a s))

abbrev pub PullsStart : Type 0
PullsStart = (s : Start) → is_pulled s ≡ true → changed_by Pulled (state_of (Some s)) ≡ state_of (pulled_once true (Some s))

abbrev pub ShowsOfStart : Type 0
ShowsOfStart =
    (s : Start) (x : Outcome) (cleanups : List Value) (ends : Bool) (place : ℕ)
    → changed_by (Shown x cleanups ends) (state_of (Some s)) ≡ state_of (Some (shown_by x cleanups ends place s))

abbrev pub AsksOfStart : Type 0
AsksOfStart = (s : Start) (t : ℕ) (cleanups : List Value) → changed_by (Asked t cleanups) (state_of (Some s)) ≡ state_of (Some (asked_by t cleanups s))

abbrev pub EndsStart : Type 0
EndsStart = (s : Start) (cleanups : List Value) → changed_by (Ended cleanups) (state_of (Some s)) ≡ state_of (Some (ended_by cleanups s))

abbrev pub LeavesNone : Type 0
LeavesNone = (o : Option Start) → changed_by Left (state_of o) ≡ state_of None
