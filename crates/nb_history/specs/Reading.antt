-- What stands after the entries of a log so far.
use Rattle.std.specs.Prelude.{ℕ, Bool, true, false, List, [], Option, Some, None, nat_lt}
use Rattle.nb_sheet.specs.Lists.{nth, from_option, option_then}
use Rattle.nb_sheet.specs.Sheet.{Sheet}
use Rattle.nb_value.specs.declared.value.Value.{Value}
use Rattle.nb_value.specs.declared.outcome.Outcome.{Outcome}
use Rattle.nb_value.specs.declared.outcome.Answer.{Answer}

-- what a start rests on: the place of the body, the two marks, the inputs as resolved, each by its number, and for a
-- variable with neither mark the start numbers and the renewals of those that are variables
pub record Footing : Type 0 where
  pub place : ℕ
  pub is_duplicate : Bool
  pub is_circular : Bool
  pub inputs : List ℕ
  pub starts : List ℕ
  pub renewals : List ℕ

-- a variable that isn't idle
pub record Start : Type 0 where
  -- the place of its `pending` entry
  pub number : ℕ
  pub kept : Footing
  pub answers : List Answer
  pub ticket : Option ℕ
  pub pulls : ℕ
  pub shown : Option Outcome
  pub running : Bool
  pub ended : Bool
  pub owed : List Value
  -- the place of its `pending` entry, or of its last outcome of a second or later pull
  pub renewal : ℕ

pub record Ticket : Type 0 where
  pub var : ℕ
  pub number : ℕ
  pub key : List ℕ
  pub settled : Bool

pub record Reading : Type 0 where
  pub sheet : Sheet
  -- the start of each variable, by number; none for an idle one
  pub starts : List (Option Start)
  pub disposed : Bool
  -- by number
  pub tickets : List Ticket
  pub entries : ℕ
  pub size : ℕ

-- v's start, if it isn't idle
abbrev pub start_of : Reading → ℕ → Option Start
start_of r v = option_then (nth r.starts v) (λ s. s)

abbrev pub is_idle : Option Start → Bool
is_idle None = true
is_idle (Some s) = false

abbrev pub shown : Reading → ℕ → Option Outcome
shown r v = option_then (start_of r v) (λ s. s.shown)

abbrev pub owed : Reading → ℕ → List Value
owed r v = from_option [] (λ (s : Start). s.owed) (start_of r v)

-- the present start's number, and 0 for an idle variable
abbrev pub number : Reading → ℕ → ℕ
number r v = from_option 0 (λ (s : Start). s.number) (start_of r v)

-- the present start's renewal, and 0 for an idle variable
abbrev pub renewal : Reading → ℕ → ℕ
renewal r v = from_option 0 (λ (s : Start). s.renewal) (start_of r v)

-- the log is full past this size
abbrev pub is_full : Reading → Bool
is_full r = nat_lt 4000000 r.size
