-- What is read off starts, ties and rows, where a reading has them.
use Rattle.std.specs.Prelude.{ℕ, Bool, false, cond, ◌||◌, List, [], map, Option, Some, None, is_some, slice_get}
use Rattle.std.specs.List.{list_all}
use Rattle.nb_value.specs.declared.value.Value.{Value}
use Rattle.nb_value.specs.declared.value.Value.TheVariants.{Null}
use Rattle.nb_value.specs.declared.pairs.Field.{Field}
use Rattle.nb_value.specs.declared.outcome.CellError.{CellError}
use Rattle.nb_value.specs.declared.outcome.ErrorKind.TheVariants.{DefinedTwice, Circular}
use Rattle.nb_value.specs.declared.outcome.Outcome.{Outcome}
use Rattle.nb_value.specs.declared.outcome.Answer.{Answer}
use Rattle.nb_sheet.specs.Lists.{Name, nth, from_option, option_then}
use Rattle.nb_sheet.specs.Sheet.{Sheet}
use Rattle.nb_history.specs.Reading.{Reading, Start, Footing}
use Rattle.nb_history.specs.Rules.{plain_error}
use Rattle.nb_runs.specs.Starts.{start_in}
use Rattle.nb_closing.specs.Ties.{Ties}

-- a reading that has these, and nothing else
abbrev pub over : Sheet → List (Option Start) → Reading
over s starts = record { sheet = s; starts = starts; disposed = false; tickets = []; entries = 0; size = 0 }

-- ---- starts

abbrev pub number_of : List (Option Start) → ℕ → ℕ
number_of starts v = from_option 0 (λ (s : Start). s.number) (start_in starts v)

abbrev pub renewal_of : List (Option Start) → ℕ → ℕ
renewal_of starts v = from_option 0 (λ (s : Start). s.renewal) (start_in starts v)

abbrev pub shown_of : List (Option Start) → ℕ → Option Outcome
shown_of starts v = option_then (start_in starts v) (λ (s : Start). s.shown)

abbrev pub pulls_in : List (Option Start) → ℕ → ℕ
pulls_in starts v = from_option 0 (λ (s : Start). s.pulls) (start_in starts v)

abbrev pub answers_in : List (Option Start) → ℕ → List Answer
answers_in starts v = from_option [] (λ (s : Start). s.answers) (start_in starts v)

-- ---- ties

-- what no variable is tied to
abbrev pub no_ties : Ties
no_ties = record { is_duplicate = false; is_circular = false; is_used = false; inputs = []; codes = []; direct = [] }

abbrev pub ties_in : List Ties → ℕ → Ties
ties_in ties v = from_option no_ties (λ t. t) (nth ties v)

-- what a variable of these ties rests on, whose body has this place
abbrev pub footing_by : Ties → List (Option Start) → ℕ → Footing
footing_by t starts place =
    record {
      place = place;
      is_duplicate = t.is_duplicate;
      is_circular = t.is_circular;
      inputs = t.codes;
      starts = cond t.is_circular [] (map (number_of starts) t.direct);
      renewals = cond t.is_circular [] (map (renewal_of starts) t.direct);
    }

-- a variable of these ties has what it needs to run
abbrev pub has_inputs : Ties → List (Option Start) → Bool
has_inputs t starts = t.is_duplicate || t.is_circular || list_all (λ u. is_some (shown_of starts u)) t.direct

-- ---- rows

-- the value of the builtin at a place
abbrev pub builtin_value : Sheet → ℕ → Value
builtin_value s b = from_option Null (λ (x : Field Value). x.value) (slice_get s.builtins b)

-- the error of a duplicate, or of a circular variable, by its name
abbrev pub marked_by : Bool → Bool → Name → Option CellError
marked_by is_duplicate is_circular name =
    cond is_duplicate (Some (plain_error DefinedTwice name)) (cond is_circular (Some (plain_error Circular name)) None)
