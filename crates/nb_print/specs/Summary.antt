-- What is told of a made notebook: the numbers of its lines and entries, and how many lines of its table there are of each kind.
use Rattle.std.specs.Prelude.{ℕ, Bool, true, false, ◌&&◌, List, [], ◌∷◌, ◌++◌, codes, decimal, cond, length, Option, Some, None}
use Rattle.std.specs.List.{filter}
use Rattle.nb_value.specs.declared.value.Value.{Value}
use Rattle.nb_value.specs.declared.value.Value.TheVariants as V
use Rattle.nb_value.specs.declared.outcome.Outcome.{Outcome}
use Rattle.nb_value.specs.declared.outcome.Outcome.TheVariants.{Value as Shows, Error as Fails}
use Rattle.nb_log.specs.Printing.{number, line_text, done_value}
use Rattle.nb_history.specs.Reading.{Reading, shown}
use Rattle.nb_history.specs.Rules.{wanted}
use Rattle.nb_history.specs.History.{History, standing}
use Rattle.nb_history.specs.Print.{wanted_vars}
use Rattle.nb_print.specs.declared.summary.Kind.{Kind}
use Rattle.nb_print.specs.declared.summary.Kind.TheVariants.{Fulfilled, Rejected, Waiting}
use Rattle.nb_print.specs.declared.summary.Making.{Making}

-- whether a line of the table that tells this is of the kind
abbrev pub is_of : Kind → Option Outcome → Bool
is_of Fulfilled (Some (Shows x)) = true
is_of Rejected (Some (Fails e)) = true
is_of Waiting None = true
is_of kind told = false

-- the variables whose line of the table is of the kind, and how many there are
abbrev pub vars_of_kind : Kind → Reading → List ℕ
vars_of_kind kind r = filter (λ v. is_of kind (shown r v)) (wanted_vars r)

abbrev pub lines_of_kind : Kind → Reading → ℕ
lines_of_kind kind r = length (vars_of_kind kind r)

-- 1 where the table has a line of the kind for v, and 0 where it has none
abbrev pub lines_for : Kind → Reading → ℕ → ℕ
lines_for kind r v = cond (wanted r v && is_of kind (shown r v)) 1 0

-- each number in decimal behind a comma
abbrev pub numbers_text : List ℕ → List ℕ
numbers_text [] = []
numbers_text (n ∷ ns) = 44 ∷ (decimal n ++ numbers_text ns)

-- the number of cells, the seed, the numbers of lines and of entries, and how many lines of the table there are of each kind
abbrev pub made_value : Making → History → Value
made_value making h =
    V.List (
    V.Text (codes "made") ∷ number making.cells ∷ number making.seed ∷ number making.lines ∷ number (length h.log)
    ∷ number (lines_of_kind Fulfilled (standing h)) ∷ number (lines_of_kind Rejected (standing h)) ∷ number (lines_of_kind Waiting (standing h)) ∷ []
    )

-- a line with these, and the line with the number of entries
unfoldable pub summary_text : Making → History → List ℕ
summary_text making h = line_text (made_value making h) ++ line_text (done_value (length h.log))
