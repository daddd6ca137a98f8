-- The serial history of a list of lines.
use Rattle.std.specs.Prelude.{ℕ, zero, suc, ⊤, ◌≡◌, ◌<◌, Bool, false, cond, not, ◌&&◌, List, [], ◌∷◌, Option, Some, None}
use Rattle.std.specs.List.{list_any}
use Rattle.std.specs.Str.{bytes_eq}
use Rattle.nb_value.specs.declared.pairs.Field.{Field}
use Rattle.nb_sheet.specs.Lists.{nth, numbers, Name, from_option, option_then, or_else}
use Rattle.nb_history.specs.Lists.{first_where}
use Rattle.nb_history.specs.Reading.{Reading, Ticket, owed, is_full}
use Rattle.nb_history.specs.Rules.{leaving, may_start, ready, next}
use Rattle.nb_history.specs.Log.{nothing_yet, after, read_from, admit, is_live}
use Rattle.nb_value.specs.declared.value.Value.{Value}
use Rattle.nb_value.specs.declared.outcome.Answer.{Answer}
use Rattle.nb_log.specs.declared.event.Event.{Event}
use Rattle.nb_log.specs.declared.entry.Entry.{Entry}
use Rattle.nb_log.specs.declared.entry.Entry.TheVariants.{Pending, Left, Loaded}

-- the least variable that passes
abbrev pub least_var : Reading → (ℕ → Bool) → Option ℕ
least_var r test = first_where test (numbers r.sheet.rows)

-- the first `left` or `pending` that may come
abbrev pub closing : Reading → Option Entry
closing r =
    or_else (option_then (least_var r (leaving r)) (λ v. Some (Left v (owed r v))))
    (option_then (least_var r (may_start r)) (λ v. Some (Pending v (owed r v))))

-- the `left` and `pending` entries in their order, until none may come
abbrev pub Closes : Reading → List Entry → Type 0
Closes r [] = closing r ≡ None
Closes r (e ∷ es) = (closing r ≡ Some e) × Closes (after r e) es

-- the next entry of the least ready variable
abbrev pub next_of_ready : Reading → Option Entry
next_of_ready r = option_then (least_var r (ready r)) (λ v. Some (next r v))

-- what is still to come from outside: the lines, with their editors, and the answers of the loaders' runs
pub record Todo : Type 0 where
  pub lines : List (ℕ × Event)
  pub answers : List Answer

-- an entry, and what is still to come after it
abbrev pub Step : Type 0
Step = Option (Entry × Todo)

abbrev pub line_step : Reading → Todo → List (ℕ × Event) → Step
line_step r todo [] = None
line_step r todo (l ∷ lines) = Some (admit r l.0 l.1, record todo { lines = lines })

-- the least live ticket whose key has a loader
abbrev pub loader_ticket : Reading → List Name → Option ℕ
loader_ticket r keys =
    first_where (λ t. is_live r t && from_option false (λ (k : Ticket). list_any (λ key. bytes_eq key k.key) keys) (nth r.tickets t)) (numbers r.tickets)

-- the run of the loader answers, where it is still to come
abbrev pub loaded_step : Todo → ℕ → List Answer → Step
loaded_step todo t [] = None
loaded_step todo t (a ∷ answers) = Some (Loaded t a, record todo { answers = answers })

-- the least live ticket with a loader, and else the next line
abbrev pub outer_step : Reading → Todo → Option ℕ → Step
outer_step r todo (Some t) = loaded_step todo t todo.answers
outer_step r todo None = line_step r todo todo.lines

abbrev pub may_load : Reading → Bool
may_load r = not r.disposed && not (is_full r)

-- the least live ticket that has a loader, where one may be run
abbrev pub to_load : List Name → Reading → Option ℕ
to_load keys r = cond (may_load r) (loader_ticket r keys) None

-- the first possible entry
abbrev pub first_step : List Name → Reading → Todo → Step
first_step keys r todo =
    or_else (option_then (or_else (closing r) (next_of_ready r)) (λ e. Some (e, todo)))
    (outer_step r todo (to_load keys r))

-- each entry is the first possible one, and `left` is still to come in the end
abbrev pub SerialFrom : List Name → Reading → Todo → List Entry → Todo → Type 0
SerialFrom keys r todo [] left = todo ≡ left
SerialFrom keys r todo (e ∷ es) left =
    (mid : Todo) × (first_step keys r todo ≡ Some (e, mid)) × SerialFrom keys (after r e) mid es left

-- the lines are of editors
abbrev pub AreEditors : List (ℕ × Event) → Type 0
AreEditors [] = ⊤
AreEditors (l ∷ lines) = (l.0 < 8) × AreEditors lines

-- the serial history: each answer was given, and after it no entry is possible and no loader is left to run
pub record IsSerial (builtins : List (Field Value)) (keys : List Name) (lines : List (ℕ × Event)) (answers : List Answer) (log : List Entry) : Type 0 where
  pub steps : SerialFrom keys (nothing_yet builtins) (record { lines = lines; answers = answers }) log (record { lines = []; answers = [] })
  pub ends : first_step keys (read_from (nothing_yet builtins) log) (record { lines = []; answers = [] }) ≡ None
  pub loaded : to_load keys (read_from (nothing_yet builtins) log) ≡ None

-- the first entries of the serial history, at most n
abbrev pub serial_within : List Name → ℕ → Reading → Todo → List Entry
serial_within keys zero r todo = []
serial_within keys (suc n) r todo =
    from_option [] (λ (p : Entry × Todo). p.0 ∷ serial_within keys n (after r p.0) p.1) (first_step keys r todo)
