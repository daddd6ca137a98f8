-- Who leaves, who is due, who is ready, and what comes next of a ready variable.
use Rattle.std.specs.Prelude.{ℕ, zero, suc, ◌+◌, Bool, true, false, cond, ◌&&◌, ◌||◌, not, ◌==◌, nat_le, List, [], ◌∷◌, map, length, Option, Some, None, is_some, slice_get}
use Rattle.std.specs.List.{list_any, list_all}
use Rattle.std.specs.Fmt.{take_chars}
use Rattle.nb_value.specs.declared.pairs.Field.{Field}
use Rattle.nb_value.specs.Fields as fields
use Rattle.nb_sheet.specs.Lists.{nth, numbers, Name, from_option, option_then, or_else}
use Rattle.nb_history.specs.Lists.{same_bool, same_numbers}
use Rattle.nb_syntax.specs.Generator.{is_generator}
use Rattle.nb_eval.specs.Evaluation.{Evaluated, evaluation as cell_evaluation}
use Rattle.nb_eval.specs.declared.given.Ending.{Ending}
use Rattle.nb_eval.specs.declared.given.Ending.TheVariants.{Paused, Needs, Done, Failed}
use Rattle.nb_sheet.specs.Sheet.{Sheet}
use Rattle.nb_resolve.specs.Names.{inputs, direct, duplicate}
use Rattle.nb_history.specs.Needs.{circular, needed, is_used}
use Rattle.nb_history.specs.Reading.{Reading, Start, Footing, start_of, is_idle, shown, number, renewal}
use Rattle.nb_value.specs.declared.value.Value.{Value}
use Rattle.nb_value.specs.declared.value.Value.TheVariants.{Null}
use Rattle.nb_value.specs.declared.outcome.CellError.{CellError}
use Rattle.nb_value.specs.declared.outcome.ErrorKind.{ErrorKind}
use Rattle.nb_value.specs.declared.outcome.ErrorKind.TheVariants.{NotDefined, DefinedTwice, Circular}
use Rattle.nb_value.specs.declared.outcome.Outcome.{Outcome}
use Rattle.nb_value.specs.declared.outcome.Outcome.TheVariants.{Value as Shows, Error as Fails}
use Rattle.nb_value.specs.declared.outcome.Answer.{Answer}
use Rattle.nb_sheet.specs.declared.row.BodyOf.{BodyOf}
use Rattle.nb_sheet.specs.declared.row.BodyOf.TheVariants.{Cell as CellBody, Import as ImportBody}
use Rattle.nb_sheet.specs.declared.row.VarRow.{VarRow}
use Rattle.nb_resolve.specs.declared.resolution.Resolution.{Resolution}
use Rattle.nb_resolve.specs.declared.resolution.Resolution.TheVariants.{Var, Builtin, Twice, Missing}
use Rattle.nb_log.specs.declared.entry.Entry.{Entry}
use Rattle.nb_log.specs.declared.entry.Entry.TheVariants.{Fulfilled, Rejected, Asked, Ended}

-- ---- footing

abbrev pub place_of : Sheet → ℕ → ℕ
place_of s v = from_option 0 (λ (row : VarRow). row.place) (nth s.rows v)

-- a resolution as a number
abbrev pub resolution_code : Resolution → ℕ
resolution_code Missing = 0
resolution_code Twice = 1
resolution_code (Var v) = 2 + (v + v)
resolution_code (Builtin b) = 3 + (b + b)

abbrev pub input_code : Name × Resolution → ℕ
input_code i = resolution_code i.1

-- what v rests on now. Its inputs' names are those of its body, and a duplicate has no inputs
abbrev pub footing : Reading → ℕ → Footing
footing r v =
    let marked = circular r.sheet v in
    record {
      place = place_of r.sheet v;
      is_duplicate = duplicate r.sheet v;
      is_circular = marked;
      inputs = map input_code (inputs r.sheet v);
      starts = cond marked [] (map (number r) (direct r.sheet v));
      renewals = cond marked [] (map (renewal r) (direct r.sheet v));
    }

-- they differ in renewals at most
abbrev pub same_base : Footing → Footing → Bool
same_base f g =
    (f.place == g.place) && same_bool f.is_duplicate g.is_duplicate && same_bool f.is_circular g.is_circular
    && same_numbers f.inputs g.inputs && same_numbers f.starts g.starts

abbrev pub same_footing : Footing → Footing → Bool
same_footing f g = same_base f g && same_numbers f.renewals g.renewals

-- ---- leaving, pulling, held, due, ready

abbrev pub wanted : Reading → ℕ → Bool
wanted r v = not r.disposed && is_used r.sheet v

abbrev pub leaving : Reading → ℕ → Bool
leaving r v = not (wanted r v) && not (is_idle (start_of r v))

-- v is idle, or its footing now isn't the kept one
abbrev pub is_behind : Reading → ℕ → Bool
is_behind r v = from_option true (λ (s : Start). not (same_footing (footing r v) s.kept)) (start_of r v)

-- only the renewals of v's inputs aren't the kept ones
abbrev pub is_overtaken : Reading → ℕ → Bool
is_overtaken r v =
    from_option false (λ (s : Start). same_base (footing r v) s.kept && not (same_footing (footing r v) s.kept)) (start_of r v)

abbrev pub is_running : Reading → ℕ → Bool
is_running r v = from_option false (λ (s : Start). s.running) (start_of r v)

abbrev pub pulls_of : Reading → ℕ → ℕ
pulls_of r v = from_option 0 (λ (s : Start). s.pulls) (start_of r v)

-- v runs at a second or later pull that still counts
abbrev pub is_pulling : Reading → ℕ → Bool
is_pulling r v = is_running r v && not (is_behind r v) && nat_le 2 (pulls_of r v)

-- something is pulling
abbrev pub pulls_on : Reading → Bool
pulls_on r = list_any (is_pulling r) (numbers r.sheet.rows)

-- something is pulling, and v or a variable that v needs is overtaken
abbrev pub is_held : Reading → ℕ → Bool
is_held r v = pulls_on r && (is_overtaken r v || list_any (is_overtaken r) (needed r.sheet v))

abbrev pub due : Reading → ℕ → Bool
due r v = wanted r v && is_behind r v && not (is_held r v)

-- a due v may start: nothing that it needs is due, or it is circular
abbrev pub may_start : Reading → ℕ → Bool
may_start r v = due r v && (circular r.sheet v || not (list_any (due r) (needed r.sheet v)))

abbrev pub ready : Reading → ℕ → Bool
ready r v =
    is_running r v && not (is_behind r v)
    && (duplicate r.sheet v || circular r.sheet v || list_all (λ u. is_some (shown r u)) (direct r.sheet v))

-- ---- what a variable's present inputs give, where `shows` says what each variable shows

-- a detail has at most 200 characters
abbrev pub plain_error : ErrorKind → Name → CellError
plain_error kind name = record { kind = kind; detail = take_chars 200 name; via = None }

abbrev pub name_of : Sheet → ℕ → Name
name_of s v = from_option [] (λ (row : VarRow). from_option [] (λ n. n) row.name) (nth s.rows v)

-- the error of a duplicate, or of a circular variable
abbrev pub marked_error : Sheet → ℕ → Option CellError
marked_error s v =
    cond (duplicate s v) (Some (plain_error DefinedTwice (name_of s v)))
    (cond (circular s v) (Some (plain_error Circular (name_of s v))) None)

abbrev pub through_input : Name → Outcome → Outcome
through_input n (Shows x) = Shows x
through_input n (Fails e) = Fails (record e { via = Some n })

-- what an input gives, and nothing where its variable shows nothing yet
abbrev pub given : Sheet → (ℕ → Option Outcome) → Name × Resolution → Option Outcome
given s shows (n, Missing) = Some (Fails (plain_error NotDefined n))
given s shows (n, Twice) = Some (Fails (plain_error DefinedTwice n))
given s shows (n, Builtin b) = Some (Shows (from_option Null (λ (x : Field Value). x.value) (slice_get s.builtins b)))
given s shows (n, Var u) = option_then (shows u) (λ x. Some (through_input n x))

-- the error of the first input that fails
abbrev pub first_error : List (Option Outcome) → Option CellError
first_error [] = None
first_error (Some (Fails e) ∷ more) = Some e
first_error (Some (Shows x) ∷ more) = first_error more
first_error (None ∷ more) = first_error more

abbrev pub value_given : Option Outcome → Value
value_given (Some (Shows x)) = x
value_given (Some (Fails e)) = Null
value_given None = Null

-- the names of the inputs, in byte order, with their values
abbrev pub values_given : Sheet → (ℕ → Option Outcome) → List (Name × Resolution) → List (Field Value)
values_given s shows [] = []
values_given s shows (i ∷ is) = fields.put (record { name = i.0; value = value_given (given s shows i) }) (values_given s shows is)

abbrev pub first_value : List (Field Value) → Value
first_value [] = Null
first_value (i ∷ is) = i.value

-- what is done at once with this value
abbrev pub done : Value → Evaluated
done x = record { yields = []; cleanups = []; ending = Done x }

-- the evaluation of a body over its inputs' values, the answers and the pulls
abbrev pub run_body : Option BodyOf → List (Field Value) → List Answer → ℕ → Evaluated
run_body None values answers pulls = done Null
run_body (Some (ImportBody name from)) values answers pulls = done (first_value values)
run_body (Some (CellBody cell)) values answers pulls = cell_evaluation cell values answers pulls

abbrev pub body_of : Sheet → ℕ → Option BodyOf
body_of s v = option_then (nth s.rows v) (λ (row : VarRow). row.body)

abbrev pub generates : Option BodyOf → Bool
generates (Some (CellBody cell)) = is_generator cell
generates _ = false

abbrev pub answers_of : Reading → ℕ → List Answer
answers_of r v = from_option [] (λ (s : Start). s.answers) (start_of r v)

-- the evaluation of v, where its inputs show this
abbrev pub evaluation : Reading → (ℕ → Option Outcome) → ℕ → Evaluated
evaluation r shows v =
    run_body (body_of r.sheet v) (values_given r.sheet shows (inputs r.sheet v)) (answers_of r v) (pulls_of r v)

-- the error that decides before any evaluation
abbrev pub deciding_error : Reading → (ℕ → Option Outcome) → ℕ → Option CellError
deciding_error r shows v = or_else (marked_error r.sheet v) (first_error (map (given r.sheet shows) (inputs r.sheet v)))

-- ---- the next entry of a ready variable

abbrev pub last_or_null : List Value → Value
last_or_null [] = Null
last_or_null (x ∷ []) = x
last_or_null (x ∷ y ∷ more) = last_or_null (y ∷ more)

-- what an evaluation gives, at ticket number t, of a generator or not, and at a first pull or a later one
abbrev pub entry_of : ℕ → ℕ → Bool → Bool → Evaluated → Ending → Entry
entry_of t v generator first end (Needs key) = Asked v t key
entry_of t v generator first end (Failed e) = Rejected v e
entry_of t v generator first end Paused = Fulfilled v (last_or_null end.yields)
entry_of t v false first end (Done x) = Fulfilled v x
entry_of t v true true end (Done x) = Fulfilled v Null
entry_of t v true false end (Done x) = Ended v

abbrev pub evaluated : Reading → ℕ → Entry
evaluated r v =
    let end = evaluation r (shown r) v in
    entry_of (length r.tickets + 1) v (generates (body_of r.sheet v)) (pulls_of r v == 1) end end.ending

abbrev pub next : Reading → ℕ → Entry
next r v = from_option (evaluated r v) (λ e. Rejected v e) (deciding_error r (shown r) v)

-- ---- what a variable would show

abbrev pub outcome_of : Bool → List Value → Ending → Option Outcome
outcome_of generator yields (Failed e) = Some (Fails e)
outcome_of true (x ∷ yields) _ = Some (Shows (last_or_null (x ∷ yields)))
outcome_of true [] (Done x) = Some (Shows Null)
outcome_of true [] _ = None
outcome_of false yields (Done x) = Some (Shows x)
outcome_of false yields _ = None

abbrev pub evaluated_outcome : Reading → (ℕ → Option Outcome) → ℕ → Option Outcome
evaluated_outcome r shows v =
    let end = evaluation r shows v in outcome_of (generates (body_of r.sheet v)) end.yields end.ending

-- an input that is a variable shows nothing
abbrev pub waits : Reading → (ℕ → Option Outcome) → ℕ → Bool
waits r shows v = list_any (λ u. not (is_some (shows u))) (direct r.sheet v)

-- past the marks: nothing while an input waits, then the first failing input's error, then the evaluation
abbrev pub unmarked_value : Bool → Option CellError → Option Outcome → Option Outcome
unmarked_value true error outcome = None
unmarked_value false (Some e) outcome = Some (Fails e)
unmarked_value false None outcome = outcome

-- what v shows by its present answers and pulls, where its inputs show this; none is `waiting`
abbrev pub local_value : Reading → (ℕ → Option Outcome) → ℕ → Option Outcome
local_value r shows v =
    from_option
    (unmarked_value (waits r shows v) (first_error (map (given r.sheet shows) (inputs r.sheet v))) (evaluated_outcome r shows v))
    (λ e. Some (Fails e))
    (marked_error r.sheet v)

-- the same from scratch, through at most n names: a chain of names is no longer, where nothing is circular
abbrev pub scratch_within : Reading → ℕ → ℕ → Option Outcome
scratch_within r zero v = None
scratch_within r (suc n) v = local_value r (scratch_within r n) v

abbrev pub scratch : Reading → ℕ → Option Outcome
scratch r v = scratch_within r (length r.sheet.rows) v
