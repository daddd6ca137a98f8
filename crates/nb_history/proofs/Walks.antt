-- The serial history of some events, step by step, where each variable's inputs, which of them are generators, and each evaluation are known.
use Rattle.std.specs.Prelude.{ℕ, zero, suc, ◌+◌, ◌≡◌, ◌==◌, refl, Bool, true, false, cond, ◌&&◌, ◌||◌, not, nat_le, List, [], ◌∷◌, map, length, Option, Some, None, is_some, MatchOption, slice_get}
use Rattle.std.specs.List.{list_any, list_all, filter_map}
use Rattle.std.proofs.Common.{ap, sym, ◌∙◌, subst}
use Rattle.std.proofs.lemmas.Option.{none-some}
use Rattle.nb_value.specs.declared.pairs.Field.{Field}
use Rattle.nb_value.specs.declared.value.Value.{Value}
use Rattle.nb_value.specs.declared.outcome.CellError.{CellError}
use Rattle.nb_value.specs.declared.outcome.ErrorKind.TheVariants.{DefinedTwice, Circular}
use Rattle.nb_value.specs.declared.outcome.Outcome.{Outcome}
use Rattle.nb_value.specs.declared.outcome.Outcome.TheVariants.{Value as Shows, Error as Fails}
use Rattle.nb_eval.specs.Evaluation.{Evaluated}
use Rattle.nb_log.specs.Printing.{entry_size}
use Rattle.nb_sheet.specs.declared.row.VarRow.{VarRow}
use Rattle.nb_log.specs.declared.entry.Refusal.{Refusal}
use Rattle.nb_log.specs.declared.entry.Refusal.TheVariants.{Disposed, LogFull}
use Rattle.nb_log.specs.declared.event.Event.{Event}
use Rattle.nb_log.specs.declared.entry.Entry.{Entry}
use Rattle.nb_log.specs.declared.entry.Entry.TheVariants.{Edit as EditEntry, Frame, Settled, Late, Loaded, Refused, Rest, Dispose, Pending, Fulfilled, Rejected, Asked, Ended, Left}
use Rattle.nb_resolve.specs.declared.resolution.Resolution.{Resolution}
use Rattle.nb_sheet.specs.Lists.{Name, nth, numbers, from_option, option_then, or_else}
use Rattle.nb_graph.specs.Needs.{has}
use Rattle.nb_graph.specs.Needs.{all_needed}
use Rattle.nb_sheet.specs.Sheet.{Sheet, empty_sheet}
use Rattle.nb_resolve.specs.Names.{inputs, inputs_of_row, variable_of, duplicate}
use Rattle.nb_history.specs.Needs.{is_defined, is_observed, is_root}
use Rattle.nb_history.specs.Reading.{Reading, Start, Footing, start_of, is_idle, shown, owed, number, renewal, is_full}
use Rattle.nb_history.specs.Rules.{place_of, input_code, same_base, same_footing, is_running, plain_error, name_of, first_error, given, run_body, values_given, body_of, answers_of, pulls_of, entry_of, generates, next, ready}
use Rattle.nb_history.specs.Log.{nothing_yet, after, counted, with_start, change_start, new_start, is_done, asked_ticket, shows_value, pulled, pulled_from, when, event_refusal, first_refusal, admitted, admit}
use Rattle.nb_history.specs.Serial.{least_var, closing, next_of_ready, first_step, serial_within, Todo, outer_step, may_load, loader_ticket}
use Rattle.nb_history.proofs.Histories.{line_first, no_step}

abbrev pub Inputs : Type 0
Inputs = List (Name × Resolution)

-- ---- the rules, by the inputs

module _ (inputs_of : ℕ → Inputs) (generator : ℕ → Bool) where
  abbrev direct_by : ℕ → List ℕ
  direct_by v = filter_map variable_of (inputs_of v)

  abbrev needed_by : Sheet → ℕ → List ℕ
  needed_by s v = all_needed direct_by (numbers s.rows) v

  abbrev circular_by : Sheet → ℕ → Bool
  circular_by s v = has (needed_by s v) v

  abbrev wanted_by : Reading → ℕ → Bool
  wanted_by r v =
      not r.disposed
      && (is_defined r.sheet v && (is_observed r.sheet v || list_any (λ w. is_root r.sheet w && has (needed_by r.sheet w) v) (numbers r.sheet.rows)))

  abbrev leaving_by : Reading → ℕ → Bool
  leaving_by r v = not (wanted_by r v) && not (is_idle (start_of r v))

  abbrev footing_of : Reading → ℕ → Footing
  footing_of r v =
      record {
        place = place_of r.sheet v;
        is_duplicate = duplicate r.sheet v;
        is_circular = circular_by r.sheet v;
        inputs = map input_code (inputs_of v);
        starts = cond (circular_by r.sheet v) [] (map (number r) (direct_by v));
        renewals = cond (circular_by r.sheet v) [] (map (renewal r) (direct_by v));
      }

  abbrev behind_of : Reading → ℕ → Bool
  behind_of r v = from_option true (λ (s : Start). not (same_footing (footing_of r v) s.kept)) (start_of r v)

  abbrev overtaken_by : Reading → ℕ → Bool
  overtaken_by r v =
      from_option false (λ (s : Start). same_base (footing_of r v) s.kept && not (same_footing (footing_of r v) s.kept)) (start_of r v)

  abbrev pulling_by : Reading → ℕ → Bool
  pulling_by r v = is_running r v && not (behind_of r v) && nat_le 2 (pulls_of r v)

  abbrev held_by : Reading → ℕ → Bool
  held_by r v = list_any (pulling_by r) (numbers r.sheet.rows) && (overtaken_by r v || list_any (overtaken_by r) (needed_by r.sheet v))

  abbrev due_by : Reading → ℕ → Bool
  due_by r v = wanted_by r v && behind_of r v && not (held_by r v)

  abbrev may_start_by : Reading → ℕ → Bool
  may_start_by r v = due_by r v && (circular_by r.sheet v || not (list_any (due_by r) (needed_by r.sheet v)))

  abbrev ready_by : Reading → ℕ → Bool
  ready_by r v =
      is_running r v && not (behind_of r v)
      && (duplicate r.sheet v || circular_by r.sheet v || list_all (λ u. is_some (shown r u)) (direct_by v))

  abbrev closing_by : Reading → Option Entry
  closing_by r =
      or_else (option_then (least_var r (leaving_by r)) (λ v. Some (Left v (owed r v))))
      (option_then (least_var r (may_start_by r)) (λ v. Some (Pending v (owed r v))))

  abbrev decided_by : Reading → ℕ → Option CellError
  decided_by r v =
      or_else
      (cond (duplicate r.sheet v) (Some (plain_error DefinedTwice (name_of r.sheet v)))
      (cond (circular_by r.sheet v) (Some (plain_error Circular (name_of r.sheet v))) None))
      (first_error (map (given r.sheet (shown r)) (inputs_of v)))

  abbrev evaluated_by : Reading → ℕ → Evaluated
  evaluated_by r v = run_body (body_of r.sheet v) (values_given r.sheet (shown r) (inputs_of v)) (answers_of r v) (pulls_of r v)

  -- the next entry of a ready v, where its evaluation gives this
  abbrev next_by : Reading → ℕ → Evaluated → Entry
  next_by r v end =
      from_option (entry_of (length r.tickets + 1) v (generator v) (pulls_of r v == 1) end end.ending) (λ e. Rejected v e) (decided_by r v)

  abbrev showing_by : Reading → ℕ → Evaluated → Outcome → Start → Start
  showing_by r v end x s =
      record s {
        shown = Some x;
        running = false;
        ended = s.ended || (not (is_some (decided_by r v)) && generator v && is_done end.ending);
        owed = cond (is_some (decided_by r v)) [] end.cleanups;
        renewal = cond (nat_le 2 s.pulls) (r.entries + 1) s.renewal;
      }

  abbrev asking_by : Reading → ℕ → Evaluated → ℕ → Start → Start
  asking_by r v end t s = record s { ticket = Some t; running = false; owed = cond (is_some (decided_by r v)) [] end.cleanups }

  abbrev ending_by : Reading → ℕ → Evaluated → Start → Start
  ending_by r v end s = record s { running = false; ended = true; owed = cond (is_some (decided_by r v)) [] end.cleanups }

  abbrev pulled_by : ℕ → Option Start → Option Start
  pulled_by v None = None
  pulled_by v (Some s) =
      cond (generator v && shows_value s.shown && not s.ended && not s.running && not (is_some s.ticket))
      (Some (record s { pulls = s.pulls + 1; running = true })) (Some s)

  abbrev all_pulled_by : ℕ → List (Option Start) → List (Option Start)
  all_pulled_by v [] = []
  all_pulled_by v (s ∷ starts) = pulled_by v s ∷ all_pulled_by (v + 1) starts

  -- what is known of an evaluation, or the evaluation itself
  abbrev known : Option Evaluated → Evaluated → Evaluated
  known o end = from_option end (λ x. x) o

  abbrev end_by : Reading → ℕ → Option Evaluated → Evaluated
  end_by r v o = known o (evaluated_by r v)

  abbrev pub step_by : Reading → Option Evaluated → Option Entry
  step_by r o = or_else (closing_by r) (option_then (least_var r (ready_by r)) (λ v. Some (next_by r v (end_by r v o))))

  abbrev pub after_by : Reading → Option Evaluated → Entry → Reading
  after_by r o (Pending v d) = counted (with_start r v (Some (new_start (r.entries + 1) (footing_of r v)))) (entry_size (Pending v d))
  after_by r o (Left v d) = counted (with_start r v None) (entry_size (Left v d))
  after_by r o (Fulfilled v x) = counted (change_start r v (showing_by r v (end_by r v o) (Shows x))) (entry_size (Fulfilled v x))
  after_by r o (Rejected v e) = counted (change_start r v (showing_by r v (end_by r v o) (Fails e))) (entry_size (Rejected v e))
  after_by r o (Asked v t key) = counted (asked_ticket (change_start r v (asking_by r v (end_by r v o) t)) v key) (entry_size (Asked v t key))
  after_by r o (Ended v) = counted (change_start r v (ending_by r v (end_by r v o))) (entry_size (Ended v))
  after_by r o (Frame editor) = counted (record r { starts = all_pulled_by 1 r.starts }) (entry_size (Frame editor))
  after_by r o e = after r e

  -- the evaluation is as is known
  abbrev pub IsKnown : Reading → Option Evaluated → ℕ → Type 0
  IsKnown r o v = MatchOption o (Unit {0}) (λ end. evaluated_by r v ≡ end)

  abbrev pub IsKnownAt : Reading → Option Evaluated → Entry → Type 0
  IsKnownAt r o (Fulfilled v x) = IsKnown r o v
  IsKnownAt r o (Rejected v e) = IsKnown r o v
  IsKnownAt r o (Asked v t key) = IsKnown r o v
  IsKnownAt r o (Ended v) = IsKnown r o v
  IsKnownAt r o e = Unit {0}

  abbrev pub IsKnownOfReady : Reading → Option Evaluated → Type 0
  IsKnownOfReady r o = MatchOption (least_var r (ready_by r)) (Unit {0}) (IsKnown r o)

  same_end : (r : Reading) (v : ℕ) (o : Option Evaluated) → IsKnown r o v → evaluated_by r v ≡ end_by r v o
  same_end r v None h = refl
  same_end r v (Some x) h = h

-- ---- they are the rules

abbrev pub generators : Sheet → ℕ → Bool
generators s v = generates (body_of s v)

closing_is : (r : Reading) → closing_by (inputs r.sheet) (generators r.sheet) r ≡ closing r
closing_is r = refl

next_is : (r : Reading) (v : ℕ) → next_by (inputs r.sheet) (generators r.sheet) r v (evaluated_by (inputs r.sheet) (generators r.sheet) r v) ≡ next r v
next_is r v = refl

pulled_is : (r : Reading) (v : ℕ) (s : Option Start) → pulled_by (inputs r.sheet) (generators r.sheet) v s ≡ pulled r v s
pulled_is r v None = refl
pulled_is r v (Some s) = refl

all_pulled_is : (r : Reading) (v : ℕ) (xs : List (Option Start)) → all_pulled_by (inputs r.sheet) (generators r.sheet) v xs ≡ pulled_from r v xs
all_pulled_is r v [] = refl
all_pulled_is r v (x ∷ xs) =
    ap (λ (y : Option Start). y ∷ all_pulled_by (inputs r.sheet) (generators r.sheet) (v + 1) xs) (pulled_is r v x)
    ∙ ap (λ (ys : List (Option Start)). pulled r v x ∷ ys) (all_pulled_is r (v + 1) xs)

pub after_is : (r : Reading) (e : Entry) → after_by (inputs r.sheet) (generators r.sheet) r None e ≡ after r e
after_is r (Pending v d) = refl
after_is r (Left v d) = refl
after_is r (Fulfilled v x) = refl
after_is r (Rejected v e) = refl
after_is r (EditEntry editor edit) = refl
after_is r (Frame editor) = ap (λ (xs : List (Option Start)). counted (record r { starts = xs }) (entry_size (Frame editor))) (all_pulled_is r 1 r.starts)
after_is r (Settled editor t a) = refl
after_is r (Late editor t) = refl
after_is r (Loaded t a) = refl
after_is r (Refused editor reason event) = refl
after_is r (Rest editor) = refl
after_is r (Dispose editor) = refl
after_is r (Asked v t key) = refl
after_is r (Ended v) = refl

module _ (r : Reading) where
  abbrev end_of : ℕ → Option Evaluated → Evaluated
  end_of v o = end_by (inputs r.sheet) (generators r.sheet) r v o

  pub step_is : (o : Option Evaluated) → IsKnownOfReady (inputs r.sheet) (generators r.sheet) r o → step_by (inputs r.sheet) (generators r.sheet) r o ≡ or_else (closing r) (next_of_ready r)
  step_is o h = ap (or_else (closing r)) (go (least_var r (ready r)) h)
    where
      go : (w : Option ℕ) → MatchOption w (Unit {0}) (IsKnown (inputs r.sheet) (generators r.sheet) r o)
          → option_then w (λ v. Some (next_by (inputs r.sheet) (generators r.sheet) r v (end_of v o))) ≡ option_then w (λ v. Some (next r v))
      go None k = refl
      go (Some v) k = ap (λ x. Some (next_by (inputs r.sheet) (generators r.sheet) r v x)) (sym (same_end (inputs r.sheet) (generators r.sheet) r v o k))

  pub after_known : (o : Option Evaluated) (e : Entry) → IsKnownAt (inputs r.sheet) (generators r.sheet) r o e → after_by (inputs r.sheet) (generators r.sheet) r o e ≡ after r e
  after_known o (Fulfilled v x) h = ap (λ end. counted (change_start r v (showing_by (inputs r.sheet) (generators r.sheet) r v end (Shows x))) (entry_size (Fulfilled v x))) (sym (same_end (inputs r.sheet) (generators r.sheet) r v o h))
  after_known o (Rejected v e) h = ap (λ end. counted (change_start r v (showing_by (inputs r.sheet) (generators r.sheet) r v end (Fails e))) (entry_size (Rejected v e))) (sym (same_end (inputs r.sheet) (generators r.sheet) r v o h))
  after_known o (Asked v t key) h = ap (λ end. counted (asked_ticket (change_start r v (asking_by (inputs r.sheet) (generators r.sheet) r v end t)) v key) (entry_size (Asked v t key))) (sym (same_end (inputs r.sheet) (generators r.sheet) r v o h))
  after_known o (Ended v) h = ap (λ end. counted (change_start r v (ending_by (inputs r.sheet) (generators r.sheet) r v end)) (entry_size (Ended v))) (sym (same_end (inputs r.sheet) (generators r.sheet) r v o h))
  after_known o (Pending v d) h = refl
  after_known o (Left v d) h = refl
  after_known o (Frame editor) h = after_is r (Frame editor)
  after_known o (EditEntry editor edit) h = refl
  after_known o (Settled editor t a) h = refl
  after_known o (Late editor t) h = refl
  after_known o (Loaded t a) h = refl
  after_known o (Refused editor reason event) h = refl
  after_known o (Rest editor) h = refl
  after_known o (Dispose editor) h = refl

  nothing_known : (w : Option ℕ) → MatchOption w (Unit {0}) (λ v. Unit {0})
  nothing_known None = tt
  nothing_known (Some v) = tt

  parts : (a : Option Entry) (w : Option ℕ) → or_else a (option_then w (λ v. Some (next r v))) ≡ None → (a ≡ None) × (w ≡ None)
  parts None None h = (refl, refl)
  parts None (Some v) h = absurd (none-some (next r v) (sym h))
  parts (Some e) w h = absurd (none-some e (sym h))

  pub nothing_first : step_by (inputs r.sheet) (generators r.sheet) r None ≡ None → (closing r ≡ None) × (least_var r (ready r) ≡ None)
  nothing_first h = parts (closing r) (least_var r (ready r)) (sym (step_is None (nothing_known (least_var r (ready r)))) ∙ h)

-- what the rules say of what is known they say of what there is
pub told_of : (is : ℕ → Inputs) (gs : ℕ → Bool) (r : Reading) → inputs r.sheet ≡ is → generators r.sheet ≡ gs → (P : (ℕ → Inputs) → (ℕ → Bool) → Type 0) → P is gs → P (inputs r.sheet) (generators r.sheet)
told_of is gs r p q P h = subst (λ (j : ℕ → Inputs). P j (generators r.sheet)) (sym p) (subst (λ (g : ℕ → Bool). P is g) (sym q) h)

pub of_told : (is : ℕ → Inputs) (gs : ℕ → Bool) (r : Reading) → inputs r.sheet ≡ is → generators r.sheet ≡ gs → (P : (ℕ → Inputs) → (ℕ → Bool) → Type 0) → P (inputs r.sheet) (generators r.sheet) → P is gs
of_told is gs r p q P h = subst (λ (g : ℕ → Bool). P is g) q (subst (λ (j : ℕ → Inputs). P j (generators r.sheet)) p h)

-- ---- steps between two events

-- an entry, with what is known of the evaluation that it comes of
abbrev pub Walked : Type 0
Walked = Entry × Option Evaluated

-- each is the first possible entry
abbrev pub IsWalk : (ℕ → Inputs) → (ℕ → Bool) → Reading → List Walked → Type 0
IsWalk is gs r [] = Unit {0}
IsWalk is gs r (s ∷ ss) =
    (step_by is gs r s.1 ≡ Some s.0) × IsKnownOfReady is gs r s.1 × IsKnownAt is gs r s.1 s.0 × ((after_by is gs r s.1 s.0).sheet ≡ r.sheet)
    × IsWalk is gs (after_by is gs r s.1 s.0) ss

abbrev pub left_by : (ℕ → Inputs) → (ℕ → Bool) → Reading → List Walked → Reading
left_by is gs r [] = r
left_by is gs r (s ∷ ss) = left_by is gs (after_by is gs r s.1 s.0) ss

abbrev pub fuel : List Walked → ℕ → ℕ
fuel [] n = n
fuel (s ∷ ss) n = suc (fuel ss n)

abbrev pub entries : List Walked → List Entry → List Entry
entries [] es = es
entries (s ∷ ss) es = s.0 ∷ entries ss es

walks : (is : ℕ → Inputs) (gs : ℕ → Bool) (ss : List Walked) (r : Reading) (todo : Todo) (n : ℕ) → inputs r.sheet ≡ is → generators r.sheet ≡ gs → IsWalk is gs r ss
    → serial_within [] (fuel ss n) r todo ≡ entries ss (serial_within [] n (left_by is gs r ss) todo)
walks is gs [] r todo n p q h = refl
walks is gs (s ∷ ss) r todo n p q h =
    let first : or_else (closing r) (next_of_ready r) ≡ Some s.0
    = of_told is gs r p q (λ j g. IsKnownOfReady j g r s.1 → step_by j g r s.1 ≡ Some s.0 → or_else (closing r) (next_of_ready r) ≡ Some s.0) (λ k e. sym (step_is r s.1 k) ∙ e) h.1 h.0 in
    let next_reading : after_by is gs r s.1 s.0 ≡ after r s.0
    = of_told is gs r p q (λ j g. IsKnownAt j g r s.1 s.0 → after_by j g r s.1 s.0 ≡ after r s.0) (after_known r s.1 s.0) h.2 in
    let step : first_step [] r todo ≡ Some (s.0, todo)
    = ap (λ (x : Option Entry). or_else (option_then x (λ e. Some (e, todo))) (outer_step r todo (cond (may_load r) (loader_ticket r []) None))) first in
    ap (from_option [] (λ (q : Entry × Todo). q.0 ∷ serial_within [] (fuel ss n) (after r q.0) q.1)) step
    ∙ ap (λ (q : Reading). s.0 ∷ serial_within [] (fuel ss n) q todo) (sym next_reading)
    ∙ ap (λ (es : List Entry). s.0 ∷ es) (walks is gs ss (after_by is gs r s.1 s.0) todo n (ap inputs h.3 ∙ p) (ap generators h.3 ∙ q) h.4)

pub same_sheet : (is : ℕ → Inputs) (gs : ℕ → Bool) (ss : List Walked) (r : Reading) → IsWalk is gs r ss → (left_by is gs r ss).sheet ≡ r.sheet
same_sheet is gs [] r h = refl
same_sheet is gs (s ∷ ss) r h = same_sheet is gs ss (after_by is gs r s.1 s.0) h.4 ∙ h.3

-- ---- events, each with the steps that follow

-- an event, with what it gives where it isn't refused, whether the runtime is disposed, and the refusal; then the inputs
-- of each variable of the sheet, whether it is a generator, and the steps
pub record Phase : Type 0 where
  pub event : Event
  pub admitted : Entry
  pub disposed : Bool
  pub refusal : Option Refusal
  pub inputs_now : List Inputs
  pub generators_now : List Bool
  pub steps : List Walked

-- its entry
abbrev pub entry_of_phase : Phase → Entry
entry_of_phase p = from_option p.admitted (λ reason. Refused 0 reason p.event) p.refusal

abbrev pub inputs_in : List Inputs → ℕ → Inputs
inputs_in is v = from_option [] (λ (x : Inputs). x) (nth is v)

abbrev pub generators_in : List Bool → ℕ → Bool
generators_in gs v = from_option false (λ (x : Bool). x) (nth gs v)

get_map : {A : Type 0} (d : A) (f : VarRow → A) (xs : List VarRow) (i : ℕ) → from_option d f (slice_get xs i) ≡ from_option d (λ (x : A). x) (slice_get (map f xs) i)
get_map d f [] i = refl
get_map d f (x ∷ xs) zero = refl
get_map d f (x ∷ xs) (suc i) = get_map d f xs i

nth_map : {A : Type 0} (d : A) (f : VarRow → A) (xs : List VarRow) (v : ℕ) → from_option d f (nth xs v) ≡ from_option d (λ (x : A). x) (nth (map f xs) v)
nth_map d f xs zero = refl
nth_map d f xs (suc i) = get_map d f xs i

pub inputs_are : (s : Sheet) (is : List Inputs) → map (inputs_of_row s) s.rows ≡ is → inputs s ≡ inputs_in is
inputs_are s is h = λ i v. (nth_map [] (inputs_of_row s) s.rows v ∙ ap (λ (x : List Inputs). inputs_in x v) h) i

abbrev pub row_generates : VarRow → Bool
row_generates row = generates row.body

of_row : (o : Option VarRow) → generates (option_then o (λ (row : VarRow). row.body)) ≡ from_option false row_generates o
of_row None = refl
of_row (Some row) = refl

pub generators_are : (s : Sheet) (gs : List Bool) → map row_generates s.rows ≡ gs → generators s ≡ generators_in gs
generators_are s gs h = λ i v. (of_row (nth s.rows v) ∙ nth_map false row_generates s.rows v ∙ ap (λ (x : List Bool). generators_in x v) h) i

abbrev pub after_event : (ℕ → Inputs) → (ℕ → Bool) → Reading → Phase → Reading
after_event is gs r p = after_by is gs r None (entry_of_phase p)

pub admits : (r : Reading) (p : Phase) → r.disposed ≡ p.disposed → is_full r ≡ false → or_else (when p.disposed Disposed) (event_refusal r p.event) ≡ p.refusal → admitted r 0 p.event ≡ p.admitted
    → admit r 0 p.event ≡ entry_of_phase p
admits r p d f h k =
    let refused : first_refusal r p.event ≡ p.refusal
    = ap (λ (b : Bool). or_else (when b Disposed) (or_else (when (is_full r) LogFull) (event_refusal r p.event))) d
    ∙ ap (λ (b : Bool). or_else (when p.disposed Disposed) (or_else (when b LogFull) (event_refusal r p.event))) f
    ∙ h in
    ap (λ (o : Option Refusal). from_option (admitted r 0 p.event) (λ reason. Refused 0 reason p.event) o) refused
    ∙ ap (λ (e : Entry). from_option e (λ reason. Refused 0 reason p.event) p.refusal) k

-- each event gives its entry where no step may come, and its steps follow
abbrev pub IsTold : (ℕ → Inputs) → (ℕ → Bool) → Reading → List Phase → Type 0
IsTold is gs r [] = step_by is gs r None ≡ None
IsTold is gs r (p ∷ ps) =
    (step_by is gs r None ≡ None) × (r.disposed ≡ p.disposed) × (is_full r ≡ false)
    × (or_else (when p.disposed Disposed) (event_refusal r p.event) ≡ p.refusal) × (admitted r 0 p.event ≡ p.admitted)
    × (map (inputs_of_row (after_event is gs r p).sheet) (after_event is gs r p).sheet.rows ≡ p.inputs_now)
    × (map row_generates (after_event is gs r p).sheet.rows ≡ p.generators_now)
    × IsWalk (inputs_in p.inputs_now) (generators_in p.generators_now) (after_event is gs r p) p.steps
    × IsTold (inputs_in p.inputs_now) (generators_in p.generators_now) (left_by (inputs_in p.inputs_now) (generators_in p.generators_now) (after_event is gs r p) p.steps) ps

-- enough for each entry, and one more
abbrev pub fuel_of : List Phase → ℕ
fuel_of [] = 1
fuel_of (p ∷ ps) = suc (fuel p.steps (fuel_of ps))

abbrev pub lines_of : List Phase → List (ℕ × Event)
lines_of [] = []
lines_of (p ∷ ps) = (0, p.event) ∷ lines_of ps

abbrev pub entries_of : List Phase → List Entry
entries_of [] = []
entries_of (p ∷ ps) = entry_of_phase p ∷ entries p.steps (entries_of ps)

abbrev pub serial_from : ℕ → Reading → List (ℕ × Event) → List Entry
serial_from n r lines = serial_within [] n r (record { lines = lines; answers = [] })

told : (is : ℕ → Inputs) (gs : ℕ → Bool) (ps : List Phase) (r : Reading) → inputs r.sheet ≡ is → generators r.sheet ≡ gs → IsTold is gs r ps → serial_from (fuel_of ps) r (lines_of ps) ≡ entries_of ps
told is gs [] r same same_gs h =
    let none : (closing r ≡ None) × (least_var r (ready r) ≡ None)
    = nothing_first r (told_of is gs r same same_gs (λ j g. step_by j g r None ≡ None) h) in
    ap (from_option [] (λ (q : Entry × Todo). q.0 ∷ serial_within [] 0 (after r q.0) q.1)) (no_step r [] none.0 none.1)
told is gs (p ∷ ps) r same same_gs h =
    let none : (closing r ≡ None) × (least_var r (ready r) ≡ None)
    = nothing_first r (told_of is gs r same same_gs (λ j g. step_by j g r None ≡ None) h.0) in
    let n = fuel p.steps (fuel_of ps) in
    let js = inputs_in p.inputs_now in
    let hs = generators_in p.generators_now in
    let e : Entry = entry_of_phase p in
    let q : Reading = after_event is gs r p in
    let next_reading : q ≡ after r e = of_told is gs r same same_gs (λ j g. after_by j g r None e ≡ after r e) (after_is r e) in
    let here : inputs q.sheet ≡ js = inputs_are q.sheet p.inputs_now h.5 in
    let here_gs : generators q.sheet ≡ hs = generators_are q.sheet p.generators_now h.6 in
    let todo : Todo = record { lines = lines_of ps; answers = [] } in
    ap (from_option [] (λ (x : Entry × Todo). x.0 ∷ serial_within [] n (after r x.0) x.1)) (line_first r (0, p.event) (lines_of ps) [] none.0 none.1)
    ∙ ap (λ (e : Entry). e ∷ serial_within [] n (after r e) todo) (admits r p h.1 h.2 h.3 h.4)
    ∙ ap (λ (x : Reading). e ∷ serial_within [] n x todo) (sym next_reading)
    ∙ ap (λ (es : List Entry). e ∷ es) (walks js hs p.steps q todo (fuel_of ps) here here_gs h.7)
    ∙ ap (λ (es : List Entry). e ∷ entries p.steps es) (told js hs ps (left_by js hs q p.steps) (ap inputs (same_sheet js hs p.steps q h.7) ∙ here) (ap generators (same_sheet js hs p.steps q h.7) ∙ here_gs) h.8)

-- the serial history of the events, from nothing
pub is_serial : (builtins : List (Field Value)) (ps : List Phase) → IsTold (inputs_in []) (generators_in []) (nothing_yet builtins) ps
    → serial_from (fuel_of ps) (nothing_yet builtins) (lines_of ps) ≡ entries_of ps
is_serial builtins ps h = told (inputs_in []) (generators_in []) ps (nothing_yet builtins) (inputs_are (empty_sheet builtins) [] refl) (generators_are (empty_sheet builtins) [] refl) h
