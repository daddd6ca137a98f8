-- A worked history with a loader: its run comes before the end, and a log without it is no serial history.
use Rattle.std.specs.Prelude.{ℕ, ◌≡◌, refl, Bool, true, false, cond, List, [], ◌∷◌, ◌++◌, map, Option, Some, None, codes}
use Rattle.std.specs.Fmt.{digits}
use Rattle.std.proofs.Common.{ap, sym, ◌∙◌, subst}
use Rattle.std.proofs.lemmas.Option.{none-some}
use Rattle.nb_value.specs.declared.outcome.Answer.{Answer}
use Rattle.nb_eval.specs.declared.given.Ending.TheVariants.{Needs}
use Rattle.nb_sheet.specs.Lists.{Name, or_else, option_then}
use Rattle.nb_sheet.specs.Sheet.{empty_sheet}
use Rattle.nb_resolve.specs.Names.{inputs, inputs_of_row}
use Rattle.nb_log.specs.declared.entry.Refusal.TheVariants.{Disposed}
use Rattle.nb_log.specs.declared.event.Event.{Event}
use Rattle.nb_log.specs.declared.event.Event.TheVariants.{Edit as EditEvent}
use Rattle.nb_log.specs.declared.entry.Entry.{Entry}
use Rattle.nb_log.specs.declared.entry.Entry.TheVariants.{Loaded}
use Rattle.nb_history.specs.Reading.{Reading, is_full}
use Rattle.nb_history.specs.Rules.{ready}
use Rattle.nb_history.specs.Log.{nothing_yet, after, read_from, admit, admitted, event_refusal, when}
use Rattle.nb_history.specs.Serial.{least_var, closing, next_of_ready, Todo, loader_ticket, may_load, outer_step, to_load, first_step, SerialFrom, IsSerial}
use Rattle.nb_history.proofs.Histories.{read_append, serial_append}
use Rattle.nb_history.proofs.Cells.{gives, size_add, size_pending}
use Rattle.nb_history.proofs.Blocks.{fold_quoted, fold_fetch, size_asked}
use Rattle.nb_history.proofs.Rows.{edited, pend, shows}
use Rattle.nb_history.proofs.Frames.{yields, told, given, edit_phase, x_cell, asks, answer, x_asks, x_is_5}
use Rattle.nb_history.proofs.Walks.{Inputs, Walked, Phase, IsWalk, IsKnownOfReady, IsKnownAt, step_by, after_by, left_by, generators, after_is, step_is, after_known, nothing_first, told_of, of_told, inputs_are, generators_are, inputs_in, generators_in, row_generates, same_sheet, entry_of_phase, after_event, admits}

abbrev to_come : List (ℕ × Event) → List Answer → Todo
to_come lines answers = record { lines = lines; answers = answers }

-- ---- the steps of variables, whatever is still to come

abbrev taken : List Walked → List Entry
taken ss = map (λ (s : Walked). s.0) ss

-- where the steps lead
record Leads (keys : List Name) (r : Reading) (todo : Todo) (ss : List Walked) (q : Reading) : Type 0 where
  serial : SerialFrom keys r todo (taken ss) todo
  reads : read_from r (taken ss) ≡ q

leads : (keys : List Name) (is : ℕ → Inputs) (gs : ℕ → Bool) (ss : List Walked) (r : Reading) (todo : Todo) → inputs r.sheet ≡ is → generators r.sheet ≡ gs → IsWalk is gs r ss
    → Leads keys r todo ss (left_by is gs r ss)
leads keys is gs [] r todo p q h = record { serial = refl; reads = refl }
leads keys is gs (s ∷ ss) r todo p q h =
    let first : or_else (closing r) (next_of_ready r) ≡ Some s.0
    = of_told is gs r p q (λ j g. IsKnownOfReady j g r s.1 → step_by j g r s.1 ≡ Some s.0 → or_else (closing r) (next_of_ready r) ≡ Some s.0) (λ k e. sym (step_is r s.1 k) ∙ e) h.1 h.0 in
    let here : after_by is gs r s.1 s.0 ≡ after r s.0
    = of_told is gs r p q (λ j g. IsKnownAt j g r s.1 s.0 → after_by j g r s.1 s.0 ≡ after r s.0) (after_known r s.1 s.0) h.2 in
    let step : first_step keys r todo ≡ Some (s.0, todo) = ap (λ (x : Option Entry). or_else (option_then x (λ e. Some (e, todo))) (outer_step r todo (to_load keys r))) first in
    let rest : Leads keys (after_by is gs r s.1 s.0) todo ss (left_by is gs (after_by is gs r s.1 s.0) ss) = leads keys is gs ss (after_by is gs r s.1 s.0) todo (ap inputs h.3 ∙ p) (ap generators h.3 ∙ q) h.4 in
    record {
      serial = (todo, step, subst (λ (x : Reading). SerialFrom keys x todo (taken ss) todo) here rest.serial);
      reads = ap (λ (x : Reading). read_from x (taken ss)) (sym here) ∙ rest.reads;
    }

-- ---- a line or the run of a loader, and the steps after it

data Outer : Type 0 where
  Line : (phase : Phase) → Outer
  Run : (ticket : ℕ) → (answer : Answer) → (steps : List Walked) → Outer

abbrev lines_of : List Outer → List (ℕ × Event)
lines_of [] = []
lines_of (Line p ∷ os) = (0, p.event) ∷ lines_of os
lines_of (Run t a ss ∷ os) = lines_of os

abbrev answers_of : List Outer → List Answer
answers_of [] = []
answers_of (Line p ∷ os) = answers_of os
answers_of (Run t a ss ∷ os) = a ∷ answers_of os

abbrev entries_of : List Outer → List Entry
entries_of [] = []
entries_of (Line p ∷ os) = entry_of_phase p ∷ (taken p.steps ++ entries_of os)
entries_of (Run t a ss ∷ os) = Loaded t a ∷ (taken ss ++ entries_of os)

-- each comes where no step may, and a line where no loader is to be run; in the end no live ticket has a loader
abbrev IsTold : List Name → (ℕ → Inputs) → (ℕ → Bool) → Reading → List Outer → Type 0
IsTold keys is gs r [] = (step_by is gs r None ≡ None) × (loader_ticket r keys ≡ None)
IsTold keys is gs r (Line p ∷ os) =
    (step_by is gs r None ≡ None) × (to_load keys r ≡ None) × (r.disposed ≡ p.disposed) × (is_full r ≡ false)
    × (or_else (when p.disposed Disposed) (event_refusal r p.event) ≡ p.refusal) × (admitted r 0 p.event ≡ p.admitted)
    × (map (inputs_of_row (after_event is gs r p).sheet) (after_event is gs r p).sheet.rows ≡ p.inputs_now)
    × (map row_generates (after_event is gs r p).sheet.rows ≡ p.generators_now)
    × IsWalk (inputs_in p.inputs_now) (generators_in p.generators_now) (after_event is gs r p) p.steps
    × IsTold keys (inputs_in p.inputs_now) (generators_in p.generators_now) (left_by (inputs_in p.inputs_now) (generators_in p.generators_now) (after_event is gs r p) p.steps) os
IsTold keys is gs r (Run t a ss ∷ os) =
    (step_by is gs r None ≡ None) × (to_load keys r ≡ Some t) × IsWalk is gs (after r (Loaded t a)) ss × IsTold keys is gs (left_by is gs (after r (Loaded t a)) ss) os

record Told (keys : List Name) (r : Reading) (os : List Outer) : Type 0 where
  steps : SerialFrom keys r (to_come (lines_of os) (answers_of os)) (entries_of os) (to_come [] [])
  ends : first_step keys (read_from r (entries_of os)) (to_come [] []) ≡ None
  loaded : to_load keys (read_from r (entries_of os)) ≡ None

-- an outer entry, the steps after it, and what is told from there
then : (keys : List Name) (r : Reading) (e : Entry) (ss : List Walked) (os : List Outer) (todo : Todo) (q : Reading) → first_step keys r todo ≡ Some (e, to_come (lines_of os) (answers_of os))
    → Leads keys (after r e) (to_come (lines_of os) (answers_of os)) ss q → Told keys q os
    → (SerialFrom keys r todo (e ∷ (taken ss ++ entries_of os)) (to_come [] []))
    × (first_step keys (read_from (after r e) (taken ss ++ entries_of os)) (to_come [] []) ≡ None)
    × (to_load keys (read_from (after r e) (taken ss ++ entries_of os)) ≡ None)
then keys r e ss os todo q first way rest =
    let mid : Todo = to_come (lines_of os) (answers_of os) in
    let reads : read_from (after r e) (taken ss ++ entries_of os) ≡ read_from q (entries_of os)
    = read_append (after r e) (taken ss) (entries_of os) ∙ ap (λ (x : Reading). read_from x (entries_of os)) way.reads in (
      (
        mid,
        first,
        serial_append keys (after r e) mid mid (to_come [] []) (taken ss) (entries_of os) way.serial
            (subst (λ (x : Reading). SerialFrom keys x mid (entries_of os) (to_come [] [])) (sym way.reads) rest.steps),
      ),
      ap (λ (x : Reading). first_step keys x (to_come [] [])) reads ∙ rest.ends,
      ap (to_load keys) reads ∙ rest.loaded,
    )

-- where no step of a variable may come
outer_first : (keys : List Name) (r : Reading) (todo : Todo) (o : Option ℕ) → (closing r ≡ None) × (least_var r (ready r) ≡ None) → to_load keys r ≡ o → first_step keys r todo ≡ outer_step r todo o
outer_first keys r todo o none h =
    let closed : closing r ≡ None = none.0 in
    let done : least_var r (ready r) ≡ None = none.1 in
    rw (closed, done) (ap (outer_step r todo) h)

none_to_load : (keys : List Name) (r : Reading) → loader_ticket r keys ≡ None → to_load keys r ≡ None
none_to_load keys r h = go (may_load r)
  where
    go : (b : Bool) → cond b (loader_ticket r keys) None ≡ None
    go true = h
    go false = refl

-- the steps after a line
line_leads : (keys : List Name) (is : ℕ → Inputs) (gs : ℕ → Bool) (r : Reading) (l : Phase) (todo : Todo) → inputs r.sheet ≡ is → generators r.sheet ≡ gs
    → map (inputs_of_row (after_event is gs r l).sheet) (after_event is gs r l).sheet.rows ≡ l.inputs_now
    → map row_generates (after_event is gs r l).sheet.rows ≡ l.generators_now
    → IsWalk (inputs_in l.inputs_now) (generators_in l.generators_now) (after_event is gs r l) l.steps
    → Leads keys (after r (entry_of_phase l)) todo l.steps (left_by (inputs_in l.inputs_now) (generators_in l.generators_now) (after_event is gs r l) l.steps)
line_leads keys is gs r l todo p q h k walk =
    let e : Entry = entry_of_phase l in
    let js = inputs_in l.inputs_now in
    let hs = generators_in l.generators_now in
    let x : Reading = after_event is gs r l in
    let there : x ≡ after r e = of_told is gs r p q (λ j g. after_by j g r None e ≡ after r e) (after_is r e) in
    subst (λ (y : Reading). Leads keys y todo l.steps (left_by js hs x l.steps)) there
    (leads keys js hs l.steps x todo (inputs_are x.sheet l.inputs_now h) (generators_are x.sheet l.generators_now k) walk)

tells : (keys : List Name) (is : ℕ → Inputs) (gs : ℕ → Bool) (os : List Outer) (r : Reading) → inputs r.sheet ≡ is → generators r.sheet ≡ gs → IsTold keys is gs r os → Told keys r os
tells keys is gs [] r p q h =
    let none : (closing r ≡ None) × (least_var r (ready r) ≡ None) = nothing_first r (told_of is gs r p q (λ j g. step_by j g r None ≡ None) h.0) in
    let no_load : to_load keys r ≡ None = none_to_load keys r h.1 in
    record { steps = refl; ends = outer_first keys r (to_come [] []) None none no_load; loaded = no_load }
tells keys is gs (Line l ∷ os) r p q h =
    let none : (closing r ≡ None) × (least_var r (ready r) ≡ None) = nothing_first r (told_of is gs r p q (λ j g. step_by j g r None ≡ None) h.0) in
    let e : Entry = entry_of_phase l in
    let js = inputs_in l.inputs_now in
    let hs = generators_in l.generators_now in
    let x : Reading = after_event is gs r l in
    let todo : Todo = to_come ((0, l.event) ∷ lines_of os) (answers_of os) in
    let mid : Todo = to_come (lines_of os) (answers_of os) in
    let line : first_step keys r todo ≡ Some (admit r 0 l.event, mid) = outer_first keys r todo None none h.1 in
    let first : first_step keys r todo ≡ Some (e, mid) = line ∙ ap (λ (y : Entry). Some (y, mid)) (admits r l h.2 h.3 h.4 h.5) in
    let here : inputs x.sheet ≡ js = inputs_are x.sheet l.inputs_now h.6 in
    let here_gs : generators x.sheet ≡ hs = generators_are x.sheet l.generators_now h.7 in
    let way : Leads keys (after r e) mid l.steps (left_by js hs x l.steps) = line_leads keys is gs r l mid p q h.6 h.7 h.8 in
    let same = same_sheet js hs l.steps x h.8 in
    let t = then keys r e l.steps os todo (left_by js hs x l.steps) first way (tells keys js hs os (left_by js hs x l.steps) (ap inputs same ∙ here) (ap generators same ∙ here_gs) h.9) in
    record { steps = t.0; ends = t.1; loaded = t.2 }
tells keys is gs (Run k a ss ∷ os) r p q h =
    let none : (closing r ≡ None) × (least_var r (ready r) ≡ None) = nothing_first r (told_of is gs r p q (λ j g. step_by j g r None ≡ None) h.0) in
    let e : Entry = Loaded k a in
    let todo : Todo = to_come (lines_of os) (a ∷ answers_of os) in
    let mid : Todo = to_come (lines_of os) (answers_of os) in
    let first : first_step keys r todo ≡ Some (e, mid) = outer_first keys r todo (Some k) none h.1 in
    let x : Reading = after r e in
    let same = same_sheet is gs ss x h.2 in
    let t = then keys r e ss os todo (left_by is gs x ss) first (leads keys is gs ss x mid p q h.2) (tells keys is gs os (left_by is gs x ss) (ap inputs same ∙ p) (ap generators same ∙ q) h.3) in
    record { steps = t.0; ends = t.1; loaded = t.2 }

-- ---- a cell that fetches what a loader has

abbrev keys : List Name
keys = codes "k" ∷ []

abbrev asking : Phase
asking = edit_phase x_cell ([] ∷ []) (false ∷ []) (told (pend 1) ∷ given asks (yields [] (Needs (codes "k"))) ∷ [])

abbrev asked : Reading
asked = left_by (inputs_in ([] ∷ [])) (generators_in (false ∷ [])) (after_event (inputs_in []) (generators_in []) (nothing_yet []) asking) asking.steps

no_inputs : inputs (empty_sheet []) ≡ inputs_in []
no_inputs = inputs_are (empty_sheet []) [] refl

no_generators : generators (empty_sheet []) ≡ generators_in []
no_generators = generators_are (empty_sheet []) [] refl

-- its ticket is the one to load
to_load_1 : to_load keys asked ≡ Some 1
unfolding digits
to_load_1 = simp (size_add, size_pending, size_asked, fold_fetch, fold_quoted)

asks_walk : IsWalk (inputs_in ([] ∷ [])) (generators_in (false ∷ [])) (after_event (inputs_in []) (generators_in []) (nothing_yet []) asking) asking.steps
unfolding digits
asks_walk = (refl, tt, tt, refl, (refl, x_asks, x_asks, refl, tt))

pub a_loader_runs_before_the_end : IsSerial [] keys ((0, EditEvent x_cell) ∷ []) (answer 5 ∷ []) (edited x_cell ∷ pend 1 ∷ asks ∷ Loaded 1 (answer 5) ∷ shows 1 5 ∷ [])
unfolding digits
a_loader_runs_before_the_end =
    let os : List Outer = Line asking ∷ Run 1 (answer 5) (given (shows 1 5) (gives 5) ∷ []) ∷ [] in
    let t : Told keys (nothing_yet []) os =
    tells keys (inputs_in []) (generators_in []) os (nothing_yet []) no_inputs no_generators
    (refl, refl, refl, refl, refl, refl, simp (fold_fetch, fold_quoted), refl, asks_walk, (refl, to_load_1, (refl, x_is_5, x_is_5, refl, tt), (refl, refl))) in
    record { steps = t.steps; ends = t.ends; loaded = t.loaded }

-- without that run it isn't over
pub no_end_before_the_loader : IsSerial [] keys ((0, EditEvent x_cell) ∷ []) [] (edited x_cell ∷ pend 1 ∷ asks ∷ []) → ⊥
no_end_before_the_loader serial =
    let way : Leads keys (after (nothing_yet []) (edited x_cell)) (to_come [] []) asking.steps asked =
    line_leads keys (inputs_in []) (generators_in []) (nothing_yet []) asking (to_come [] []) no_inputs no_generators (simp (fold_fetch, fold_quoted)) refl asks_walk in
    none-some 1 (sym serial.loaded ∙ (ap (to_load keys) way.reads ∙ to_load_1))
