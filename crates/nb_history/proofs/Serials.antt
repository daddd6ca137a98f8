-- The serial history is legal.
use Rattle.std.proofs.Common.{zero, suc, length, arith, ℕ, ◌≡◌, ◌<◌, refl, sym, ◌∙◌, ap, subst, Bool, true, false, cond, not, ◌&&◌, List, [], ◌∷◌, Option, Some, None}
use Rattle.std.specs.List.{list_any}
use Rattle.std.specs.Str.{bytes_eq}
use Rattle.std.proofs.lemmas.Bool.{and_parts, false≢true, false_from_ne_true, not-true}
use Rattle.std.proofs.lemmas.Option.{none-some, some_pair_parts}
use Rattle.nb_value.specs.declared.outcome.Answer.{Answer}
use Rattle.nb_graph.specs.Needs.{has}
use Rattle.nb_sheet.specs.Lists.{Name, nth, numbers, from_option, option_then, or_else}
use Rattle.nb_history.specs.Reading.{Reading, Ticket, is_idle, is_full}
use Rattle.nb_history.specs.Rules.{ready, next}
use Rattle.nb_history.specs.Log.{nothing_yet, after, read_from, reading, admit, admitted, first_refusal, is_live, Fits, LegalFrom, IsQuiet, NothingReady, Rests, IsOfEvent}
use Rattle.nb_history.specs.Serial.{least_var, closing, next_of_ready, Todo, Step, line_step, loader_ticket, loaded_step, outer_step, may_load, to_load, first_step, AreEditors, SerialFrom, serial_within}
use Rattle.nb_history.specs.Ends.{SerialIsLegal, SerialIsOne, SerialRests, SerialIsFirst}
use Rattle.nb_history.specs.Starts.{is_of_variable}
use Rattle.nb_history.specs.History.{History, standing, IsClosedHistory}
use Rattle.nb_log.specs.declared.event.Target.TheVariants.{Ticket as ByTicket, Key as ByKey}
use Rattle.nb_log.specs.declared.event.Event.{Event}
use Rattle.nb_log.specs.declared.event.Event.TheVariants.{Edit as EditEvent, Frame as FrameEvent, Settle, Rest as RestEvent, Dispose as DisposeEvent}
use Rattle.nb_log.specs.declared.entry.Refusal.{Refusal}
use Rattle.nb_log.specs.declared.entry.Entry.{Entry}
use Rattle.nb_log.specs.declared.entry.Entry.TheVariants.{Edit, Frame, Settled, Late, Loaded, Refused, Rest, Dispose, Pending, Fulfilled, Rejected, Asked, Ended, Left}
use Rattle.nb_history.proofs.Closing.{first_some, first_none, started_has}
use Rattle.nb_history.proofs.Histories.{serial_one}
use Rattle.nb_history.proofs.Shapes.{Sound, sound_after, sound_first, sound_reading}
use Rattle.nb_history.proofs.RunsEnd.{closing_well, quiet_closed}
use Rattle.nb_history.proofs.StartsAfter.{Runs}
use Rattle.nb_history.proofs.NextEntry.{next_outcome, next_fits, ready_runs}
use Rattle.nb_history.proofs.EntryKinds.{closing_is, outcome_is}

-- ---- the entry of a line fits where the log rests

-- an entry that an event may give
abbrev pub is_line : Entry → Bool
is_line (Edit editor edit) = true
is_line (Frame editor) = true
is_line (Settled editor t a) = true
is_line (Late editor t) = true
is_line (Refused editor reason event) = true
is_line (Rest editor) = true
is_line (Dispose editor) = true
is_line e = false

admitted_line : (r : Reading) (editor : ℕ) (event : Event) → is_line (admitted r editor event) ≡ true
admitted_line r editor (EditEvent edit) = refl
admitted_line r editor FrameEvent = refl
admitted_line r editor (Settle (ByTicket t) a) = go (is_live r t)
  where
    go : (b : Bool) → is_line (cond b (Settled editor t a) (Late editor t)) ≡ true
    go true = refl
    go false = refl
admitted_line r editor (Settle (ByKey key) a) = refl
admitted_line r editor RestEvent = refl
admitted_line r editor DisposeEvent = refl

pub admit_line : (r : Reading) (editor : ℕ) (event : Event) → is_line (admit r editor event) ≡ true
admit_line r editor event = go (first_refusal r event)
  where
    go : (o : Option Refusal) → is_line (from_option (admitted r editor event) (λ reason. Refused editor reason event) o) ≡ true
    go None = admitted_line r editor event
    go (Some reason) = refl

line_fits : (r : Reading) (e : Entry) → is_line e ≡ true → Rests r → IsOfEvent r e → Fits r e
line_fits r (Edit editor edit) h rests of = (rests.0, of)
line_fits r (Frame editor) h rests of = (rests.0, of)
line_fits r (Settled editor t a) h rests of = (rests.0, of)
line_fits r (Late editor t) h rests of = (rests.0, of)
line_fits r (Refused editor reason event) h rests of = (rests.0, of)
line_fits r (Dispose editor) h rests of = (rests.0, of)
line_fits r (Rest editor) h rests of = (rests, of)
line_fits r e h rests of = absurd (false≢true h)

pub admit_fits : (r : Reading) (editor : ℕ) (event : Event) → editor < 8 → Rests r → Fits r (admit r editor event)
admit_fits r editor event less rests = line_fits r (admit r editor event) (admit_line r editor event) rests (editor, event, less, refl)

-- what a rest asks beside that nothing is leaving or due
abbrev pub RestsFor : Reading → Entry → Type 0
RestsFor r (Rest editor) = NothingReady r
RestsFor r e = Unit {0}

-- where nothing is leaving or due, an entry of an event fits, and a rest where nothing is ready besides
pub line_fits_quiet : (r : Reading) (e : Entry) → is_line e ≡ true → IsQuiet r → RestsFor r e → IsOfEvent r e → Fits r e
line_fits_quiet r (Edit editor edit) h quiet rests of = (quiet, of)
line_fits_quiet r (Frame editor) h quiet rests of = (quiet, of)
line_fits_quiet r (Settled editor t a) h quiet rests of = (quiet, of)
line_fits_quiet r (Late editor t) h quiet rests of = (quiet, of)
line_fits_quiet r (Refused editor reason event) h quiet rests of = (quiet, of)
line_fits_quiet r (Dispose editor) h quiet rests of = (quiet, of)
line_fits_quiet r (Rest editor) h quiet rests of = ((quiet, rests), of)
line_fits_quiet r e h quiet rests of = absurd (false≢true h)

pub admit_fits_quiet : (r : Reading) (editor : ℕ) (event : Event) → editor < 8 → IsQuiet r → RestsFor r (admit r editor event) → Fits r (admit r editor event)
admit_fits_quiet r editor event less quiet rests = line_fits_quiet r (admit r editor event) (admit_line r editor event) quiet rests (editor, event, less, refl)

-- a rest alone gives a rest
abbrev pub is_rest : Event → Bool
is_rest RestEvent = true
is_rest event = false

pub nothing_ready_rests : (r : Reading) (e : Entry) → NothingReady r → RestsFor r e
nothing_ready_rests r (Rest editor) h = h
nothing_ready_rests r (Edit editor edit) h = tt
nothing_ready_rests r (Frame editor) h = tt
nothing_ready_rests r (Settled editor t a) h = tt
nothing_ready_rests r (Late editor t) h = tt
nothing_ready_rests r (Loaded t a) h = tt
nothing_ready_rests r (Refused editor reason event) h = tt
nothing_ready_rests r (Dispose editor) h = tt
nothing_ready_rests r (Pending v d) h = tt
nothing_ready_rests r (Fulfilled v x) h = tt
nothing_ready_rests r (Rejected v e) h = tt
nothing_ready_rests r (Asked v t key) h = tt
nothing_ready_rests r (Ended v) h = tt
nothing_ready_rests r (Left v d) h = tt

pub other_rests : (r : Reading) (editor : ℕ) (event : Event) → is_rest event ≡ false → RestsFor r (admit r editor event)
other_rests r editor event h = go (first_refusal r event)
  where
    by_ticket : (t : ℕ) (a : Answer) (b : Bool) → RestsFor r (cond b (Settled editor t a) (Late editor t))
    by_ticket t a true = tt
    by_ticket t a false = tt

    of : (event : Event) → is_rest event ≡ false → RestsFor r (admitted r editor event)
    of (EditEvent edit) h = tt
    of FrameEvent h = tt
    of (Settle (ByTicket t) a) h = by_ticket t a (is_live r t)
    of (Settle (ByKey key) a) h = tt
    of RestEvent h = absurd (false≢true (sym h))
    of DisposeEvent h = tt

    go : (o : Option Refusal) → RestsFor r (from_option (admitted r editor event) (λ reason. Refused editor reason event) o)
    go None = of event h
    go (Some reason) = tt

-- over a closed history
pub event_fits : (h : History) (editor : ℕ) (event : Event) → IsClosedHistory h → editor < 8 → RestsFor (standing h) (admit (standing h) editor event) → Fits (standing h) (admit (standing h) editor event)
event_fits h editor event closed less rests = admit_fits_quiet (standing h) editor event less closed.quiet rests

-- ---- nothing is ready where no variable of the sheet is

-- what is ready is a variable of the sheet
pub ready_has : (r : Reading) → Sound r → (v : ℕ) → ready r v ≡ true → has (numbers r.sheet.rows) v ≡ true
ready_has r sound v h = let runs : Runs r v = ready_runs r v h in started_has r sound.shaped v (ap is_idle runs.there)

pub none_ready : (r : Reading) → Sound r → least_var r (ready r) ≡ None → NothingReady r
none_ready r sound none v =
    false_from_ne_true (ready r v) (λ h.
    false≢true (sym (first_none (ready r) (numbers r.sheet.rows) none v (ready_has r sound v h)) ∙ h))

-- ---- each step fits

-- a step is an entry that fits, and one of a variable but where the log rests; what is still to come are lines of editors
pub record StepFits (r : Reading) (e : Entry) (mid : Todo) : Type 0 where
  pub fits : Fits r e
  pub outer : is_of_variable e ≡ false → Rests r
  pub editors : AreEditors mid.lines

module _ (keys : List Name) (r : Reading) (sound : Sound r) (todo : Todo) (editors : AreEditors todo.lines) (e : Entry) (mid : Todo) where
  abbrev step : Entry → Todo → Step
  step x y = Some (x, y)

  same_step : (x : Entry) (y : Todo) → StepFits r x y → step x y ≡ step e mid → StepFits r e mid
  same_step x y fits h =
      let both : (x ≡ e) × (y ≡ mid) = some_pair_parts x e y mid h in
      subst (StepFits r e) both.1 (subst (λ (z : Entry). StepFits r z y) both.0 fits)

  line_step_fits : Rests r → (lines : List (ℕ × Event)) → AreEditors lines → line_step r todo lines ≡ Some (e, mid) → StepFits r e mid
  line_step_fits rests [] are h = absurd (none-some (e, mid) h)
  line_step_fits rests (l ∷ lines) are h =
      same_step (admit r l.0 l.1) (record todo { lines = lines }) (record { fits = admit_fits r l.0 l.1 are.0 rests; outer = λ _. rests; editors = are.1 }) h

  loaded_fits : Rests r → may_load r ≡ true → (t : ℕ) → is_live r t ≡ true → (answers : List Answer) → loaded_step todo t answers ≡ Some (e, mid) → StepFits r e mid
  loaded_fits rests may t live [] h = absurd (none-some (e, mid) h)
  loaded_fits rests may t live (a ∷ answers) h =
      let p : (not r.disposed ≡ true) × (not (is_full r) ≡ true) = and_parts (not r.disposed) (not (is_full r)) may in
      same_step (Loaded t a) (record todo { answers = answers })
      (record { fits = (rests, live, not-true r.disposed p.0, not-true (is_full r) p.1); outer = λ _. rests; editors = editors }) h

  outer_fits : Rests r → outer_step r todo (to_load keys r) ≡ Some (e, mid) → StepFits r e mid
  outer_fits rests h = may (may_load r) refl (loader_ticket r keys) refl
    where
      may : (b : Bool) → may_load r ≡ b → (o : Option ℕ) → loader_ticket r keys ≡ o → StepFits r e mid
      may false p o q = line_step_fits rests todo.lines editors (ap (λ (b : Bool). outer_step r todo (cond b (loader_ticket r keys) None)) (sym p) ∙ h)
      may true p None q =
          line_step_fits rests todo.lines editors (sym (ap (λ (b : Bool). outer_step r todo (cond b (loader_ticket r keys) None)) p ∙ ap (outer_step r todo) q) ∙ h)
      may true p (Some t) q =
          let live : is_live r t ≡ true = (and_parts (is_live r t) (from_option false (λ (k : Ticket). list_any (λ key. bytes_eq key k.key) keys) (nth r.tickets t)) (first_some (λ t. is_live r t && from_option false (λ (k : Ticket). list_any (λ key. bytes_eq key k.key) keys) (nth r.tickets t)) (numbers r.tickets) t q).0).0 in
          loaded_fits rests p t live todo.answers (sym (ap (λ (b : Bool). outer_step r todo (cond b (loader_ticket r keys) None)) p ∙ ap (outer_step r todo) q) ∙ h)

  pub step_fits : first_step keys r todo ≡ Some (e, mid) → StepFits r e mid
  step_fits h = go (closing r) refl (least_var r (ready r)) refl
    where
      from : (a b : Option Entry) → closing r ≡ a → next_of_ready r ≡ b → or_else (option_then (or_else a b) (λ x. Some (x, todo))) (outer_step r todo (to_load keys r)) ≡ Some (e, mid)
      from a b p q =
          sym (ap (λ (x : Option Entry). or_else (option_then (or_else x (next_of_ready r)) (λ x. Some (x, todo))) (outer_step r todo (to_load keys r))) p
          ∙ ap (λ (x : Option Entry). or_else (option_then (or_else a x) (λ x. Some (x, todo))) (outer_step r todo (to_load keys r))) q) ∙ h

      first : (o : Option ℕ) → least_var r (ready r) ≡ o → next_of_ready r ≡ option_then o (λ v. Some (next r v))
      first o q = ap (λ (o : Option ℕ). option_then o (λ v. Some (next r v))) q

      go : (a : Option Entry) → closing r ≡ a → (b : Option ℕ) → least_var r (ready r) ≡ b → StepFits r e mid
      go (Some x) p b q = same_step x todo (record { fits = (closing_well r x p).fits; outer = λ h. absurd (false≢true (sym h ∙ closing_is x (closing_well r x p).kind)); editors = editors }) (from (Some x) (next_of_ready r) p refl)
      go None p (Some v) q =
          same_step (next r v) todo
          (record {
            fits = next_fits r v (quiet_closed r sound p) (first_some (ready r) (numbers r.sheet.rows) v q).0;
            outer = λ h. absurd (false≢true (sym h ∙ outcome_is v (next r v) (next_outcome r v)));
            editors = editors;
          })
          (from None (Some (next r v)) p (first (Some v) q))
      go None p None q = outer_fits (quiet_closed r sound p, none_ready r sound q) (from None None p (first None q))

-- ---- so the whole is legal

pub serial_legal : (keys : List Name) (r : Reading) (todo left : Todo) (es : List Entry) → Sound r → AreEditors todo.lines → SerialFrom keys r todo es left → LegalFrom r es
serial_legal keys r todo left [] sound editors h = tt
serial_legal keys r todo left (e ∷ es) sound editors h =
    let step : StepFits r e h.0 = step_fits keys r sound todo editors e h.0 h.1 in
    (step.fits, serial_legal keys (after r e) h.0 left es (sound_after r e sound) step.editors h.2)

pub is_serial_legal : SerialIsLegal
is_serial_legal builtins keys lines answers log editors h =
    serial_legal keys (nothing_yet builtins) (record { lines = lines; answers = answers }) (record { lines = []; answers = [] }) log (sound_first builtins) editors h.steps

-- it is one
pub is_serial_one : SerialIsOne
is_serial_one builtins keys lines answers log other h k =
    serial_one keys (nothing_yet builtins) (record { lines = lines; answers = answers }) (record { lines = []; answers = [] }) (record { lines = []; answers = [] }) log other h.steps k.steps h.ends k.ends

-- and where no step is possible, the log rests
pub no_step_rests : (keys : List Name) (r : Reading) (todo : Todo) → Sound r → first_step keys r todo ≡ None → Rests r
no_step_rests keys r todo sound h = go (closing r) refl (least_var r (ready r)) refl
  where
    go : (a : Option Entry) → closing r ≡ a → (b : Option ℕ) → least_var r (ready r) ≡ b → Rests r
    go (Some x) p b q =
        absurd (none-some (x, todo) (sym h ∙ ap (λ (a : Option Entry). or_else (option_then (or_else a (next_of_ready r)) (λ x. Some (x, todo))) (outer_step r todo (to_load keys r))) p))
    go None p (Some v) q =
        absurd (none-some (next r v, todo) (sym h
        ∙ ap (λ (a : Option Entry). or_else (option_then (or_else a (next_of_ready r)) (λ x. Some (x, todo))) (outer_step r todo (to_load keys r))) p
        ∙ ap (λ (b : Option ℕ). or_else (option_then (option_then b (λ v. Some (next r v))) (λ x. Some (x, todo))) (outer_step r todo (to_load keys r))) q))
    go None p None q = (quiet_closed r sound p, none_ready r sound q)

pub is_serial_rests : SerialRests
is_serial_rests builtins keys lines answers log h =
    no_step_rests keys (reading builtins log) (record { lines = []; answers = [] }) (sound_reading builtins log) h.ends

first_entries : (keys : List Name) (n : ℕ) (r : Reading) (todo left : Todo) (es : List Entry) → SerialFrom keys r todo es left → first_step keys (read_from r es) left ≡ None → length es < n
    → serial_within keys n r todo ≡ es
first_entries keys zero r todo left es h ends less = absurd (omega (arith, less))
first_entries keys (suc n) r todo left [] h ends less =
    ap (from_option [] (λ (p : Entry × Todo). p.0 ∷ serial_within keys n (after r p.0) p.1)) (ap (first_step keys r) h ∙ ends)
first_entries keys (suc n) r todo left (e ∷ es) h ends less =
    ap (from_option [] (λ (p : Entry × Todo). p.0 ∷ serial_within keys n (after r p.0) p.1)) h.1
    ∙ ap (λ (xs : List Entry). e ∷ xs) (first_entries keys n (after r e) h.0 left es h.2 ends (omega (arith, less)))

pub is_serial_first : SerialIsFirst
is_serial_first builtins keys lines answers log n h less =
    first_entries keys n (nothing_yet builtins) (record { lines = lines; answers = answers }) (record { lines = []; answers = [] }) log h.steps h.ends less
