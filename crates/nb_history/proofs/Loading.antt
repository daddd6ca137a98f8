-- The work ends whatever the loaders answer: the serial history of any lines is there with any loaders.
use Rattle.std.proofs.Common.{ℕ, zero, suc, ◌≡◌, ◌<◌, refl, sym, ◌∙◌, ap, Bool, true, false, cond, not, ◌&&◌, List, [], ◌∷◌, ◌++◌, Option, Some, None, arith}
use Rattle.std.specs.List.{list_any}
use Rattle.std.specs.Str.{bytes_eq}
use Rattle.std.proofs.lemmas.Bool.{and_parts, false≢true, not-true}
use Rattle.std.proofs.lemmas.Option.{none-some}
use Rattle.nb_value.specs.declared.pairs.Field.{Field}
use Rattle.nb_value.specs.declared.value.Value.{Value}
use Rattle.nb_value.specs.declared.outcome.Answer.{Answer}
use Rattle.nb_sheet.specs.Lists.{Name, nth, numbers, from_option}
use Rattle.nb_history.specs.Reading.{Reading, Ticket, is_full}
use Rattle.nb_history.specs.Rules.{ready, next}
use Rattle.nb_history.specs.Log.{nothing_yet, after, read_from, reading, IsLegal, admit, is_live, Fits, LegalFrom, Rests}
use Rattle.nb_history.specs.Serial.{least_var, closing, Todo, loader_ticket, outer_step, may_load, to_load, first_step, AreEditors, SerialFrom}
use Rattle.nb_history.specs.Starts.{is_of_variable}
use Rattle.nb_history.specs.Work.{to_do}
use Rattle.nb_history.specs.Ends.{IsBetween, AreBetween, LoadsEnd, Answering, IsTold, AreTold, SerialEnds}
use Rattle.nb_log.specs.declared.event.Event.{Event}
use Rattle.nb_log.specs.declared.entry.Entry.{Entry}
use Rattle.nb_log.specs.declared.entry.Entry.TheVariants.{Edit, Frame, Settled, Late, Loaded, Refused, Rest, Dispose, Pending, Fulfilled, Rejected, Asked, Ended, Left}
use Rattle.nb_history.proofs.Closing.{first_some}
use Rattle.nb_history.proofs.Histories.{read_append, legal_append, serial_append, closing_step, ready_step}
use Rattle.nb_history.proofs.Shapes.{Sound, sound_first, sound_reading}
use Rattle.nb_history.proofs.RunsEnd.{ClosesWell, closing_well, quiet_closed}
use Rattle.nb_history.proofs.NextEntry.{next_outcome, next_fits}
use Rattle.nb_history.proofs.EntryKinds.{closing_is, outcome_is, of_variable_between}
use Rattle.nb_history.proofs.Serials.{is_line, admit_line, none_ready, admit_fits, serial_legal}
use Rattle.nb_history.proofs.ToDo.{Fit, fit_after, fit_from, fit_first, fit_log, uses_up, between_lines_ends}

-- ---- which entries are told of

variable_told : (answer : Answering) (r : Reading) (e : Entry) → is_of_variable e ≡ true → IsTold answer r e
variable_told answer r (Left v d) h = tt
variable_told answer r (Pending v d) h = tt
variable_told answer r (Fulfilled v x) h = tt
variable_told answer r (Rejected v e) h = tt
variable_told answer r (Asked v t key) h = tt
variable_told answer r (Ended v) h = tt
variable_told answer r e h = absurd (false≢true h)

line_told : (answer : Answering) (r : Reading) (e : Entry) → is_line e ≡ true → IsTold answer r e
line_told answer r (Edit editor edit) h = tt
line_told answer r (Frame editor) h = tt
line_told answer r (Settled editor t a) h = tt
line_told answer r (Late editor t) h = tt
line_told answer r (Refused editor reason event) h = tt
line_told answer r (Rest editor) h = tt
line_told answer r (Dispose editor) h = tt
line_told answer r e h = absurd (false≢true h)

told_append : (answer : Answering) (r : Reading) (es fs : List Entry) → AreTold answer r es → AreTold answer (read_from r es) fs → AreTold answer r (es ++ fs)
told_append answer r [] fs h k = k
told_append answer r (e ∷ es) fs h k = (h.0, told_append answer (after r e) es fs h.1 k)

-- ---- until no entry is possible but a line's

abbrev pub to_come : List (ℕ × Event) → List Answer → Todo
to_come lines answers = record { lines = lines; answers = answers }

pub record Works (keys : List Name) (answer : Answering) (r : Reading) : Type 0 where
  pub es : List Entry
  pub used : List Answer
  pub serial : (lines : List (ℕ × Event)) (more : List Answer) → SerialFrom keys r (to_come lines (used ++ more)) es (to_come lines more)
  pub legal : LegalFrom r es
  pub between : AreBetween es
  pub told : AreTold answer r es
  pub closed : closing (read_from r es) ≡ None
  pub done : least_var (read_from r es) (ready (read_from r es)) ≡ None
  pub loaded : to_load keys (read_from r es) ≡ None

pub load_step : (keys : List Name) (r : Reading) (lines : List (ℕ × Event)) (t : ℕ) (a : Answer) (answers : List Answer)
    → closing r ≡ None → least_var r (ready r) ≡ None → to_load keys r ≡ Some t → first_step keys r (to_come lines (a ∷ answers)) ≡ Some (Loaded t a, to_come lines answers)
load_step keys r lines t a answers closed done load = rw (closed, done) (ap (outer_step r (to_come lines (a ∷ answers))) load)

-- a line comes where nothing is to be loaded, and nothing where there is no line either
pub line_step_first : (keys : List Name) (r : Reading) (l : ℕ × Event) (lines : List (ℕ × Event)) (answers : List Answer) → closing r ≡ None → least_var r (ready r) ≡ None → to_load keys r ≡ None
    → first_step keys r (to_come (l ∷ lines) answers) ≡ Some (admit r l.0 l.1, to_come lines answers)
line_step_first keys r l lines answers closed done loaded = rw (closed, done) (ap (outer_step r (to_come (l ∷ lines) answers)) loaded)

pub nothing_left : (keys : List Name) (r : Reading) → closing r ≡ None → least_var r (ready r) ≡ None → to_load keys r ≡ None → first_step keys r (to_come [] []) ≡ None
nothing_left keys r closed done loaded = rw (closed, done) (ap (outer_step r (to_come [] [])) loaded)

-- a live ticket, where a loader may be run
pub record MayLoad (r : Reading) (t : ℕ) : Type 0 where
  pub live : is_live r t ≡ true
  pub runs : r.disposed ≡ false
  pub room : is_full r ≡ false

pub may_be_loaded : (keys : List Name) (r : Reading) (t : ℕ) → to_load keys r ≡ Some t → MayLoad r t
may_be_loaded keys r t h = go (may_load r) refl
  where
    go : (b : Bool) → may_load r ≡ b → MayLoad r t
    go false e = absurd (none-some t (ap (λ (b : Bool). cond b (loader_ticket r keys) None) (sym e) ∙ h))
    go true e =
        let test : ℕ → Bool = λ t. is_live r t && from_option false (λ (k : Ticket). list_any (λ key. bytes_eq key k.key) keys) (nth r.tickets t) in
        let found : loader_ticket r keys ≡ Some t = sym (ap (λ (b : Bool). cond b (loader_ticket r keys) None) e) ∙ h in
        let p : (not r.disposed ≡ true) × (not (is_full r) ≡ true) = and_parts (not r.disposed) (not (is_full r)) e in record {
          live = (and_parts (is_live r t) (from_option false (λ (k : Ticket). list_any (λ key. bytes_eq key k.key) keys) (nth r.tickets t)) (first_some test (numbers r.tickets) t found).0).0;
          runs = not-true r.disposed p.0;
          room = not-true (is_full r) p.1;
        }

-- where the log rests, the answer of a loader may come to each live ticket
pub loaded_fits : (r : Reading) (t : ℕ) (a : Answer) → Rests r → is_live r t ≡ true → r.disposed ≡ false → is_full r ≡ false → Fits r (Loaded t a)
loaded_fits r t a rests live runs room = (rests, live, runs, room)

module _ (keys : List Name) (answer : Answering) where
  -- an entry of a variable, and the work from there
  works_on : (r : Reading) (e : Entry) → is_of_variable e ≡ true → ((todo : Todo) → first_step keys r todo ≡ Some (e, todo)) → Fits r e → Works keys answer (after r e) → Works keys answer r
  works_on r e is step fits w = record {
    es = e ∷ w.es;
    used = w.used;
    serial = λ lines more. (to_come lines (w.used ++ more), step (to_come lines (w.used ++ more)), w.serial lines more);
    legal = (fits, w.legal);
    between = (of_variable_between e is, w.between);
    told = (variable_told answer r e is, w.told);
    closed = w.closed;
    done = w.done;
    loaded = w.loaded;
  }

  -- a loader's answer, and the work from there
  answered_on : (r : Reading) (t : ℕ) → closing r ≡ None → least_var r (ready r) ≡ None → to_load keys r ≡ Some t → Fits r (Loaded t (answer r t)) → Works keys answer (after r (Loaded t (answer r t))) → Works keys answer r
  answered_on r t closed done load fits w =
      let a : Answer = answer r t in record {
        es = Loaded t a ∷ w.es;
        used = a ∷ w.used;
        serial = λ lines more. (to_come lines (w.used ++ more), load_step keys r lines t a (w.used ++ more) closed done load, w.serial lines more);
        legal = (fits, w.legal);
        between = (tt, w.between);
        told = (refl, w.told);
        closed = w.closed;
        done = w.done;
        loaded = w.loaded;
      }

  works_within : (n : ℕ) (r : Reading) → Fit r → to_do r < n → Works keys answer r
  works_within zero r fit less = absurd (omega (arith, less))
  works_within (suc n) r fit less =
      go (closing r) refl (least_var r (ready r)) refl (to_load keys r) refl
      (λ e fits is. works_within n (after r e) (fit_after r e fit fits) (omega (arith, less, uses_up r e fit fits is)))
    where
      go : (c : Option Entry) → closing r ≡ c → (o : Option ℕ) → least_var r (ready r) ≡ o → (l : Option ℕ) → to_load keys r ≡ l
          → ((e : Entry) → Fits r e → IsBetween e → Works keys answer (after r e)) → Works keys answer r
      go None p None q None l on = record { es = []; used = []; serial = λ lines more. refl; legal = tt; between = tt; told = tt; closed = p; done = q; loaded = l }
      go (Some e) p o q l m on =
          let well : ClosesWell r e = closing_well r e p in
          let is : is_of_variable e ≡ true = closing_is e well.kind in
          works_on r e is (λ todo. closing_step keys r todo e p) well.fits (on e well.fits (of_variable_between e is))
      go None p (Some v) q l m on =
          let ready_v : ready r v ≡ true = (first_some (ready r) (numbers r.sheet.rows) v q).0 in
          let fits : Fits r (next r v) = next_fits r v (quiet_closed r fit.law.sound p) ready_v in
          let is : is_of_variable (next r v) ≡ true = outcome_is v (next r v) (next_outcome r v) in
          works_on r (next r v) is (λ todo. ready_step keys r todo v p q) fits (on (next r v) fits (of_variable_between (next r v) is))
      go None p None q (Some t) l on =
          let may : MayLoad r t = may_be_loaded keys r t l in
          let fits : Fits r (Loaded t (answer r t)) = ((quiet_closed r fit.law.sound p, none_ready r fit.law.sound q), may.live, may.runs, may.room) in
          answered_on r t p q l fits (on (Loaded t (answer r t)) fits tt)

  pub works : (r : Reading) → Fit r → Works keys answer r
  works r fit = works_within (suc (to_do r)) r fit (omega arith)

  -- ---- the history of lines

  record Lined (r : Reading) (lines : List (ℕ × Event)) : Type 0 where
    log : List Entry
    used : List Answer
    steps : SerialFrom keys r (to_come lines used) log (to_come [] [])
    ends : first_step keys (read_from r log) (to_come [] []) ≡ None
    told : AreTold answer r log
    loaded : to_load keys (read_from r log) ≡ None

  lined : (lines : List (ℕ × Event)) (r : Reading) → Fit r → AreEditors lines → closing r ≡ None → least_var r (ready r) ≡ None → to_load keys r ≡ None → Lined r lines
  lined [] r fit editors closed done loaded = record { log = []; used = []; steps = refl; ends = nothing_left keys r closed done loaded; told = tt; loaded = loaded }
  lined (l ∷ lines) r fit editors closed done loaded =
      let e = admit r l.0 l.1 in
      let fits : Fits r e = admit_fits r l.0 l.1 editors.0 (quiet_closed r fit.law.sound closed, none_ready r fit.law.sound done) in
      let later : Fit (after r e) = fit_after r e fit fits in
      let w : Works keys answer (after r e) = works (after r e) later in
      let q = read_from (after r e) w.es in
      let rest : Lined q lines = lined lines q (fit_from (after r e) w.es later w.legal) editors.1 w.closed w.done w.loaded in
      let reads : read_from (after r e) (w.es ++ rest.log) ≡ read_from q rest.log = read_append (after r e) w.es rest.log in
      let used : List Answer = w.used ++ rest.used in record {
        log = e ∷ (w.es ++ rest.log);
        used = used;
        steps = (
          to_come lines used,
          line_step_first keys r l lines used closed done loaded,
          serial_append keys (after r e) (to_come lines used) (to_come lines rest.used) (to_come [] []) w.es rest.log (w.serial lines rest.used) rest.steps,
        );
        ends = ap (λ (x : Reading). first_step keys x (to_come [] [])) reads ∙ rest.ends;
        loaded = ap (to_load keys) reads ∙ rest.loaded;
        told = (line_told answer r e (admit_line r l.0 l.1), told_append answer (after r e) w.es rest.log w.told rest.told);
      }

no_ticket_yet : (builtins : List (Field Value)) (keys : List Name) → to_load keys (nothing_yet builtins) ≡ None
no_ticket_yet builtins keys = refl

-- ---- after any legal log

pub loads_end : LoadsEnd
loads_end builtins log keys answer legal =
    let w : Works keys answer (reading builtins log) = works keys answer (reading builtins log) (fit_log builtins log legal) in
    let whole = reading builtins (log ++ w.es) in
    let reads : reading builtins (log ++ w.es) ≡ read_from (reading builtins log) w.es = read_append (nothing_yet builtins) log w.es in
    let all : IsLegal builtins (log ++ w.es) = legal_append (nothing_yet builtins) log w.es legal w.legal in
    let sound : Sound whole = sound_reading builtins (log ++ w.es) in
    let closed : closing (reading builtins (log ++ w.es)) ≡ None = ap closing reads ∙ w.closed in
    let done : least_var (reading builtins (log ++ w.es)) (ready (reading builtins (log ++ w.es))) ≡ None = ap (λ (x : Reading). least_var x (ready x)) reads ∙ w.done in record {
      es = w.es;
      used = w.used;
      serial = w.serial;
      legal = all;
      rests = (quiet_closed (reading builtins (log ++ w.es)) sound closed, none_ready (reading builtins (log ++ w.es)) sound done);
      loaded = ap (to_load keys) reads ∙ w.loaded;
      told = w.told;
      short = between_lines_ends builtins log w.es all w.between;
    }

-- ---- from nothing

-- the serial history of any lines of editors is there with any loaders, whatever they answer, and it is legal
pub serial_ends : SerialEnds
serial_ends builtins keys answer lines editors =
    let r = nothing_yet builtins in
    let h : Lined keys answer r lines = lined keys answer lines r (fit_first builtins) editors refl refl (no_ticket_yet builtins keys) in record {
      log = h.log;
      used = h.used;
      serial = record { steps = h.steps; ends = h.ends; loaded = h.loaded };
      legal = serial_legal keys r (to_come lines h.used) (to_come [] []) h.log (sound_first builtins) editors h.steps;
      told = h.told;
    }
