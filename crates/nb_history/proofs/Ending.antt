-- Between two lines the work ends: the serial history of any list of lines is there, and it is legal.
use Rattle.std.proofs.Common.{ℕ, zero, suc, ◌≡◌, ◌<◌, refl, ◌∙◌, ap, true, List, [], ◌∷◌, ◌++◌, Option, Some, None, arith}
use Rattle.nb_sheet.specs.Lists.{Name, numbers}
use Rattle.nb_history.specs.Reading.{Reading}
use Rattle.nb_history.specs.Rules.{ready, next}
use Rattle.nb_history.specs.Log.{nothing_yet, after, reading, read_from, admit, Fits, LegalFrom, IsLegal, IsQuiet}
use Rattle.nb_history.specs.Serial.{least_var, closing, Todo, first_step, AreEditors, SerialFrom}
use Rattle.nb_history.specs.Starts.{is_of_variable, AllOfVariables}
use Rattle.nb_history.specs.Work.{to_run}
use Rattle.nb_history.specs.Ends.{WorkEnds, SerialEndsAlone, EditedIsThere}
use Rattle.nb_log.specs.declared.event.Event.{Event}
use Rattle.nb_log.specs.declared.entry.Entry.{Entry}
use Rattle.nb_history.proofs.Closing.{first_some}
use Rattle.nb_history.proofs.Histories.{read_append, legal_append, serial_append, closing_step, ready_step, line_first, no_step, nothing_to_load}
use Rattle.nb_history.proofs.Shapes.{Sound, sound_first, sound_reading}
use Rattle.nb_history.proofs.RunsEnd.{ClosesWell, closing_well, quiet_closed}
use Rattle.nb_history.proofs.NextEntry.{next_outcome, next_fits}
use Rattle.nb_history.proofs.EntryKinds.{closing_is, outcome_is}
use Rattle.nb_history.proofs.Serials.{none_ready, admit_fits, serial_legal, no_step_rests}
use Rattle.nb_history.proofs.ToDo.{Fit, fit_after, fit_from, fit_first}
use Rattle.nb_history.proofs.Alone.{runs_down, variables_end_soon}
use Rattle.nb_history.proofs.Turns.{AllTurn, none_turn, line_turn}

-- ---- until nothing is ready

-- the next entries of the serial history, after which nothing leaves, starts or is ready
pub record Works (r : Reading) : Type 0 where
  pub es : List Entry
  pub serial : (keys : List Name) (todo : Todo) → SerialFrom keys r todo es todo
  pub legal : LegalFrom r es
  pub of_variables : AllOfVariables es
  pub closed : closing (read_from r es) ≡ None
  pub done : least_var (read_from r es) (ready (read_from r es)) ≡ None

-- an entry, and the work from there
works_on : (r : Reading) (e : Entry) → is_of_variable e ≡ true → ((keys : List Name) (todo : Todo) → first_step keys r todo ≡ Some (e, todo)) → Fits r e → Works (after r e) → Works r
works_on r e is step fits w = record {
  es = e ∷ w.es;
  serial = λ keys todo. (todo, step keys todo, w.serial keys todo);
  legal = (fits, w.legal);
  of_variables = (is, w.of_variables);
  closed = w.closed;
  done = w.done;
}

works_within : (n : ℕ) (r : Reading) → Fit r → to_run r < n → Works r
works_within zero r fit less = absurd (omega (arith, less))
works_within (suc n) r fit less =
    go (closing r) refl (least_var r (ready r)) refl (λ e is fits. works_within n (after r e) (fit_after r e fit fits) (omega (arith, less, runs_down r e fit fits is)))
  where
    go : (c : Option Entry) → closing r ≡ c → (o : Option ℕ) → least_var r (ready r) ≡ o → ((e : Entry) → is_of_variable e ≡ true → Fits r e → Works (after r e)) → Works r
    go None p None q on = record { es = []; serial = λ keys todo. refl; legal = tt; of_variables = tt; closed = p; done = q }
    go (Some e) p o q on =
        let well : ClosesWell r e = closing_well r e p in
        let is : is_of_variable e ≡ true = closing_is e well.kind in
        works_on r e is (λ keys todo. closing_step keys r todo e p) well.fits (on e is well.fits)
    go None p (Some v) q on =
        let ready_v : ready r v ≡ true = (first_some (ready r) (numbers r.sheet.rows) v q).0 in
        let quiet : IsQuiet r = quiet_closed r fit.law.sound p in
        let fits : Fits r (next r v) = next_fits r v quiet ready_v in
        let is : is_of_variable (next r v) ≡ true = outcome_is v (next r v) (next_outcome r v) in
        works_on r (next r v) is (λ keys todo. ready_step keys r todo v p q) fits (on (next r v) is fits)

-- the work ends
pub works : (r : Reading) → Fit r → Works r
works r fit = works_within (suc (to_run r)) r fit (omega arith)

pub work_ends : WorkEnds
work_ends builtins log legal =
    let w : Works (reading builtins log) = works (reading builtins log) (fit_from (nothing_yet builtins) log (fit_first builtins) legal) in
    let reads : reading builtins (log ++ w.es) ≡ read_from (reading builtins log) w.es = read_append (nothing_yet builtins) log w.es in
    let all : IsLegal builtins (log ++ w.es) = legal_append (nothing_yet builtins) log w.es legal w.legal in
    let sound : Sound (reading builtins (log ++ w.es)) = sound_reading builtins (log ++ w.es) in
    let closed : closing (reading builtins (log ++ w.es)) ≡ None = ap closing reads ∙ w.closed in
    let done : least_var (reading builtins (log ++ w.es)) (ready (reading builtins (log ++ w.es))) ≡ None = ap (λ (x : Reading). least_var x (ready x)) reads ∙ w.done in
    record {
      es = w.es;
      serial = w.serial;
      legal = all;
      rests = (quiet_closed (reading builtins (log ++ w.es)) sound closed, none_ready (reading builtins (log ++ w.es)) sound done);
      short = variables_end_soon builtins log w.es all w.of_variables;
    }

-- ---- the history of lines, with no loader

abbrev of_lines : List (ℕ × Event) → Todo
of_lines lines = record { lines = lines; answers = [] }

record Lined (r : Reading) (lines : List (ℕ × Event)) : Type 0 where
  log : List Entry
  steps : SerialFrom [] r (of_lines lines) log (of_lines [])
  ends : first_step [] (read_from r log) (of_lines []) ≡ None
  turns : AllTurn r lines log

lined : (lines : List (ℕ × Event)) (r : Reading) → Fit r → AreEditors lines → closing r ≡ None → least_var r (ready r) ≡ None → Lined r lines
lined [] r fit editors closed done = record { log = []; steps = refl; ends = no_step r [] closed done; turns = none_turn r }
lined (l ∷ lines) r fit editors closed done =
    let e = admit r l.0 l.1 in
    let fits : Fits r e = admit_fits r l.0 l.1 editors.0 (quiet_closed r fit.law.sound closed, none_ready r fit.law.sound done) in
    let later : Fit (after r e) = fit_after r e fit fits in
    let w : Works (after r e) = works (after r e) later in
    let q = read_from (after r e) w.es in
    let rest : Lined q lines = lined lines q (fit_from (after r e) w.es later w.legal) editors.1 w.closed w.done in
    let reads : read_from (after r e) (w.es ++ rest.log) ≡ read_from q rest.log = read_append (after r e) w.es rest.log in record {
      log = e ∷ (w.es ++ rest.log);
      steps = (of_lines lines, line_first r l lines [] closed done, serial_append [] (after r e) (of_lines lines) (of_lines lines) (of_lines []) w.es rest.log (w.serial [] (of_lines lines)) rest.steps);
      ends = ap (λ (x : Reading). first_step [] x (of_lines [])) reads ∙ rest.ends;
      turns = line_turn r l lines w.es rest.log w.of_variables rest.turns;
    }

-- the serial history of any lines of editors is there, and it is legal
pub serial_ends_alone : SerialEndsAlone
serial_ends_alone builtins lines editors =
    let r = nothing_yet builtins in
    let h : Lined r lines = lined lines r (fit_first builtins) editors refl refl in (
      h.log,
      record { steps = h.steps; ends = h.ends; loaded = nothing_to_load (reading builtins h.log) },
      serial_legal [] r (of_lines lines) (of_lines []) h.log (sound_first builtins) editors h.steps,
    )

-- ---- editors that take turns

editors_append : (document lines : List (ℕ × Event)) → AreEditors document → AreEditors lines → AreEditors (document ++ lines)
editors_append [] lines h k = k
editors_append (l ∷ document) lines h k = (h.0, editors_append document lines h.1 k)

pub edited_is_there : EditedIsThere
edited_is_there builtins document lines documents editors =
    let r = nothing_yet builtins in
    let all : List (ℕ × Event) = document ++ lines in
    let every : AreEditors all = editors_append document lines documents editors in
    let h : Lined r all = lined all r (fit_first builtins) every refl refl in (
      h.log,
      record {
        legal = serial_legal [] r (of_lines all) (of_lines []) h.log (sound_first builtins) every h.steps;
        rests = no_step_rests [] (reading builtins h.log) (of_lines []) (sound_reading builtins h.log) h.ends;
        turns = h.turns document lines refl;
      },
    )
