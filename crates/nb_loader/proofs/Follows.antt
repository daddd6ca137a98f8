-- A core that takes each line, settles, and has loaders' programs run keeps the history of the lines with these loaders.
use Rattle.std.proofs.Common.{ℕ, ◌≡◌, ◌<◌, ◌≤◌, refl, sym, ◌∙◌, ap, subst, arith, List, [], ◌∷◌, ◌++◌, append_assoc, append-nil, Option, Some, None}
use Rattle.std.proofs.lemmas.Option.{none-some, some_pair_parts}
use Rattle.nb_value.specs.declared.value.Value.{Value}
use Rattle.nb_value.specs.declared.pairs.Field.{Field}
use Rattle.nb_value.specs.declared.outcome.Answer.{Answer}
use Rattle.nb_io.specs.declared.spawner.ChildRun.{ChildRun}
use Rattle.nb_io.specs.Runs.{Grows}
use Rattle.nb_sheet.specs.Lists.{Name}
use Rattle.nb_log.specs.declared.event.Event.{Event}
use Rattle.nb_log.specs.declared.entry.Entry.{Entry}
use Rattle.nb_log.specs.declared.entry.Entry.TheVariants.{Loaded}
use Rattle.nb_history.specs.Reading.{Reading}
use Rattle.nb_history.specs.Rules.{ready, next}
use Rattle.nb_history.specs.Log.{nothing_yet, after, read_from, reading, admit, IsLegal, LegalFrom, Fits}
use Rattle.nb_history.specs.Serial.{least_var, closing, Todo, first_step, to_load, SerialFrom, IsSerial, AreEditors}
use Rattle.nb_history.specs.Loaders.{Loader, keys_of, answer_in, answers_in, AreRuns}
use Rattle.nb_history.specs.Ends.{IsBetween}
use Rattle.nb_history.specs.Work.{to_do}
use Rattle.nb_history.specs.Headline.{IsHistoryOf, IsReached}
use Rattle.nb_history.specs.History.{History, standing, IsClosedHistory}
use Rattle.nb_history.proofs.Histories.{read_append, legal_back, serial_append, closes_serial, nothing, no_step, same_todo, closing_step, ready_step}
use Rattle.nb_history.proofs.Shapes.{sound_reading}
use Rattle.nb_history.proofs.Serials.{none_ready}
use Rattle.nb_history.proofs.RunsEnd.{closing_well}
use Rattle.nb_history.proofs.NextEntry.{next_outcome}
use Rattle.nb_history.proofs.EntryKinds.{closing_is, outcome_is, of_variable_between}
use Rattle.nb_history.proofs.ToDo.{Fit, fit_after, fit_log, uses_up}
use Rattle.nb_history.proofs.Gains.{gains_all, gains_closed, less_to_do}
use Rattle.nb_history.proofs.Loading.{to_come, load_step, line_step_first, nothing_left, MayLoad, may_be_loaded, loaded_fits}
use Rattle.nb_history.proofs.LoaderRuns.{serial_answers, serial_longer, no_runs}
use Rattle.nb_history.proofs.HistoryThere.{serial_is_history}
use Rattle.nb_core.specs.Core.{Gains, Settles}
use Rattle.nb_loader.specs.Loads.{Loads, NothingToLoad}

-- ---- logs and runs that grow

pub answers_append : (es fs : List Entry) → answers_in (es ++ fs) ≡ answers_in es ++ answers_in fs
answers_append [] fs = refl
answers_append (e ∷ es) fs = ap (λ (given : List Answer). answer_in e ++ given) (answers_append es fs) ∙ sym (append_assoc (answer_in e) (answers_in es) (answers_in fs))

pub runs_append : (loaders : List Loader) (r : Reading) (es fs : List Entry) (runs more : List ChildRun) → AreRuns loaders r es runs → AreRuns loaders (read_from r es) fs more → AreRuns loaders r (es ++ fs) (runs ++ more)
runs_append loaders r [] fs [] more h k = k
runs_append loaders r [] fs (run ∷ runs) more h k = absurd h
runs_append loaders r (Loaded t a ∷ es) fs [] more h k = absurd h
runs_append loaders r (Loaded t a ∷ es) fs (run ∷ runs) more h k = (h.0, runs_append loaders (after r (Loaded t a)) es fs runs more h.1 k)
runs_append loaders r (e ∷ es) fs runs more h k = runs_append loaders (after r e) es fs runs more h k

-- runs that are known grow by these, and then by those
pub grows_on : (a b c : Option (List ChildRun)) (runs more : List ChildRun) → Grows a b runs → Grows b c more → Grows a c (runs ++ more)
grows_on None b c runs more h k = tt
grows_on (Some xs) b c runs more h k =
    let later : c ≡ Some ((xs ++ runs) ++ more) = subst (λ (o : Option (List ChildRun)). Grows o c more) h k in
    later ∙ ap (λ (all : List ChildRun). Some all) (append_assoc xs runs more)

-- entries of the serial history that use no answer have none
pub no_answers : (keys : List Name) (r : Reading) (left rest : List (ℕ × Event)) (es : List Entry) → SerialFrom keys r (to_come left []) es (to_come rest []) → answers_in es ≡ []
no_answers keys r left rest es h = sym (append-nil (answers_in es)) ∙ sym (serial_answers keys r (to_come left []) (to_come rest []) es h)

-- ---- what a log has reached

-- the log is a front of the serial history of the lines, of which these are left, and these are the runs in it
pub record Reaches (builtins : List (Field Value)) (loaders : List Loader) (lines left : List (ℕ × Event)) (runs : List ChildRun) (h : History) : Type 0 where
  pub over : h.builtins ≡ builtins
  pub steps : SerialFrom (keys_of loaders) (nothing_yet builtins) (to_come lines (answers_in h.log)) h.log (to_come left [])
  pub told : AreRuns loaders (nothing_yet builtins) h.log runs

pub reaches_none : (builtins : List (Field Value)) (loaders : List Loader) (lines : List (ℕ × Event)) (h : History) → h ≡ (let none : History = record { builtins = builtins; log = [] } in none)
    → Reaches builtins loaders lines lines [] h
reaches_none builtins loaders lines h is = subst (Reaches builtins loaders lines lines []) (sym is) (record { over = refl; steps = refl; told = tt })

module _ (builtins : List (Field Value)) (loaders : List Loader) (lines : List (ℕ × Event)) where
  abbrev keys : List Name
  keys = keys_of loaders

  module _ (left : List (ℕ × Event)) (runs : List ChildRun) (old : History) (so_far : Reaches builtins loaders lines left runs old) where
    here : standing old ≡ reading builtins old.log
    here = ap (λ (b : List (Field Value)). reading b old.log) so_far.over

    -- it grew by these entries of the serial history
    goes_on : (rest : List (ℕ × Event)) (more : List ChildRun) (new : History) (es : List Entry) → new.builtins ≡ old.builtins → new.log ≡ old.log ++ es
        → SerialFrom keys (standing old) (to_come left (answers_in es)) es (to_come rest []) → AreRuns loaders (standing old) es more → Reaches builtins loaders lines rest (runs ++ more) new
    goes_on rest more new es same longer steps told =
        let before : SerialFrom keys (nothing_yet builtins) (to_come lines (answers_in old.log ++ answers_in es)) old.log (to_come left (answers_in es))
        = serial_longer keys (nothing_yet builtins) (to_come lines (answers_in old.log)) (to_come left []) old.log (answers_in es) so_far.steps in
        let all : SerialFrom keys (nothing_yet builtins) (to_come lines (answers_in old.log ++ answers_in es)) (old.log ++ es) (to_come rest [])
        = serial_append keys (nothing_yet builtins) (to_come lines (answers_in old.log ++ answers_in es)) (to_come left (answers_in es)) (to_come rest []) old.log es before
        (subst (λ (q : Reading). SerialFrom keys q (to_come left (answers_in es)) es (to_come rest [])) here steps) in
        let given : SerialFrom keys (nothing_yet builtins) (to_come lines (answers_in (old.log ++ es))) (old.log ++ es) (to_come rest [])
        = subst (λ (x : List Answer). SerialFrom keys (nothing_yet builtins) (to_come lines x) (old.log ++ es) (to_come rest [])) (sym (answers_append old.log es)) all in
        let ran : AreRuns loaders (nothing_yet builtins) (old.log ++ es) (runs ++ more)
        = runs_append loaders (nothing_yet builtins) old.log es runs more so_far.told (subst (λ (q : Reading). AreRuns loaders q es more) here told) in record {
          over = same ∙ so_far.over;
          steps = subst (λ (l : List Entry). SerialFrom keys (nothing_yet builtins) (to_come lines (answers_in l)) l (to_come rest [])) (sym longer) given;
          told = subst (λ (l : List Entry). AreRuns loaders (nothing_yet builtins) l (runs ++ more)) (sym longer) ran;
        }

    -- entries that use no answer
    alone : (rest : List (ℕ × Event)) (new : History) (es : List Entry) → new.builtins ≡ old.builtins → new.log ≡ old.log ++ es
        → SerialFrom keys (standing old) (to_come left []) es (to_come rest []) → Reaches builtins loaders lines rest runs new
    alone rest new es same longer steps =
        let none : answers_in es ≡ [] = no_answers keys (standing old) left rest es steps in
        subst (λ (x : List ChildRun). Reaches builtins loaders lines rest x new) (append-nil runs)
        (goes_on rest [] new es same longer (subst (λ (x : List Answer). SerialFrom keys (standing old) (to_come left x) es (to_come rest [])) (sym none) steps) (no_runs loaders (standing old) es none))

    -- what was ready was done
    pub reaches_settled : (new : History) → Settles old new → Reaches builtins loaders lines left runs new
    reaches_settled new s = alone left new s.es s.builtins s.longer (s.serial keys (to_come left []))

    -- a program was run
    pub reaches_loaded : (new : History) (before now : Option (List ChildRun)) (place : ℕ) → closing (standing old) ≡ None → least_var (standing old) (ready (standing old)) ≡ None
        → (l : Loads loaders old new before now place) → Reaches builtins loaders lines left (runs ++ l.run ∷ []) new
    reaches_loaded new before now place closed done l =
        let r : Reading = standing old in
        let e : Entry = Loaded l.ticket l.answer in
        let more : SerialFrom keys (after r e) (to_come left []) l.gains.es (to_come left []) = closes_serial keys (after r e) (to_come left []) l.gains.es l.gains.closes in
        let none : answers_in l.gains.es ≡ [] = no_answers keys (after r e) left left l.gains.es more in
        goes_on left (l.run ∷ []) new (e ∷ l.gains.es) l.gains.builtins l.gains.longer
        (subst (λ (x : List Answer). SerialFrom keys r (to_come left (l.answer ∷ x)) (e ∷ l.gains.es) (to_come left [])) (sym none)
        (to_come left [], load_step keys r left l.ticket l.answer [] closed done l.next.first, more))
        (l.told, no_runs loaders (after r e) l.gains.es none)

  -- where nothing is to be loaded, the next line comes
  pub reaches_line : (left : List (ℕ × Event)) (runs : List ChildRun) (editor : ℕ) (event : Event) (old new : History) → Reaches builtins loaders lines ((editor, event) ∷ left) runs old
      → closing (standing old) ≡ None → least_var (standing old) (ready (standing old)) ≡ None → to_load (keys_of loaders) (standing old) ≡ None
      → Gains old (admit (standing old) editor event) new → Reaches builtins loaders lines left runs new
  reaches_line left runs editor event old new so_far closed done loaded g =
      let r : Reading = standing old in
      let e : Entry = admit r editor event in
      alone ((editor, event) ∷ left) runs old so_far left new (e ∷ g.es) g.builtins g.longer
      (to_come left [], line_step_first keys r (editor, event) left [] closed done loaded, closes_serial keys (after r e) (to_come left []) g.es g.closes)

  -- no line is left, and nothing is to be loaded
  pub reaches_end : (runs : List ChildRun) (h : History) → AreEditors lines → Reaches builtins loaders lines [] runs h
      → closing (standing h) ≡ None → least_var (standing h) (ready (standing h)) ≡ None → to_load (keys_of loaders) (standing h) ≡ None → IsHistoryOf builtins loaders lines runs h.log
  reaches_end runs h editors so_far closed done loaded =
      let there : reading builtins h.log ≡ standing h = sym (ap (λ (b : List (Field Value)). reading b h.log) so_far.over) in
      let serial : IsSerial builtins keys lines (answers_in h.log) h.log = record {
        steps = so_far.steps;
        ends = ap (λ (q : Reading). first_step keys q (to_come [] [])) there ∙ nothing_left keys (standing h) closed done loaded;
        loaded = ap (to_load keys) there ∙ loaded;
      } in
      serial_is_history builtins loaders lines runs h.log editors serial so_far.told

  pub reaches_reached : (left : List (ℕ × Event)) (runs : List ChildRun) (h : History) → Reaches builtins loaders lines left runs h → IsReached builtins loaders lines runs h.log
  reaches_reached left runs h so_far = record { left = left; steps = so_far.steps; told = so_far.told }

-- what a call that ran nothing says, where nothing is ready
pub none_to_load : (loaders : List Loader) (h : History) → least_var (standing h) (ready (standing h)) ≡ None → NothingToLoad loaders (standing h) → to_load (keys_of loaders) (standing h) ≡ None
none_to_load loaders h done none = none (none_ready (standing h) (sound_reading h.builtins h.log) done)

-- ---- the work ends

module _ (loaders : List Loader) (old new : History) (before now : Option (List ChildRun)) (place : ℕ) (closed : IsClosedHistory old) (l : Loads loaders old new before now place) where
  fits : Fits (standing old) (Loaded l.ticket l.answer)
  fits =
      let may : MayLoad (standing old) l.ticket = may_be_loaded (keys_of loaders) (standing old) l.ticket l.next.first in
      loaded_fits (standing old) l.ticket l.answer (closed.quiet, l.next.rests) may.live may.runs may.room

  grown : new ≡ (let more : History = record old { log = old.log ++ Loaded l.ticket l.answer ∷ l.gains.es } in more)
  grown = gains_all old new (Loaded l.ticket l.answer ∷ l.gains.es) l.gains.builtins l.gains.longer

  pub loads_closed : IsClosedHistory new
  loads_closed = gains_closed old new (Loaded l.ticket l.answer) l.gains.es closed fits l.gains.closes grown

  -- less is to be done after a program was run
  pub loads_less : to_do (standing new) < to_do (standing old)
  loads_less = less_to_do old new (Loaded l.ticket l.answer) l.gains.es closed fits l.gains.closes tt grown

-- an entry that comes with no line, no loader and no answer is one of a variable
step_between : (r : Reading) (e : Entry) (mid : Todo) → first_step [] r nothing ≡ Some (e, mid) → IsBetween e
step_between r e mid h = go (closing r) refl (least_var r (ready r)) refl
  where
    same : (x : Entry) → IsBetween x → first_step [] r nothing ≡ Some (x, nothing) → IsBetween e
    same x is step = subst IsBetween (some_pair_parts x e nothing mid (sym step ∙ h)).0 is

    go : (c : Option Entry) → closing r ≡ c → (o : Option ℕ) → least_var r (ready r) ≡ o → IsBetween e
    go (Some x) p o q = same x (of_variable_between x (closing_is x (closing_well r x p).kind)) (closing_step [] r nothing x p)
    go None p (Some v) q = same (next r v) (of_variable_between (next r v) (outcome_is v (next r v) (next_outcome r v))) (ready_step [] r nothing v p q)
    go None p None q = absurd (none-some (e, mid) (sym (no_step r [] p q) ∙ h))

less_after : (r : Reading) (es : List Entry) (left : Todo) → Fit r → LegalFrom r es → SerialFrom [] r nothing es left → to_do (read_from r es) ≤ to_do r
less_after r [] left fit legal h = omega arith
less_after r (e ∷ es) left fit legal h =
    let here : to_do (after r e) < to_do r = uses_up r e fit legal.0 (step_between r e h.0 h.1) in
    let rest : SerialFrom [] (after r e) nothing es left = subst (λ (t : Todo). SerialFrom [] (after r e) t es left) (same_todo r e h.0 h.1) h.2 in
    omega (arith, here, less_after (after r e) es left (fit_after r e fit legal.0) legal.1 rest)

-- no more is to be done after what was ready was done
pub settles_less : (old new : History) → IsClosedHistory old → IsClosedHistory new → Settles old new → to_do (standing new) ≤ to_do (standing old)
settles_less old new before closed s =
    let legal : IsLegal old.builtins (old.log ++ s.es) = subst (λ (l : List Entry). IsLegal old.builtins l) s.longer (subst (λ (b : List (Field Value)). IsLegal b new.log) s.builtins closed.legal) in
    let end : standing new ≡ read_from (standing old) s.es
    = ap (λ (b : List (Field Value)). reading b new.log) s.builtins ∙ ap (reading old.builtins) s.longer ∙ read_append (nothing_yet old.builtins) old.log s.es in
    let less : to_do (read_from (standing old) s.es) ≤ to_do (standing old)
    = less_after (standing old) s.es nothing (fit_log old.builtins old.log before.legal) (legal_back (nothing_yet old.builtins) old.log s.es legal) (s.serial [] nothing) in
    omega (arith, less, ap to_do end)
