-- Each cleanup that a start records is disposed of once, or owed.
use Rattle.std.proofs.Common.{inl, inr, ℕ, zero, suc, ◌+◌, ◌≡◌, refl, sym, ◌∙◌, ap, append_assoc, append-nil, Bool, true, false, cond, List, [], ◌∷◌, ◌++◌, map, Option, Some, None, is_some}
use Rattle.std.specs.Prelude.{◌==◌}
use Rattle.std.proofs.lemmas.Bool.{cases_eq, false≢true, eq-eqb, ne_eqb}
use Rattle.std.proofs.lemmas.Option.{none-some}
use Rattle.nb_value.specs.declared.value.Value.{Value}
use Rattle.nb_value.specs.declared.outcome.CellError.{CellError}
use Rattle.nb_eval.specs.Evaluation.{Evaluated}
use Rattle.nb_sheet.specs.Sheet.{edited_sheet}
use Rattle.nb_value.specs.declared.outcome.Outcome.TheVariants.{Value as Shows, Error as Fails}
use Rattle.nb_sheet.specs.Lists.{from_option, option_then}
use Rattle.nb_history.specs.Reading.{Reading, Start, start_of, shown, owed}
use Rattle.nb_history.specs.Rules.{evaluation, deciding_error, footing}
use Rattle.nb_history.specs.Log.{nothing_yet, after, read_from, Fits, LegalFrom, cleanups_now, change_start, showing, asking, ending_now, answering, settle, ticket_var, new_start}
use Rattle.nb_history.specs.Starts.{starts, is_notice_of}
use Rattle.nb_history.specs.Cleanups.{Records, recorded_too, records_from, last_or, put_together, of_start, disposed_by, disposed, CleansUpOnce}
use Rattle.nb_log.specs.declared.entry.Entry.{Entry}
use Rattle.nb_log.specs.declared.entry.Entry.TheVariants.{Edit, Frame, Settled, Late, Loaded, Refused, Rest, Dispose, Pending, Fulfilled, Rejected, Asked, Ended, Left}
use Rattle.nb_history.proofs.Closing.{due_has, leaving_has}
use Rattle.nb_history.proofs.Shapes.{Sound, sound_after, sound_first}
use Rattle.nb_history.proofs.Runs.{some_start, may_due}
use Rattle.nb_history.proofs.StartsAfter.{start_put, start_put_other, changed_part, changed_itself, changed_other, start_sheet, start_pulled, pulled_part, idle_after, Runs}
use Rattle.nb_history.proofs.NextEntry.{ready_runs, outcome_ready}

-- ---- one step, of lists alone

abbrev those : Records → List Value
those later = put_together (map of_start later.1)

-- what is disposed of from here on, and owed in the end, is what is recorded from here on, where this is owed now
abbrev Accounts : List Value → List Value → List Value → Records → Type 0
Accounts ds end now later = ds ++ end ≡ last_or now later.0 ++ those later

other_step : (st oc : Bool) (d ds end now was here : List Value) (later : Records) → st ≡ false → oc ≡ false → d ≡ [] → now ≡ was
    → Accounts ds end now later → Accounts (d ++ ds) end was (recorded_too st oc here later)
other_step true oc d ds end now was here later s o none same h = absurd (false≢true (sym s))
other_step false true d ds end now was here later s o none same h = absurd (false≢true (sym o))
other_step false false d ds end now was here later s o none same h =
    ap (λ (x : List Value). (x ++ ds) ++ end) none ∙ h ∙ ap (λ (x : List Value). last_or x later.0 ++ those later) same

start_step : (st oc : Bool) (d ds end now was here : List Value) (later : Records) → st ≡ true → d ≡ was → now ≡ []
    → Accounts ds end now later → Accounts (d ++ ds) end was (recorded_too st oc here later)
start_step false oc d ds end now was here later s same none h = absurd (false≢true s)
start_step true oc d ds end now was here later s same none h =
    append_assoc d ds end ∙ ap (λ (x : List Value). d ++ x) h
    ∙ ap (λ (x : List Value). d ++ (last_or x later.0 ++ those later)) none
    ∙ ap (λ (x : List Value). x ++ (last_or [] later.0 ++ those later)) same

left_step : (st oc : Bool) (d ds end now was here : List Value) (later : Records) → st ≡ false → oc ≡ false → d ≡ was → now ≡ [] → later.0 ≡ []
    → Accounts ds end now later → Accounts (d ++ ds) end was (recorded_too st oc here later)
left_step true oc d ds end now was here later s o same none idle h = absurd (false≢true (sym s))
left_step false true d ds end now was here later s o same none idle h = absurd (false≢true (sym o))
left_step false false d ds end now was here later s o same none idle h =
    append_assoc d ds end ∙ ap (λ (x : List Value). d ++ x) h
    ∙ ap (λ (x : List Value). d ++ (last_or x later.0 ++ those later)) none
    ∙ ap (λ (x : List (List Value)). d ++ (last_or [] x ++ those later)) idle
    ∙ ap (λ (x : List Value). x ++ those later) same
    ∙ sym (ap (λ (x : List (List Value)). last_or was x ++ those later) idle)

outcome_step : (st oc : Bool) (d ds end now was here : List Value) (later : Records) → st ≡ false → oc ≡ true → d ≡ [] → now ≡ here
    → Accounts ds end now later → Accounts (d ++ ds) end was (recorded_too st oc here later)
outcome_step true oc d ds end now was here later s o none same h = absurd (false≢true (sym s))
outcome_step false false d ds end now was here later s o none same h = absurd (false≢true o)
outcome_step false true d ds end now was here later s o none same h =
    ap (λ (x : List Value). (x ++ ds) ++ end) none ∙ h ∙ ap (λ (x : List Value). last_or x later.0 ++ those later) same

-- ---- what is owed after an entry

abbrev owed_in : Option Start → List Value
owed_in o = from_option [] (λ (s : Start). s.owed) o

-- a change by which what is owed stays
stays : (r : Reading) (u v : ℕ) (f : Start → Start) → ((s : Start) → (f s).owed ≡ s.owed) → owed_in (start_of (change_start r u f) v) ≡ owed r v
stays r u v f keeps = changed_part owed_in r u v f (part (start_of r u))
  where
    part : (o : Option Start) → owed_in (option_then o (λ s. Some (f s))) ≡ owed_in o
    part None = refl
    part (Some s) = keeps s

-- of an outcome's variable
outcome_owed : (r : Reading) (v : ℕ) (f : Start → Start) → ((s : Start) → (f s).owed ≡ cleanups_now r v) → Runs r v → owed_in (start_of (change_start r v f) v) ≡ cleanups_now r v
outcome_owed r v f is runs =
    ap owed_in (changed_itself r v f ∙ ap (λ (o : Option Start). option_then o (λ s. Some (f s))) runs.there) ∙ is runs.start

-- ---- an entry of v, and one of another variable

-- what is disposed of and recorded from the entries es on, after r
abbrev pub Balanced : Reading → ℕ → List Entry → Type 0
Balanced r v es = Accounts (disposed v es) (owed (read_from r es) v) (owed r v) (records_from r v es)

module _ (r : Reading) (v : ℕ) (es : List Entry) where
  -- an entry that isn't v's `pending`, `left` or outcome, and leaves what v owes
  aside : (e : Entry) → starts v e ≡ false → is_notice_of v e ≡ false → disposed_by v e ≡ [] → owed (after r e) v ≡ owed r v
      → Balanced (after r e) v es → Balanced r v (e ∷ es)
  aside e s o d same h =
      other_step (starts v e) (is_notice_of v e) (disposed_by v e) (disposed v es) (owed (read_from (after r e) es) v) (owed (after r e) v) (owed r v) (cleanups_now r v) (records_from (after r e) v es) s o d same h

  -- v's outcome
  outcome : (e : Entry) → starts v e ≡ false → is_notice_of v e ≡ true → disposed_by v e ≡ [] → owed (after r e) v ≡ cleanups_now r v
      → Balanced (after r e) v es → Balanced r v (e ∷ es)
  outcome e s o d same h =
      outcome_step (starts v e) (is_notice_of v e) (disposed_by v e) (disposed v es) (owed (read_from (after r e) es) v) (owed (after r e) v) (owed r v) (cleanups_now r v) (records_from (after r e) v es) s o d same h

  -- an outcome of u, which changes its start by f
  of_change : (e : Entry) (u : ℕ) (f : Start → Start) → starts v e ≡ false → is_notice_of v e ≡ (u == v) → disposed_by v e ≡ []
      → start_of (after r e) v ≡ start_of (change_start r u f) v → ((s : Start) → (f s).owed ≡ cleanups_now r u) → Fits r e
      → Balanced (after r e) v es → Balanced r v (e ∷ es)
  of_change e u f s o d same is fits h =
      elim (cases_eq u v) [
        | inl eq ↦
            let here : is_notice_of v e ≡ true = o ∙ eq-eqb u v eq in
            let is_v : (s : Start) → (f s).owed ≡ cleanups_now r v = λ s. is s ∙ ap (cleanups_now r) eq in
            let at_v : start_of (change_start r u f) v ≡ start_of (change_start r v f) v = ap (λ (x : ℕ). start_of (change_start r x f) v) eq in
            outcome e s here d (ap owed_in (same ∙ at_v) ∙ outcome_owed r v f is_v (ready_runs r v (outcome_ready r e v here fits))) h
        | inr other ↦
            let o_other : is_notice_of v e ≡ false = o ∙ ne_eqb u v other in
            aside e s o_other d (ap owed_in (same ∙ changed_other r u v f other)) h
      ]

-- ---- a variable that has left records nothing until it starts

not_idle : (r : Reading) (v : ℕ) → start_of r v ≡ None → Runs r v → ⊥
not_idle r v idle runs = none-some runs.start (sym idle ∙ runs.there)

pub idle_records : (r : Reading) (v : ℕ) (es : List Entry) → start_of r v ≡ None → LegalFrom r es → (records_from r v es).0 ≡ []
idle_records r v [] idle legal = refl
idle_records r v (e ∷ es) idle legal = go (starts v e) refl (is_notice_of v e) refl (λ p. idle_records (after r e) v es (idle_after r e v p idle) legal.1)
  where
    go : (s : Bool) → starts v e ≡ s → (o : Bool) → is_notice_of v e ≡ o → (starts v e ≡ false → (records_from (after r e) v es).0 ≡ []) → (recorded_too s o (cleanups_now r v) (records_from (after r e) v es)).0 ≡ []
    go true p o q on = refl
    go false p true q on = absurd (not_idle r v idle (ready_runs r v (outcome_ready r e v q legal.0)))
    go false p false q on = on p

-- ---- each entry

module _ (r : Reading) (v : ℕ) (es : List Entry) (sound : Sound r) where
  of_pending : (u : ℕ) (d : List Value) → Fits r (Pending u d) → Balanced (after r (Pending u d)) v es → Balanced r v (Pending u d ∷ es)
  of_pending u d fits h =
      elim (cases_eq u v) [
        | inl same ↦
            let here = some_start r sound u (due_has r u (may_due r u fits.0)) in
            let started : start_of (after r (Pending u d)) u ≡ Some (new_start (r.entries + 1) (footing r u)) = start_put r.starts u (Some (new_start (r.entries + 1) (footing r u))) here.0 here.1 in
            let none : owed (after r (Pending u d)) v ≡ [] = ap (owed (after r (Pending u d))) (sym same) ∙ ap owed_in started in
            let is : (u == v) ≡ true = eq-eqb u v same in
            start_step (u == v) false (cond (u == v) d []) (disposed v es) (owed (read_from (after r (Pending u d)) es) v) (owed (after r (Pending u d)) v) (owed r v) (cleanups_now r v)
            (records_from (after r (Pending u d)) v es) is (ap (λ (b : Bool). cond b d []) is ∙ fits.1 ∙ ap (owed r) same) none h
        | inr other ↦
            let isnt : (u == v) ≡ false = ne_eqb u v other in
            aside r v es (Pending u d) isnt refl (ap (λ (b : Bool). cond b d []) isnt)
            (ap owed_in (start_put_other r.starts u v (Some (new_start (r.entries + 1) (footing r u))) other)) h
      ]

  of_left : (u : ℕ) (d : List Value) → Fits r (Left u d) → LegalFrom (after r (Left u d)) es → Balanced (after r (Left u d)) v es → Balanced r v (Left u d ∷ es)
  of_left u d fits legal h =
      elim (cases_eq u v) [
        | inl same ↦
            let here = some_start r sound u (leaving_has r sound.shaped u fits.0) in
            let gone : start_of (after r (Left u d)) u ≡ None = start_put r.starts u None here.0 here.1 in
            let gone_v : start_of (after r (Left u d)) v ≡ None = ap (start_of (after r (Left u d))) (sym same) ∙ gone in
            let is : (u == v) ≡ true = eq-eqb u v same in
            left_step false false (cond (u == v) d []) (disposed v es) (owed (read_from (after r (Left u d)) es) v) (owed (after r (Left u d)) v) (owed r v) (cleanups_now r v)
            (records_from (after r (Left u d)) v es) refl refl (ap (λ (b : Bool). cond b d []) is ∙ fits.1 ∙ ap (owed r) same) (ap owed_in gone_v)
            (idle_records (after r (Left u d)) v es gone_v legal) h
        | inr other ↦
            let isnt : (u == v) ≡ false = ne_eqb u v other in
            aside r v es (Left u d) refl refl (ap (λ (b : Bool). cond b d []) isnt) (ap owed_in (start_put_other r.starts u v None other)) h
      ]

pub balanced : (r : Reading) (v : ℕ) (es : List Entry) → Sound r → LegalFrom r es → Balanced r v es
balanced r v [] sound legal = sym (append-nil (owed r v))
balanced r v (e ∷ es) sound legal = step e legal.0 legal.1 (balanced (after r e) v es (sound_after r e sound) legal.1)
  where
    step : (e : Entry) → Fits r e → LegalFrom (after r e) es → Balanced (after r e) v es → Balanced r v (e ∷ es)
    step (Pending u d) fits later h = of_pending r v es sound u d fits h
    step (Left u d) fits later h = of_left r v es sound u d fits later h
    step (Fulfilled u x) fits later h = of_change r v es (Fulfilled u x) u (showing r u (Shows x)) refl refl refl refl (λ s. refl) fits h
    step (Rejected u e) fits later h = of_change r v es (Rejected u e) u (showing r u (Fails e)) refl refl refl refl (λ s. refl) fits h
    step (Asked u t key) fits later h = of_change r v es (Asked u t key) u (asking r u t) refl refl refl refl (λ s. refl) fits h
    step (Ended u) fits later h = of_change r v es (Ended u) u (ending_now r u) refl refl refl refl (λ s. refl) fits h
    step (Edit editor edit) fits later h = aside r v es (Edit editor edit) refl refl refl (ap owed_in (start_sheet r (edited_sheet r.sheet edit (r.entries + 1)) v)) h
    step (Frame editor) fits later h = aside r v es (Frame editor) refl refl refl (ap owed_in (start_pulled r v) ∙ pulled_part owed_in (λ s. refl) r v (start_of r v)) h
    step (Settled editor t a) fits later h = aside r v es (Settled editor t a) refl refl refl (stays (settle r t) (ticket_var r t) v (answering a) (λ s. refl)) h
    step (Loaded t a) fits later h = aside r v es (Loaded t a) refl refl refl (stays (settle r t) (ticket_var r t) v (answering a) (λ s. refl)) h
    step (Late editor t) fits later h = aside r v es (Late editor t) refl refl refl refl h
    step (Refused editor reason event) fits later h = aside r v es (Refused editor reason event) refl refl refl refl h
    step (Rest editor) fits later h = aside r v es (Rest editor) refl refl refl refl h
    step (Dispose editor) fits later h = aside r v es (Dispose editor) refl refl refl refl h

-- the law
pub cleans_up_once : CleansUpOnce
cleans_up_once builtins log legal v =
    let r = nothing_yet builtins in
    let none : (records_from r v log).0 ≡ [] = idle_records r v log (nothing_starts v) legal in
    let later : Records = records_from r v log in
    balanced r v log (sound_first builtins) legal
    ∙ ap (λ (o : Option Start). last_or (owed_in o) later.0 ++ those later) (nothing_starts v)
    ∙ ap (λ (x : List (List Value)). last_or [] x ++ those later) none
  where
    nothing_starts : (v : ℕ) → start_of (nothing_yet builtins) v ≡ None
    nothing_starts zero = refl
    nothing_starts (suc i) = refl
