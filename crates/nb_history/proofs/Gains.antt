-- A closed history that gains an entry that fits, and what closes after it, is closed again.
use Rattle.std.proofs.Common.{ℕ, ◌≡◌, ◌<◌, ◌≤◌, refl, arith, sym, ◌∙◌, ap, subst, Bool, true, false, List, [], ◌∷◌, ◌++◌, Option, Some, None}
use Rattle.std.proofs.lemmas.Bool.{false≢true, false_from_ne_true}
use Rattle.nb_value.specs.declared.value.Value.{Value}
use Rattle.nb_value.specs.declared.pairs.Field.{Field}
use Rattle.nb_sheet.specs.Lists.{Name, numbers}
use Rattle.nb_log.specs.declared.entry.Entry.{Entry}
use Rattle.nb_history.specs.Reading.{Reading}
use Rattle.nb_history.specs.Rules.{leaving, may_start, ready, next}
use Rattle.nb_history.specs.Log.{nothing_yet, after, read_from, Fits, LegalFrom, IsQuiet}
use Rattle.nb_history.specs.Serial.{least_var, closing, Closes, Todo, SerialFrom}
use Rattle.nb_history.specs.Work.{to_do}
use Rattle.nb_history.specs.Ends.{IsBetween}
use Rattle.nb_history.specs.Quiet.{may_open}
use Rattle.nb_history.specs.History.{History, standing, plus, plus_all, IsClosedHistory}
use Rattle.nb_history.proofs.Closing.{first_some, closing_none}
use Rattle.nb_history.proofs.Histories.{legal_append, closes_legal, closed_in_the_end, serial_append, closes_serial, ready_step}
use Rattle.nb_history.proofs.Shapes.{sound_first, sound_reading}
use Rattle.nb_history.proofs.RunsEnd.{quiet_closed, all_closing}
use Rattle.nb_history.proofs.NextEntry.{next_outcome, next_fits}
use Rattle.nb_history.proofs.EntryKinds.{outcome_is, of_variable_between}
use Rattle.nb_history.proofs.Runs.{may_due}
use Rattle.nb_history.proofs.ToDo.{Fit, fit_after, fit_log, uses_up, run_less}
use Rattle.nb_history.proofs.QuietEntries.{stays_quiet}
use Rattle.nb_history.proofs.Plus.{standing_plus_all}

-- ---- where nothing is leaving or due, nothing closes

none_of : (r : Reading) (test : ℕ → Bool) → ((v : ℕ) → test v ≡ false) → least_var r test ≡ None
none_of r test h = go (least_var r test) refl
  where
    go : (o : Option ℕ) → least_var r test ≡ o → o ≡ None
    go None e = refl
    go (Some v) e = absurd (false≢true (sym (h v) ∙ (first_some test (numbers r.sheet.rows) v e).0))

pub nothing_closes : (r : Reading) → IsQuiet r → Closes r []
nothing_closes r quiet =
    closing_none r (none_of r (leaving r) (λ v. (quiet v).0))
    (none_of r (may_start r) (λ v. false_from_ne_true (may_start r v) (λ h. false≢true (sym (quiet v).1 ∙ may_due r v h))))

-- the history without entries is closed
pub none_closed : (builtins : List (Field Value)) → IsClosedHistory (record { builtins = builtins; log = [] })
none_closed builtins = record { legal = tt; closed = refl; quiet = quiet_closed (nothing_yet builtins) (sound_first builtins) refl }

-- ---- closed again

-- the two histories are over the same builtins, and these are the entries that the new one has more
pub gains_all : (old new : History) (es : List Entry) → new.builtins ≡ old.builtins → new.log ≡ old.log ++ es → new ≡ plus_all old es
gains_all old new es same longer = ap (λ (b : List (Field Value)). record { builtins = b; log = new.log }) same ∙ ap (λ (l : List Entry). record old { log = l }) longer

module _ (old new : History) (e : Entry) (es : List Entry) (closed : IsClosedHistory old) (fits : Fits (standing old) e) (closes : Closes (after (standing old) e) es) where
  abbrev all : LegalFrom (standing old) (e ∷ es)
  all = (fits, closes_legal (after (standing old) e) es closes)

  none : closing (standing (plus_all old (e ∷ es))) ≡ None
  none = ap closing (standing_plus_all old (e ∷ es)) ∙ closed_in_the_end (after (standing old) e) es closes

  pub gains_closed : new ≡ plus_all old (e ∷ es) → IsClosedHistory new
  gains_closed is = subst IsClosedHistory (sym is) (record {
    legal = legal_append (nothing_yet old.builtins) old.log (e ∷ es) closed.legal all;
    closed = none;
    quiet = quiet_closed (standing (plus_all old (e ∷ es))) (sound_reading old.builtins (old.log ++ e ∷ es)) none;
  })

  pub gains_closed_by : new.builtins ≡ old.builtins → new.log ≡ old.log ++ e ∷ es → IsClosedHistory new
  gains_closed_by same longer = gains_closed (gains_all old new (e ∷ es) same longer)

  -- and less is to be done, where the entry is one of a variable or a loader's answer
  pub less_to_do : IsBetween e → new ≡ plus_all old (e ∷ es) → to_do (standing new) < to_do (standing old)
  less_to_do between is =
      let r : Reading = standing old in
      let fit : Fit r = fit_log old.builtins old.log closed.legal in
      let here : to_do (after r e) < to_do r = uses_up r e fit fits between in
      let rest : to_do (read_from (after r e) es) ≤ to_do (after r e) = run_less (after r e) es (fit_after r e fit fits) (all_closing (after r e) es closes) (closes_legal (after r e) es closes) in
      let end : to_do (standing new) ≡ to_do (read_from (after r e) es) = ap (λ (h : History). to_do (standing h)) is ∙ ap to_do (standing_plus_all old (e ∷ es)) in
      omega (arith, here, rest, end)

-- ---- an entry after which nothing closes

module _ (old new : History) (e : Entry) (closed : IsClosedHistory old) (fits : Fits (standing old) e) where
  pub one_closed : IsQuiet (after (standing old) e) → new ≡ plus old e → IsClosedHistory new
  one_closed quiet = gains_closed old new e [] closed fits (nothing_closes (after (standing old) e) quiet)

  -- as it is of each that opens nothing
  pub stays_closed : may_open e ≡ false → new ≡ plus old e → IsClosedHistory new
  stays_closed shut = one_closed (stays_quiet (standing old) e shut closed.quiet)

-- ---- the next entry of a ready variable

module _ (old new : History) (v : ℕ) (es : List Entry) (closed : IsClosedHistory old) (is_ready : ready (standing old) v ≡ true) (closes : Closes (after (standing old) (next (standing old) v)) es) where
  pub next_closed : new ≡ plus_all old (next (standing old) v ∷ es) → IsClosedHistory new
  next_closed = gains_closed old new (next (standing old) v) es closed (next_fits (standing old) v closed.quiet is_ready) closes

  pub used_up : new ≡ plus_all old (next (standing old) v ∷ es) → to_do (standing new) < to_do (standing old)
  used_up =
      less_to_do old new (next (standing old) v) es closed (next_fits (standing old) v closed.quiet is_ready) closes
      (of_variable_between (next (standing old) v) (outcome_is v (next (standing old) v) (next_outcome (standing old) v)))

-- ---- it goes on with the serial history

pub next_serial : (keys : List Name) (h : History) (todo : Todo) (v : ℕ) (es : List Entry) → IsClosedHistory h → least_var (standing h) (ready (standing h)) ≡ Some v
    → Closes (after (standing h) (next (standing h) v)) es → SerialFrom keys (standing h) todo (next (standing h) v ∷ es) todo
next_serial keys h todo v es closed least closes =
    (todo, ready_step keys (standing h) todo v closed.closed least, closes_serial keys (after (standing h) (next (standing h) v)) todo es closes)

pub serial_on : (keys : List Name) (old mid : History) (todo then left : Todo) (es fs : List Entry) → mid ≡ plus_all old es → SerialFrom keys (standing old) todo es then
    → SerialFrom keys (standing mid) then fs left → SerialFrom keys (standing old) todo (es ++ fs) left
serial_on keys old mid todo then left es fs is first later =
    serial_append keys (standing old) todo then left es fs first
    (subst (λ (r : Reading). SerialFrom keys r then fs left) (ap standing is ∙ standing_plus_all old es) later)
