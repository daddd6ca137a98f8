-- What the next entry of a ready variable changes, and what it leaves as it was.
use Rattle.std.proofs.Common.{inl, inr, ℕ, ◌+◌, ◌≡◌, ◌≤◌, refl, sym, ◌∙◌, ap, subst, Bool, true, false, cond, ◌⊎◌, length, Option, Some, None}
use Rattle.std.specs.Prelude.{nat_le, ◌==◌}
use Rattle.std.proofs.lemmas.Option.{same_Some}
use Rattle.nb_sheet.specs.Lists.{put, from_option, option_then}
use Rattle.nb_eval.specs.Evaluation.{Evaluated}
use Rattle.nb_eval.specs.declared.given.Ending.{Ending}
use Rattle.nb_eval.specs.declared.given.Ending.TheVariants.{Paused, Needs, Done, Failed}
use Rattle.nb_value.specs.declared.outcome.CellError.{CellError}
use Rattle.nb_value.specs.declared.outcome.Outcome.TheVariants.{Value as Shows, Error as Fails}
use Rattle.nb_history.specs.Reading.{Reading, Start, start_of, shown}
use Rattle.nb_history.specs.Rules.{ready, evaluation, deciding_error, entry_of, evaluated, next, generates, body_of, pulls_of}
use Rattle.nb_history.specs.Work.{open_count}
use Rattle.nb_history.specs.Log.{after, showing, asking, ending_now, Fits, IsQuiet, IsNext}
use Rattle.nb_log.specs.declared.entry.Entry.{Entry}
use Rattle.nb_log.specs.declared.entry.Entry.TheVariants.{Fulfilled, Rejected, Asked, Ended}
use Rattle.std.proofs.lemmas.Bool.{false≢true, eqb-true}
use Rattle.nb_history.specs.Starts.{is_notice_of}
use Rattle.nb_history.proofs.StartsAfter.{Runs, running_start}
use Rattle.nb_history.proofs.Lawful.{ready_parts}
use Rattle.nb_history.proofs.Between.{Keeps}
use Rattle.nb_history.proofs.Opens.{open_change}

-- an entry that may be the next of v
abbrev pub IsOutcome : ℕ → Entry → Type 0
IsOutcome v (Fulfilled u x) = u ≡ v
IsOutcome v (Rejected u e) = u ≡ v
IsOutcome v (Asked u t key) = u ≡ v
IsOutcome v (Ended u) = u ≡ v
IsOutcome v e = ⊥

entry_outcome : (t v : ℕ) (generator first : Bool) (end : Evaluated) (ending : Ending) → IsOutcome v (entry_of t v generator first end ending)
entry_outcome t v generator first end (Needs key) = refl
entry_outcome t v generator first end (Failed e) = refl
entry_outcome t v generator first end Paused = refl
entry_outcome t v false first end (Done x) = refl
entry_outcome t v true true end (Done x) = refl
entry_outcome t v true false end (Done x) = refl

pub next_outcome : (r : Reading) (v : ℕ) → IsOutcome v (next r v)
next_outcome r v = go (deciding_error r (shown r) v)
  where
    go : (o : Option CellError) → IsOutcome v (from_option (evaluated r v) (λ e. Rejected v e) o)
    go None = entry_outcome (length r.tickets + 1) v (generates (body_of r.sheet v)) (pulls_of r v == 1) (evaluation r (shown r) v) (evaluation r (shown r) v).ending
    go (Some e) = refl

pub ready_runs : (r : Reading) (v : ℕ) → ready r v ≡ true → Runs r v
ready_runs r v h = running_start r v (ready_parts r v h).running

-- each `asked`, `fulfilled`, `rejected` or `ended` is of a ready variable
pub outcome_ready : (r : Reading) (e : Entry) (v : ℕ) → is_notice_of v e ≡ true → Fits r e → ready r v ≡ true
outcome_ready r (Fulfilled u x) v h fits = subst (λ (w : ℕ). ready r w ≡ true) (eqb-true u v h) fits.1
outcome_ready r (Rejected u e) v h fits = subst (λ (w : ℕ). ready r w ≡ true) (eqb-true u v h) fits.1
outcome_ready r (Asked u t key) v h fits = subst (λ (w : ℕ). ready r w ≡ true) (eqb-true u v h) fits.1
outcome_ready r (Ended u) v h fits = subst (λ (w : ℕ). ready r w ≡ true) (eqb-true u v h) fits.1
outcome_ready r e v h fits = absurd (false≢true h)

-- it fits where nothing is leaving or due
pub outcome_fits : (r : Reading) (v : ℕ) (e : Entry) → IsOutcome v e → e ≡ next r v → IsQuiet r → ready r v ≡ true → Fits r e
outcome_fits r v (Fulfilled u x) h is quiet ready_v = subst (λ (w : ℕ). IsNext r w (Fulfilled u x)) (sym h) (quiet, ready_v, is)
outcome_fits r v (Rejected u e) h is quiet ready_v = subst (λ (w : ℕ). IsNext r w (Rejected u e)) (sym h) (quiet, ready_v, is)
outcome_fits r v (Asked u t key) h is quiet ready_v = subst (λ (w : ℕ). IsNext r w (Asked u t key)) (sym h) (quiet, ready_v, is)
outcome_fits r v (Ended u) h is quiet ready_v = subst (λ (w : ℕ). IsNext r w (Ended u)) (sym h) (quiet, ready_v, is)
outcome_fits r v e h is quiet ready_v = absurd h

pub next_fits : (r : Reading) (v : ℕ) → IsQuiet r → ready r v ≡ true → Fits r (next r v)
next_fits r v quiet ready_v = outcome_fits r v (next r v) (next_outcome r v) refl quiet ready_v

-- ---- what it makes of the start

abbrev pub outcome_start : Reading → Entry → Start → Start
outcome_start r (Fulfilled v x) s = showing r v (Shows x) s
outcome_start r (Rejected v e) s = showing r v (Fails e) s
outcome_start r (Asked v t key) s = asking r v t s
outcome_start r (Ended v) s = ending_now r v s
outcome_start r e s = s

pub outcome_starts : (r : Reading) (v : ℕ) (e : Entry) → IsOutcome v e → (after r e).starts ≡ put r.starts v (option_then (start_of r v) (λ s. Some (outcome_start r e s)))
outcome_starts r v (Fulfilled u x) h = ap (λ (w : ℕ). put r.starts w (option_then (start_of r w) (λ s. Some (showing r u (Shows x) s)))) h
outcome_starts r v (Rejected u e) h = ap (λ (w : ℕ). put r.starts w (option_then (start_of r w) (λ s. Some (showing r u (Fails e) s)))) h
outcome_starts r v (Asked u t key) h = ap (λ (w : ℕ). put r.starts w (option_then (start_of r w) (λ s. Some (asking r u t s)))) h
outcome_starts r v (Ended u) h = ap (λ (w : ℕ). put r.starts w (option_then (start_of r w) (λ s. Some (ending_now r u s)))) h
outcome_starts r v e h = absurd h

pub outcome_sheet : (r : Reading) (v : ℕ) (e : Entry) → IsOutcome v e → (after r e).sheet ≡ r.sheet
outcome_sheet r v (Fulfilled u x) h = refl
outcome_sheet r v (Rejected u e) h = refl
outcome_sheet r v (Asked u t key) h = refl
outcome_sheet r v (Ended u) h = refl
outcome_sheet r v e h = absurd h

-- the parts of the start that stay, and that it runs no more
pub record Outcome (s t : Start) : Type 0 where
  pub kept : t.kept ≡ s.kept
  pub pulls : t.pulls ≡ s.pulls
  pub answers : t.answers ≡ s.answers
  pub stops : t.running ≡ false
  -- the renewal stays, or it was a second or later pull that has its outcome now
  pub renews : (t.renewal ≡ s.renewal) ⊎ ((nat_le 2 s.pulls ≡ true) × (t.ticket ≡ s.ticket))

renewed : (r : Reading) (s : Start) (b : Bool) → nat_le 2 s.pulls ≡ b → (cond (nat_le 2 s.pulls) (r.entries + 1) s.renewal ≡ s.renewal) ⊎ ((nat_le 2 s.pulls ≡ true) × (s.ticket ≡ s.ticket))
renewed r s true e = inr (e, refl)
renewed r s false e = inl (ap (λ (b : Bool). cond b (r.entries + 1) s.renewal) e)

pub outcome_keeps : (r : Reading) (v : ℕ) (e : Entry) (s : Start) → IsOutcome v e → Outcome s (outcome_start r e s)
outcome_keeps r v (Fulfilled u x) s h = record { kept = refl; pulls = refl; answers = refl; stops = refl; renews = renewed r s (nat_le 2 s.pulls) refl }
outcome_keeps r v (Rejected u x) s h = record { kept = refl; pulls = refl; answers = refl; stops = refl; renews = renewed r s (nat_le 2 s.pulls) refl }
outcome_keeps r v (Asked u t key) s h = record { kept = refl; pulls = refl; answers = refl; stops = refl; renews = inl refl }
outcome_keeps r v (Ended u) s h = record { kept = refl; pulls = refl; answers = refl; stops = refl; renews = inl refl }
outcome_keeps r v e s h = absurd h

-- ---- where no renewal changes, nothing opens

keeps_at : (r : Reading) (u v : ℕ) (change : Start → Start) (s : Start) → u ≡ v → start_of r v ≡ Some s → Keeps s (change s) → (x : Start) → start_of r u ≡ Some x → Keeps x (change x)
keeps_at r u v change s same there k x at = subst (λ (y : Start). Keeps y (change y)) (same_Some s x (sym there ∙ (ap (start_of r) (sym same) ∙ at))) k

pub outcome_open : (r : Reading) (v : ℕ) (e : Entry) (s : Start) → IsOutcome v e → start_of r v ≡ Some s → (outcome_start r e s).renewal ≡ s.renewal → open_count (after r e) ≤ open_count r
outcome_open r v (Fulfilled u x) s h there renewed =
    open_change r u (showing r u (Shows x)) (keeps_at r u v (showing r u (Shows x)) s h there (record { number = refl; kept = refl; renewal = renewed }))
outcome_open r v (Rejected u x) s h there renewed =
    open_change r u (showing r u (Fails x)) (keeps_at r u v (showing r u (Fails x)) s h there (record { number = refl; kept = refl; renewal = renewed }))
outcome_open r v (Asked u t key) s h there renewed =
    open_change r u (asking r u t) (keeps_at r u v (asking r u t) s h there (record { number = refl; kept = refl; renewal = renewed }))
outcome_open r v (Ended u) s h there renewed =
    open_change r u (ending_now r u) (keeps_at r u v (ending_now r u) s h there (record { number = refl; kept = refl; renewal = renewed }))
outcome_open r v e s h there renewed = absurd h
