-- From an external entry before which nothing is pulling to the next one the entries of variables are at most 3 for each variable.
use Rattle.std.proofs.Common.{inl, inr, ℕ, ◌+◌, ◌*◌, ◌≡◌, ◌<◌, ◌≤◌, refl, sym, ◌∙◌, subst, true, ◌⊎◌, List, [], ◌∷◌, length, arith}
use Rattle.std.proofs.lemmas.Bool.{false≢true}
use Rattle.nb_sheet.specs.Sheet.{Sheet}
use Rattle.nb_history.specs.Reading.{Reading}
use Rattle.nb_history.specs.Rules.{ready}
use Rattle.nb_history.specs.Log.{after, reading, Fits, LegalFrom}
use Rattle.nb_history.specs.Starts.{is_of_variable, AllOfVariables}
use Rattle.nb_history.specs.Work.{open_count, running_count}
use Rattle.nb_history.specs.Ends.{BatchEndsSoon}
use Rattle.nb_log.specs.declared.entry.Entry.{Entry}
use Rattle.nb_log.specs.declared.entry.Entry.TheVariants.{Pending, Fulfilled, Rejected, Asked, Ended, Left}
use Rattle.nb_history.proofs.Lawful.{lawful_log}
use Rattle.nb_history.proofs.Between.{Still, first_pull, still_after, pulls_nothing}
use Rattle.nb_history.proofs.Stretches.{Batch, batch_pending, batch_step, external_step}
use Rattle.nb_history.proofs.Opens.{fewer_open, open_within}
use Rattle.nb_history.proofs.StartsAfter.{Runs}
use Rattle.nb_history.proofs.NextEntry.{IsOutcome, outcome_keeps, outcome_open, ready_runs}
use Rattle.nb_history.proofs.Alone.{closing_runs, fewer_run, running_few}

variable_sheet : (r : Reading) (e : Entry) → is_of_variable e ≡ true → (after r e).sheet ≡ r.sheet
variable_sheet r (Pending u d) is = refl
variable_sheet r (Left u d) is = refl
variable_sheet r (Fulfilled u x) is = refl
variable_sheet r (Rejected u x) is = refl
variable_sheet r (Asked u k key) is = refl
variable_sheet r (Ended u) is = refl
variable_sheet r e is = absurd (false≢true is)

runs_less : (r : Reading) (u : ℕ) (e : Entry) → IsOutcome u e → ready r u ≡ true → running_count (after r e) < running_count r
runs_less r u e of ready_u = let k : Runs r u = ready_runs r u ready_u in fewer_run r u e k.start of k.there k.running

-- ---- where nothing is pulling

abbrev left_to_run : Reading → ℕ
left_to_run r = 2 * open_count r + running_count r

-- each outcome is of a first pull
still_outcome : (r : Reading) → Still r → (u : ℕ) (e : Entry) → IsOutcome u e → ready r u ≡ true → left_to_run (after r e) < left_to_run r
still_outcome r still u e of ready_u =
    let k : Runs r u = ready_runs r u ready_u in
    elim (outcome_keeps r u e k.start of).renews [
      | inl renewed ↦ omega (arith, outcome_open r u e k.start of k.there renewed, runs_less r u e of ready_u)
      | inr later ↦ absurd (false≢true (sym (first_pull r still u ready_u k.start k.there) ∙ later.0))
    ]

still_less : (r : Reading) (e : Entry) → Still r → is_of_variable e ≡ true → Fits r e → left_to_run (after r e) < left_to_run r
still_less r (Pending u d) still is fits = omega (arith, fewer_open r (Pending u d) still.law.sound refl fits, closing_runs r (Pending u d) refl)
still_less r (Left u d) still is fits = omega (arith, fewer_open r (Left u d) still.law.sound refl fits, closing_runs r (Left u d) refl)
still_less r (Fulfilled u x) still is fits = still_outcome r still u (Fulfilled u x) refl fits.1
still_less r (Rejected u x) still is fits = still_outcome r still u (Rejected u x) refl fits.1
still_less r (Asked u k key) still is fits = still_outcome r still u (Asked u k key) refl fits.1
still_less r (Ended u) still is fits = still_outcome r still u (Ended u) refl fits.1
still_less r e still is fits = absurd (false≢true is)

still_within : (r : Reading) (es : List Entry) → Still r → AllOfVariables es → LegalFrom r es → length es ≤ left_to_run r
still_within r [] still all legal = omega arith
still_within r (e ∷ es) still all legal =
    omega (arith, still_within (after r e) es (still_after r e still all.0 legal.0) all.1 legal.1, still_less r e still all.0 legal.0)

still_few : (r : Reading) (es : List Entry) → Still r → AllOfVariables es → LegalFrom r es → length es ≤ 2 * length r.sheet.rows + running_count r
still_few r es still all legal = omega (arith, still_within r es still all legal, open_within r)

-- ---- before that, outcomes alone

batch_less : (r : Reading) (e : Entry) → Batch r → Fits r e → is_of_variable e ≡ true → (running_count (after r e) < running_count r) ⊎ Still r
batch_less r (Pending u d) batch fits is = inr (record { law = batch.law; pulls = pulls_nothing r batch.law.sound (batch_pending r batch u fits.0) })
batch_less r (Left u d) batch fits is = absurd (false≢true (sym (batch.stays u) ∙ fits.0))
batch_less r (Fulfilled u x) batch fits is = inl (runs_less r u (Fulfilled u x) refl fits.1)
batch_less r (Rejected u x) batch fits is = inl (runs_less r u (Rejected u x) refl fits.1)
batch_less r (Asked u k key) batch fits is = inl (runs_less r u (Asked u k key) refl fits.1)
batch_less r (Ended u) batch fits is = inl (runs_less r u (Ended u) refl fits.1)
batch_less r e batch fits is = absurd (false≢true is)

batch_few : (r : Reading) (es : List Entry) → Batch r → AllOfVariables es → LegalFrom r es → length es ≤ 2 * length r.sheet.rows + running_count r
batch_few r [] batch all legal = omega arith
batch_few r (e ∷ es) batch all legal =
    elim (batch_less r e batch legal.0 all.0) [
      | inr still ↦ still_few r (e ∷ es) still all legal
      | inl less ↦ elim (batch_step r e batch legal.0 all.0) [
        | inr still ↦ still_few r (e ∷ es) still all legal
        | inl next_batch ↦
            let more : length es ≤ 2 * length (after r e).sheet.rows + running_count (after r e) = batch_few (after r e) es next_batch all.1 legal.1 in
            let same : length es ≤ 2 * length r.sheet.rows + running_count (after r e) = subst (λ (s : Sheet). length es ≤ 2 * length s.rows + running_count (after r e)) (variable_sheet r e all.0) more in
            omega (arith, same, less)
      ]
    ]

pub batch_ends_soon : BatchEndsSoon
batch_ends_soon builtins log e es legal more is none all =
    let r : Reading = reading builtins log in
    let q : Reading = after r e in
    elim (external_step r e (lawful_log builtins log legal) more.0 is none) [
      | inl batch ↦ omega (arith, batch_few q es batch all more.1, running_few q batch.law.sound)
      | inr still ↦ omega (arith, still_few q es still all more.1, running_few q still.law.sound)
    ]
