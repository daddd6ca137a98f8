-- Without a loader's answer each start runs at most once, so the entries of variables in a row are few.
use Rattle.std.proofs.Common.{inl, inr, ℕ, ◌+◌, ◌*◌, ◌≡◌, ◌<◌, ◌≤◌, refl, sym, ap, subst, Bool, true, false, cond, ◌&&◌, List, [], ◌∷◌, length, Option, Some, None, arith, mul-le-mul_right}
use Rattle.std.specs.Prelude.{nat_le}
use Rattle.std.proofs.lemmas.Bool.{false≢true}
use Rattle.nb_sheet.specs.Sheet.{Sheet}
use Rattle.nb_history.specs.Reading.{Reading, Start, start_of}
use Rattle.nb_history.specs.Rules.{footing}
use Rattle.nb_history.specs.Log.{nothing_yet, after, reading, new_start, Fits, LegalFrom}
use Rattle.nb_history.specs.Starts.{is_closing, is_of_variable, AllOfVariables}
use Rattle.nb_history.specs.Work.{is_at_work, later_pull, over_starts, later_pulls, open_count, runs_now, running_count, to_run}
use Rattle.nb_history.specs.Ends.{VariablesEndSoon}
use Rattle.nb_log.specs.declared.entry.Entry.{Entry}
use Rattle.nb_log.specs.declared.entry.Entry.TheVariants.{Pending, Fulfilled, Rejected, Asked, Ended, Left}
use Rattle.nb_history.proofs.Histories.{legal_front, legal_back}
use Rattle.nb_history.proofs.Shapes.{Sound}
use Rattle.nb_history.proofs.Opens.{fewer_open, open_within}
use Rattle.nb_history.proofs.StartsAfter.{Runs}
use Rattle.nb_history.proofs.EachStart.{Each, IsTidy}
use Rattle.nb_history.proofs.NextEntry.{IsOutcome, outcome_start, outcome_sheet, outcome_keeps, outcome_open, ready_runs}
use Rattle.nb_history.proofs.Working.{over_put_le, over_now, closing_pulls, closing_sheet, pulls_stay, pull_ends}
use Rattle.nb_history.proofs.ToDo.{Fit, fit_after, fit_log}

-- ---- how many run

pub closing_runs : (r : Reading) (e : Entry) → is_closing e ≡ true → running_count (after r e) ≤ running_count r + 1
closing_runs r (Pending u d) h = let x : Option Start = Some (new_start (r.entries + 1) (footing r u)) in over_put_le runs_now r.starts u x
closing_runs r (Left u d) h = omega (arith, over_put_le runs_now r.starts u None)
closing_runs r e h = absurd (false≢true h)

pub fewer_run : (r : Reading) (v : ℕ) (e : Entry) (s : Start) → IsOutcome v e → start_of r v ≡ Some s → s.running ≡ true → running_count (after r e) < running_count r
fewer_run r v e s is there runs =
    let one : runs_now (Some s) ≡ 1 = ap (λ (b : Bool). cond b 1 0) runs in
    let none : runs_now (Some (outcome_start r e s)) ≡ 0 = ap (λ (b : Bool). cond b 1 0) (outcome_keeps r v e s is).stops in
    less (running_count (after r e)) (running_count r) (runs_now (Some s)) (runs_now (Some (outcome_start r e s))) (over_now r v e s is there runs runs_now) one none
  where
    less : (a b c d : ℕ) → a + c ≡ b + d → c ≡ 1 → d ≡ 0 → a < b
    less a b c d p q h = omega arith

-- ---- the measure, in numbers: of n variables, a and b later pulls, c and d open, x and y running, before and after

a_close : (n a b c d x y : ℕ) → b ≤ a → d < c → y ≤ x + 1 → b * (1 + 2 * n) + (2 * d + y) < a * (1 + 2 * n) + (2 * c + x)
a_close n a b c d x y pulls fewer left = omega (arith, mul-le-mul_right (1 + 2 * n) pulls, fewer, left)

a_quiet : (n a b c d x y : ℕ) → b ≤ a → d ≤ c → y < x → b * (1 + 2 * n) + (2 * d + y) < a * (1 + 2 * n) + (2 * c + x)
a_quiet n a b c d x y pulls opens left = omega (arith, mul-le-mul_right (1 + 2 * n) pulls, opens, left)

a_pull : (n a b c d x y : ℕ) → b < a → d ≤ n → y < x → b * (1 + 2 * n) + (2 * d + y) < a * (1 + 2 * n) + (2 * c + x)
a_pull n a b c d x y pulls most left =
    let more : (1 + b) * (1 + 2 * n) ≤ a * (1 + 2 * n) = mul-le-mul_right (1 + 2 * n) (omega (arith, pulls)) in
    omega (arith, more, most, left)

-- ---- each entry of a variable

to_run_over : (r q : Reading) → q.sheet ≡ r.sheet → to_run q ≡ later_pulls q * (1 + 2 * length r.sheet.rows) + (2 * open_count q + running_count q)
to_run_over r q same = ap (λ (s : Sheet). later_pulls q * (1 + 2 * length s.rows) + (2 * open_count q + running_count q)) same

of_closing : (r : Reading) (e : Entry) → Sound r → is_closing e ≡ true → Fits r e → to_run (after r e) < to_run r
of_closing r e sound is fits =
    let q = after r e in
    subst (λ (m : ℕ). m < to_run r) (sym (to_run_over r q (closing_sheet r e is)))
    (a_close (length r.sheet.rows) (later_pulls r) (later_pulls q) (open_count r) (open_count q) (running_count r) (running_count q)
    (closing_pulls r e is) (fewer_open r e sound is fits) (closing_runs r e is))

of_outcome : (r : Reading) (v : ℕ) (e : Entry) → Each IsTidy r → IsOutcome v e → Runs r v → to_run (after r e) < to_run r
of_outcome r v e tidy is runs =
    let q = after r e in
    let n = length r.sheet.rows in
    let left : running_count q < running_count r = fewer_run r v e runs.start is runs.there runs.running in
    subst (λ (m : ℕ). m < to_run r) (sym (to_run_over r q (outcome_sheet r v e is)))
    (elim (outcome_keeps r v e runs.start is).renews [
      | inl renewed ↦ a_quiet n (later_pulls r) (later_pulls q) (open_count r) (open_count q) (running_count r) (running_count q)
          (pulls_stay r v e runs.start is runs.there runs.running)
          (outcome_open r v e runs.start is runs.there renewed) left
      | inr later ↦ a_pull n (later_pulls r) (later_pulls q) (open_count r) (open_count q) (running_count r) (running_count q)
          (pull_ends r v e runs.start is runs.there runs.running (tidy v runs.start runs.there runs.running) later.0 later.1)
          (subst (λ (x : Sheet). open_count (after r e) ≤ length x.rows) (outcome_sheet r v e is) (open_within (after r e))) left
    ])

pub runs_down : (r : Reading) (e : Entry) → Fit r → Fits r e → is_of_variable e ≡ true → to_run (after r e) < to_run r
runs_down r (Left v d) h fits is = of_closing r (Left v d) h.law.sound refl fits
runs_down r (Pending v d) h fits is = of_closing r (Pending v d) h.law.sound refl fits
runs_down r (Fulfilled v x) h fits is = of_outcome r v (Fulfilled v x) h.tidy refl (ready_runs r v fits.1)
runs_down r (Rejected v e) h fits is = of_outcome r v (Rejected v e) h.tidy refl (ready_runs r v fits.1)
runs_down r (Asked v t key) h fits is = of_outcome r v (Asked v t key) h.tidy refl (ready_runs r v fits.1)
runs_down r (Ended v) h fits is = of_outcome r v (Ended v) h.tidy refl (ready_runs r v fits.1)
runs_down r e h fits is = absurd (false≢true is)

run_ends : (r : Reading) (es : List Entry) → Fit r → LegalFrom r es → AllOfVariables es → length es ≤ to_run r
run_ends r [] h legal are = omega arith
run_ends r (e ∷ es) h legal are =
    omega (arith, run_ends (after r e) es (fit_after r e h legal.0) legal.1 are.1, runs_down r e h legal.0 are.0)

-- ---- the bound

over_few : (f : Option Start → ℕ) (xs : List (Option Start)) → ((x : Option Start) → f x ≤ 1) → over_starts f xs ≤ length xs
over_few f [] h = omega arith
over_few f (x ∷ xs) h = omega (arith, over_few f xs h, h x)

cond_one : (b : Bool) → cond b 1 0 ≤ 1
cond_one true = omega arith
cond_one false = omega arith

one_pull : (x : Option Start) → later_pull x ≤ 1
one_pull None = omega arith
one_pull (Some s) = cond_one (is_at_work s && nat_le 2 s.pulls)

one_run : (x : Option Start) → runs_now x ≤ 1
one_run None = omega arith
one_run (Some s) = cond_one s.running

pub running_few : (r : Reading) → Sound r → running_count r ≤ length r.sheet.rows
running_few r sound = subst (λ (n : ℕ). running_count r ≤ n) sound.shaped (over_few runs_now r.starts one_run)

to_run_few : (r : Reading) → Sound r → to_run r ≤ 2 * (length r.sheet.rows * length r.sheet.rows) + 4 * length r.sheet.rows
to_run_few r sound =
    at_most (length r.sheet.rows) (later_pulls r) (open_count r) (running_count r)
    (subst (λ (n : ℕ). later_pulls r ≤ n) sound.shaped (over_few later_pull r.starts one_pull)) (open_within r)
    (running_few r sound)
  where
    at_most : (n a c x : ℕ) → a ≤ n → c ≤ n → x ≤ n → a * (1 + 2 * n) + (2 * c + x) ≤ 2 * (n * n) + 4 * n
    at_most n a c x p q h = omega (arith, mul-le-mul_right (1 + 2 * n) p, q, h)

pub variables_end_soon : VariablesEndSoon
variables_end_soon builtins log es legal are =
    let r = nothing_yet builtins in
    let fit : Fit (reading builtins log) = fit_log builtins log (legal_front r log es legal) in
    omega (arith, run_ends (reading builtins log) es fit (legal_back r log es legal) are, to_run_few (reading builtins log) fit.law.sound)
