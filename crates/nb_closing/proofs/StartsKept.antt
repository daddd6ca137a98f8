-- What starts in a run of steps keeps in the end what it rested on when it started.
use Rattle.std.proofs.Common.{ℕ, zero, suc, ◌+◌, ◌≡◌, ◌≢◌, ◌≤◌, ◌<◌, refl, sym, ◌∙◌, ap, subst, Bool, true, false, cond, not, eqb, List, [], ◌∷◌, length, arith, Option, Some, None}
use Rattle.std.specs.Prelude.{slice_get, IsSome}
use Rattle.std.proofs.lemmas.Bool.{false≢true, and_parts, not-true, eq-eqb}
use Rattle.nb_wave.specs.declared.footing.Footing.{Footing as Numbered}
use Rattle.nb_wave.specs.declared.row.Row.{Row}
use Rattle.nb_wave.specs.declared.step.Step.{Step as WaveStep}
use Rattle.nb_wave.specs.declared.step.Step.TheVariants.{Left, Pending}
use Rattle.nb_wave.specs.Rules.{from_option, passes, is_idle, is_leaving, is_wanted, leaving, may_start, least}
use Rattle.nb_wave.specs.Steps.{ended, begun, stepped, next_of, Runs, pending_count}
use Rattle.nb_wave.specs.Wave.{kept_of as kept_in}
use Rattle.nb_wave.proofs.Stepped.{Mild, mild_ended, mild_begun, length_stepped, wanted_stepped, get_stepped_same, get_stepped_other}
use Rattle.nb_wave.proofs.Calm.{passes_row, due_wanted, may_due}
use Rattle.nb_wave.proofs.Runs.{IsLeast, least_some}
use Rattle.nb_closing.specs.Told.{StartsIn}

-- ---- the parts of a next step

pub left_parts : (a b : Option ℕ) (v : ℕ) → next_of a b ≡ Some (Left v) → a ≡ Some v
left_parts None None v h = cc
left_parts None (Some x) v h = cc
left_parts (Some x) b v h = cc

pub pending_parts : (a b : Option ℕ) (v : ℕ) → next_of a b ≡ Some (Pending v) → (a ≡ None) × (b ≡ Some v)
pending_parts None None v h = cc
pending_parts None (Some x) v h = let e : x ≡ v = cc in (refl, ap (λ (y : ℕ). Some y) e)
pending_parts (Some x) b v h = cc

pub none_parts : (a b : Option ℕ) → next_of a b ≡ None → (a ≡ None) × (b ≡ None)
none_parts None None h = (refl, refl)
none_parts None (Some x) h = cc
none_parts (Some x) b h = cc

-- ---- what a wanted variable keeps

kept_other : (f : Row → Row) → Mild f → (u n : ℕ) (rows : List Row) (v : ℕ) → u ≢ v → passes is_wanted rows v ≡ true → kept_in (stepped f u n rows) v ≡ kept_in rows v
kept_other f mild u n rows v other w =
    let t : (row : Row) × (slice_get rows v ≡ Some row) × (is_wanted row ≡ true) = passes_row is_wanted rows v w in
    ap (from_option None (λ (row : Row). row.kept)) (get_stepped_other f mild u n rows v t.0 other t.1) ∙ sym (ap (from_option None (λ (row : Row). row.kept)) t.1)

-- what is wanted doesn't leave
stays : (rows : List Row) (u v : ℕ) → leaving rows u ≡ true → passes is_wanted rows v ≡ true → u ≢ v
stays rows u v l w e =
    let t : (row : Row) × (slice_get rows u ≡ Some row) × (is_leaving row ≡ true) = passes_row is_leaving rows u l in
    let unwanted : is_wanted t.0 ≡ false = not-true (is_wanted t.0) (and_parts (not (is_wanted t.0)) (not (is_idle t.0)) t.2).0 in
    false≢true (sym unwanted ∙ sym (ap (from_option false is_wanted) t.1) ∙ (ap (passes is_wanted rows) e ∙ w))

-- how often v starts in what comes after a start
fewer : (b : Bool) (n : ℕ) → cond b 1 0 + n ≡ 0 → (b ≡ false) × (n ≡ 0)
fewer true n h = absurd (omega (arith, h))
fewer false n h = (refl, omega (arith, h))

kept_stays : (steps : List WaveStep) (rows new : List Row) (place v : ℕ) → Runs rows place steps new → passes is_wanted rows v ≡ true → pending_count v steps ≡ 0 → kept_in new v ≡ kept_in rows v
kept_stays [] rows new place v runs w none = ap (λ (l : List Row). kept_in l v) (sym runs)
kept_stays (Left u ∷ steps) rows new place v runs w none =
    let l : leaving rows u ≡ true = IsLeast.here (least_some leaving rows u (left_parts (least leaving rows) (least may_start rows) u runs.0)) in
    let wanted_then : passes is_wanted (stepped ended u 0 rows) v ≡ true = wanted_stepped ended mild_ended u 0 rows v ∙ w in
    kept_stays steps (stepped ended u 0 rows) new (place + 1) v runs.1 wanted_then (omega (arith, none)) ∙ kept_other ended mild_ended u 0 rows v (stays rows u v l w) w
kept_stays (Pending u ∷ steps) rows new place v runs w none =
    let t : (eqb u v ≡ false) × (pending_count v steps ≡ 0) = fewer (eqb u v) (pending_count v steps) none in
    let other : u ≢ v = λ e. false≢true (sym t.0 ∙ eq-eqb u v e) in
    let wanted_then : passes is_wanted (stepped begun u place rows) v ≡ true = wanted_stepped begun mild_begun u place rows v ∙ w in
    kept_stays steps (stepped begun u place rows) new (place + 1) v runs.1 wanted_then t.1 ∙ kept_other begun mild_begun u place rows v other w

-- ---- what starts

-- v is a variable whose row kept in the end what it rested on
pub record StartsAt (rows new : List Row) (v : ℕ) : Type 0 where
  pub row : Row
  pub at : slice_get rows v ≡ Some row
  pub kept : kept_in new v ≡ Some row.present
  pub low : 1 ≤ v
  pub inside : v < length rows

abbrev pub Once : List WaveStep → Type 0
Once steps = (v : ℕ) → pending_count v steps ≤ 1

pub once_later : (s : WaveStep) (steps : List WaveStep) → Once (s ∷ steps) → Once steps
once_later s steps once v = omega (arith, once v)

not_later : (v : ℕ) (steps : List WaveStep) → Once (Pending v ∷ steps) → pending_count v steps ≡ 0
not_later v steps once = least_zero (eqb v v) (pending_count v steps) (eq-eqb v v refl) (once v)
  where
    least_zero : (b : Bool) (n : ℕ) → b ≡ true → cond b 1 0 + n ≤ 1 → n ≡ 0
    least_zero true n e h = omega (arith, h)
    least_zero false n e h = absurd (false≢true e)

pub starts_at : (steps : List WaveStep) (rows new : List Row) (place v : ℕ) → Runs rows place (Pending v ∷ steps) new → Once (Pending v ∷ steps) → StartsAt rows new v
starts_at steps rows new place v runs once =
    let l : IsLeast may_start rows v = least_some may_start rows v (pending_parts (least leaving rows) (least may_start rows) v runs.0).1 in
    let w : passes is_wanted rows v ≡ true = due_wanted rows v (may_due rows v l.here) in
    let t : (row : Row) × (slice_get rows v ≡ Some row) × (is_wanted row ≡ true) = passes_row is_wanted rows v w in
    record {
      row = t.0;
      at = t.1;
      kept = kept_stays steps (stepped begun v place rows) new (place + 1) v runs.1 (wanted_stepped begun mild_begun v place rows v ∙ w) (not_later v steps once)
          ∙ ap (from_option None (λ (row : Row). row.kept)) (get_stepped_same begun mild_begun v place rows t.0 t.1);
      low = l.low;
      inside = l.inside;
    }

some_there : (o : Option Numbered) (f : Numbered) → o ≡ Some f → IsSome o
some_there None f h = cc
some_there (Some k) f h = refl

-- each step that starts a variable can be read off in the end
pub all_start : (steps : List WaveStep) (rows new : List Row) (place : ℕ) → length rows ≡ 1025 → Runs rows place steps new → Once steps
    → (i : ℕ) (s : WaveStep) → slice_get steps i ≡ Some s → StartsIn new s
all_start [] rows new place size runs once i s h = cc
all_start (Left u ∷ steps) rows new place size runs once zero s h = let e : Left u ≡ s = cc in subst (StartsIn new) e tt
all_start (Left u ∷ steps) rows new place size runs once (suc i) s h =
    all_start steps (stepped ended u 0 rows) new (place + 1) (length_stepped ended mild_ended u 0 rows ∙ size) runs.1 (once_later (Left u) steps once) i s h
all_start (Pending u ∷ steps) rows new place size runs once zero s h =
    let e : Pending u ≡ s = cc in
    let a : StartsAt rows new u = starts_at steps rows new place u runs once in
    subst (StartsIn new) e ((a.low, omega (arith, a.inside, size)), some_there (kept_in new u) (Row.present a.row) a.kept)
all_start (Pending u ∷ steps) rows new place size runs once (suc i) s h =
    all_start steps (stepped begun u place rows) new (place + 1) (length_stepped begun mild_begun u place rows ∙ size) runs.1 (once_later (Pending u) steps once) i s h
