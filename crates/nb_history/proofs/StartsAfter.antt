-- Which start a variable has after an entry.
use Rattle.std.proofs.Common.{inl, inr, ℕ, zero, suc, ◌+◌, ◌-◌, ◌≡◌, ◌≢◌, refl, sym, ◌∙◌, ap, subst, true, false, not, ◌&&◌, is_some, List, [], ◌∷◌, ◌++◌, length, replicate, Option, Some, None, arith}
use Rattle.std.specs.Prelude.{slice_get, set}
use Rattle.std.proofs.lemmas.Bool.{cases_Bool, cases_eq, false≢true, eq-eqb}
use Rattle.nb_sheet.specs.Lists.{nth, put, from_option, option_then}
use Rattle.nb_sheet.specs.Sheet.{Sheet, edited_sheet}
use Rattle.nb_value.specs.declared.outcome.Outcome.TheVariants.{Value as Shows, Error as Fails}
use Rattle.nb_history.specs.Reading.{Reading, Start, start_of}
use Rattle.nb_history.specs.Rules.{footing, is_running, generates, body_of}
use Rattle.nb_history.specs.Log.{with_sheet, change_start, settle, ticket_var, answering, new_start, showing, asking, ending_now, pulled, pulled_from, shows_value, after}
use Rattle.nb_history.specs.Starts.{starts}
use Rattle.nb_log.specs.declared.entry.Entry.{Entry}
use Rattle.nb_log.specs.declared.entry.Entry.TheVariants.{Edit, Frame, Settled, Late, Loaded, Refused, Rest, Dispose, Pending, Fulfilled, Rejected, Asked, Ended, Left}
use Rattle.nb_history.proofs.Closing.{nth_put_same, nth_put_other}

-- the start in a place of the list
abbrev pub inside : Option (Option Start) → Option Start
inside o = option_then o (λ s. s)

-- ---- one variable's start is changed

get_set_none : {A : Type 0} (xs : List A) (i : ℕ) (y : A) → slice_get xs i ≡ None → slice_get (set xs i y) i ≡ None
get_set_none [] i y h = refl
get_set_none (z ∷ xs) zero y h = absurd (cc)
get_set_none (z ∷ xs) (suc i) y h = get_set_none xs i y h

pub nth_put_none : {A : Type 0} (xs : List A) (v : ℕ) (y : A) → nth xs v ≡ None → nth (put xs v y) v ≡ None
nth_put_none xs zero y h = refl
nth_put_none xs (suc i) y h = get_set_none xs i y h

pub start_put_other : (xs : List (Option Start)) (u v : ℕ) (x : Option Start) → u ≢ v → inside (nth (put xs u x) v) ≡ inside (nth xs v)
start_put_other xs u v x other = ap inside (nth_put_other xs u v x other)

pub start_put : (xs : List (Option Start)) (v : ℕ) (x : Option Start) (o : Option Start) → nth xs v ≡ Some o → inside (nth (put xs v x) v) ≡ x
start_put xs v x o at = ap inside (nth_put_same xs v o x at)

pub changed_other : (r : Reading) (u v : ℕ) (f : Start → Start) → u ≢ v → start_of (change_start r u f) v ≡ start_of r v
changed_other r u v f other = start_put_other r.starts u v (option_then (start_of r u) (λ s. Some (f s))) other

pub changed_itself : (r : Reading) (v : ℕ) (f : Start → Start) → start_of (change_start r v f) v ≡ option_then (start_of r v) (λ s. Some (f s))
changed_itself r v f = go (nth r.starts v) refl
  where
    go : (o : Option (Option Start)) → nth r.starts v ≡ o → inside (nth (put r.starts v (option_then (start_of r v) (λ s. Some (f s)))) v) ≡ option_then (start_of r v) (λ s. Some (f s))
    go None at =
        ap inside (nth_put_none r.starts v (option_then (start_of r v) (λ s. Some (f s))) at)
        ∙ sym (ap (λ (o : Option (Option Start)). option_then (inside o) (λ s. Some (f s))) at)
    go (Some o) at = start_put r.starts v (option_then (start_of r v) (λ s. Some (f s))) o at

-- a change by which a part of the start stays
pub changed_part : {A : Type 0} (part : Option Start → A) (r : Reading) (u v : ℕ) (f : Start → Start)
    → part (option_then (start_of r u) (λ s. Some (f s))) ≡ part (start_of r u) → part (start_of (change_start r u f) v) ≡ part (start_of r v)
changed_part part r u v f keeps =
    elim (cases_eq u v) [
      | inl same ↦ subst (λ (x : ℕ). part (start_of (change_start r u f) x) ≡ part (start_of r x)) same (ap part (changed_itself r u f) ∙ keeps)
      | inr other ↦ ap part (changed_other r u v f other)
    ]

-- ---- new variables are idle, and a frame pulls

none_there : (n i : ℕ) → inside (slice_get (replicate n None) i) ≡ None
none_there zero i = refl
none_there (suc n) zero = refl
none_there (suc n) (suc i) = none_there n i

get_padded : (xs : List (Option Start)) (n i : ℕ) → inside (slice_get (xs ++ replicate n None) i) ≡ inside (slice_get xs i)
get_padded [] n i = none_there n i
get_padded (x ∷ xs) n zero = refl
get_padded (x ∷ xs) n (suc i) = get_padded xs n i

pub start_sheet : (r : Reading) (s : Sheet) (v : ℕ) → start_of (with_sheet r s) v ≡ start_of r v
start_sheet r s zero = refl
start_sheet r s (suc i) = get_padded r.starts (length s.rows - length r.starts) i

get_pulled : (r : Reading) (k : ℕ) (xs : List (Option Start)) (i : ℕ) → slice_get (pulled_from r k xs) i ≡ option_then (slice_get xs i) (λ o. Some (pulled r (k + i) o))
get_pulled r k [] i = refl
get_pulled r k (x ∷ xs) zero = let e : k ≡ k + 0 = omega arith in ap (λ (n : ℕ). Some (pulled r n x)) e
get_pulled r k (x ∷ xs) (suc i) =
    let e : k + 1 + i ≡ k + suc i = omega arith in
    get_pulled r (k + 1) xs i ∙ ap (λ (n : ℕ). option_then (slice_get xs i) (λ o. Some (pulled r n o))) e

pub start_pulled : (r : Reading) (v : ℕ) → inside (nth (pulled_from r 1 r.starts) v) ≡ pulled r v (start_of r v)
start_pulled r zero = refl
start_pulled r (suc i) = go (slice_get r.starts i) (get_pulled r 1 r.starts i)
  where
    one : 1 + i ≡ suc i
    one = omega arith

    go : (o : Option (Option Start)) → slice_get (pulled_from r 1 r.starts) i ≡ option_then o (λ x. Some (pulled r (1 + i) x)) → inside (slice_get (pulled_from r 1 r.starts) i) ≡ pulled r (suc i) (inside o)
    go None e = ap inside e
    go (Some x) e = ap inside e ∙ ap (λ (n : ℕ). pulled r n x) one

-- a part that stays where a start is pulled
pub pulled_part : {A : Type 0} (part : Option Start → A) → ((s : Start) → part (Some (record s { pulls = s.pulls + 1; running = true })) ≡ part (Some s)) → (r : Reading) (v : ℕ) (o : Option Start)
    → part (pulled r v o) ≡ part o
pulled_part part h r v None = refl
pulled_part part h r v (Some s) =
    elim (cases_Bool (generates (body_of r.sheet v) && shows_value s.shown && not s.ended && not s.running && not (is_some s.ticket))) [
      | inl y ↦ rw y (h s)
      | inr n ↦ rw n refl
    ]

-- ---- a variable that has no start, and one that runs

change_idle : (r : Reading) (u v : ℕ) (f : Start → Start) → start_of r v ≡ None → start_of (change_start r u f) v ≡ None
change_idle r u v f idle =
    elim (cases_eq u v) [
      | inl same ↦
          let there : start_of r u ≡ None = ap (start_of r) same ∙ idle in
          subst (λ (x : ℕ). start_of (change_start r u f) x ≡ None) same (changed_itself r u f ∙ ap (λ (o : Option Start). option_then o (λ s. Some (f s))) there)
      | inr other ↦ changed_other r u v f other ∙ idle
    ]

left_idle : (r : Reading) (u v : ℕ) (x : Option (Option Start)) → nth r.starts u ≡ x → start_of r v ≡ None → inside (nth (put r.starts u None) v) ≡ None
left_idle r u v x at idle =
    elim (cases_eq u v) [
      | inl same ↦ subst (λ (y : ℕ). inside (nth (put r.starts u None) y) ≡ None) same (go x at)
      | inr other ↦ start_put_other r.starts u v None other ∙ idle
    ]
  where
    go : (o : Option (Option Start)) → nth r.starts u ≡ o → inside (nth (put r.starts u None) u) ≡ None
    go None e = ap inside (nth_put_none r.starts u None e)
    go (Some o) e = start_put r.starts u None o e

-- an idle variable stays idle until it starts
pub idle_after : (r : Reading) (e : Entry) (v : ℕ) → starts v e ≡ false → start_of r v ≡ None → start_of (after r e) v ≡ None
idle_after r (Edit editor edit) v n idle = start_sheet r (edited_sheet r.sheet edit (r.entries + 1)) v ∙ idle
idle_after r (Frame editor) v n idle = start_pulled r v ∙ ap (pulled r v) idle
idle_after r (Settled editor t a) v n idle = change_idle (settle r t) (ticket_var r t) v (answering a) idle
idle_after r (Late editor t) v n idle = idle
idle_after r (Loaded t a) v n idle = change_idle (settle r t) (ticket_var r t) v (answering a) idle
idle_after r (Refused editor reason event) v n idle = idle
idle_after r (Rest editor) v n idle = idle
idle_after r (Dispose editor) v n idle = idle
idle_after r (Pending u d) v n idle = start_put_other r.starts u v (Some (new_start (r.entries + 1) (footing r u))) (λ e. false≢true (sym n ∙ eq-eqb u v e)) ∙ idle
idle_after r (Fulfilled u x) v n idle = change_idle r u v (showing r u (Shows x)) idle
idle_after r (Rejected u e) v n idle = change_idle r u v (showing r u (Fails e)) idle
idle_after r (Asked u t key) v n idle = change_idle r u v (asking r u t) idle
idle_after r (Ended u) v n idle = change_idle r u v (ending_now r u) idle
idle_after r (Left u d) v n idle = left_idle r u v (nth r.starts u) refl idle

-- the start of a running variable
pub record Runs (r : Reading) (v : ℕ) : Type 0 where
  pub start : Start
  pub there : start_of r v ≡ Some start
  pub running : start.running ≡ true

pub running_start : (r : Reading) (v : ℕ) → is_running r v ≡ true → Runs r v
running_start r v h = go (start_of r v) refl
  where
    go : (o : Option Start) → start_of r v ≡ o → Runs r v
    go None e = absurd (false≢true (ap (λ (o : Option Start). from_option false (λ (s : Start). s.running) o) (sym e) ∙ h))
    go (Some s) e = record { start = s; there = e; running = ap (λ (o : Option Start). from_option false (λ (s : Start). s.running) o) (sym e) ∙ h }
