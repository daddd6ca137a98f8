-- The `left` and `pending` entries that close come to an end, soon.
use Rattle.std.proofs.Common.{◌+◌, ◌++◌, length-append, ℕ, zero, suc, ◌≡◌, ◌<◌, ◌≤◌, refl, sym, ◌∙◌, subst, true, List, [], ◌∷◌, length, Option, Some, None, arith}
use Rattle.std.proofs.lemmas.Option.{none-some, same_Some}
use Rattle.nb_history.specs.Reading.{Reading, owed}
use Rattle.nb_history.specs.Rules.{leaving, may_start}
use Rattle.nb_history.specs.Log.{LegalFrom, after, Fits, reading, IsQuiet}
use Rattle.nb_history.specs.Serial.{least_var, closing, Closes}
use Rattle.nb_history.specs.Work.{open_count}
use Rattle.nb_history.specs.Starts.{is_closing, AllClosing, pending_count, RunsAreShort, Closed, ClosesSoon}
use Rattle.nb_log.specs.declared.entry.Entry.{Entry}
use Rattle.nb_log.specs.declared.entry.Entry.TheVariants.{Pending, Left}
use Rattle.nb_history.proofs.Closing.{closing_left, closing_pending, closing_none, quiet_from_none}
use Rattle.nb_history.proofs.Histories.{ClosesTo, closes_push, closes_legal, closing_fits_left, closing_fits_pending}
use Rattle.nb_history.proofs.Shapes.{Sound, sound_after, sound_reading}
use Rattle.nb_history.proofs.Runs.{once_in_run}
use Rattle.nb_history.proofs.Opens.{run_short, fewer_open}

-- what closes is a `left` or a `pending` that fits
pub record ClosesWell (r : Reading) (e : Entry) : Type 0 where
  pub kind : is_closing e ≡ true
  pub fits : Fits r e

pub closing_well : (r : Reading) (e : Entry) → closing r ≡ Some e → ClosesWell r e
closing_well r e h = go (least_var r (leaving r)) refl (least_var r (may_start r)) refl
  where
    go : (a : Option ℕ) → least_var r (leaving r) ≡ a → (b : Option ℕ) → least_var r (may_start r) ≡ b → ClosesWell r e
    go (Some v) p b q =
        let same : Left v (owed r v) ≡ e = same_Some (Left v (owed r v)) e (sym (closing_left r v p) ∙ h) in
        subst (ClosesWell r) same (record { kind = refl; fits = closing_fits_left r v p })
    go None p (Some v) q =
        let same : Pending v (owed r v) ≡ e = same_Some (Pending v (owed r v)) e (sym (closing_pending r v p q) ∙ h) in
        subst (ClosesWell r) same (record { kind = refl; fits = closing_fits_pending r v q })
    go None p None q = absurd (none-some e (sym (closing_none r p q) ∙ h))

-- nothing is leaving or due where nothing closes
pub quiet_closed : (r : Reading) → Sound r → closing r ≡ None → IsQuiet r
quiet_closed r sound h = go (least_var r (leaving r)) refl (least_var r (may_start r)) refl
  where
    go : (a : Option ℕ) → least_var r (leaving r) ≡ a → (b : Option ℕ) → least_var r (may_start r) ≡ b → IsQuiet r
    go (Some v) p b q = absurd (none-some (Left v (owed r v)) (sym h ∙ closing_left r v p))
    go None p (Some v) q = absurd (none-some (Pending v (owed r v)) (sym h ∙ closing_pending r v p q))
    go None p None q = quiet_from_none r sound.shaped p q

pub all_closing : (r : Reading) (es : List Entry) → Closes r es → AllClosing es
all_closing r [] h = tt
all_closing r (e ∷ es) h = ((closing_well r e h.0).kind, all_closing (after r e) es h.1)

-- ---- what closes is there

pub closes_within : (n : ℕ) (r : Reading) → Sound r → open_count r < n → (es : List Entry) × Closes r es
closes_within zero r sound less = absurd (omega (arith, less))
closes_within (suc n) r sound less =
    go (closing r) refl (λ e well. closes_within n (after r e) (sound_after r e sound) (omega (arith, less, fewer_open r e sound (ClosesWell.kind well) (ClosesWell.fits well))))
  where
    go : (o : Option Entry) → closing r ≡ o → ((e : Entry) → ClosesWell r e → (es : List Entry) × Closes (after r e) es) → (es : List Entry) × Closes r es
    go None h on = ([], h)
    go (Some e) h on = let rest : (es : List Entry) × Closes (after r e) es = on e (closing_well r e h) in (e ∷ rest.0, (h, rest.1))

pub closes_short : (r : Reading) (es : List Entry) → Sound r → Closes r es → length es ≤ length r.sheet.rows
closes_short r es sound h = run_short r es sound (all_closing r es h) (closes_legal r es h)

pub closes_once : (r : Reading) (es : List Entry) → Sound r → Closes r es → (v : ℕ) → pending_count v es ≤ 1
closes_once r es sound h = once_in_run r es sound (all_closing r es h) (closes_legal r es h)

pub closes_at : (r : Reading) → Sound r → Closed r
closes_at r sound =
    let t : (es : List Entry) × Closes r es = closes_within (suc (open_count r)) r sound (omega arith) in
    record { es = t.0; closes = t.1; short = closes_short r t.0 sound t.1; once = closes_once r t.0 sound t.1 }

-- ---- the first of them, as a loop makes them

closes_to_run : (r q : Reading) (es : List Entry) → ClosesTo r es q → AllClosing es × LegalFrom r es
closes_to_run r q [] h = (tt, tt)
closes_to_run r q (e ∷ es) h =
    let well : ClosesWell r e = closing_well r e h.0 in
    let rest : AllClosing es × LegalFrom (after r e) es = closes_to_run (after r e) q es h.1 in
    ((well.kind, rest.0), (well.fits, rest.1))

pub closes_to_short : (r q : Reading) (es : List Entry) → Sound r → ClosesTo r es q → length es ≤ length r.sheet.rows
closes_to_short r q es sound h = let run : AllClosing es × LegalFrom r es = closes_to_run r q es h in run_short r es sound run.0 run.1

-- while something closes there is room for it
pub closes_to_room : (r q : Reading) (es : List Entry) (e : Entry) → Sound r → ClosesTo r es q → closing q ≡ Some e → length es < length r.sheet.rows
closes_to_room r q es e sound h k =
    let more : length (es ++ e ∷ []) ≡ length es + 1 = omega (arith, length-append es (e ∷ [])) in
    omega (arith, closes_to_short r (after q e) (es ++ e ∷ []) sound (closes_push r q es e h k), more)

-- ---- the laws, of what a log leaves

pub runs_are_short : RunsAreShort
runs_are_short builtins log es legal all run = run_short (reading builtins log) es (sound_reading builtins log) all run

pub closes_soon : ClosesSoon
closes_soon builtins log = closes_at (reading builtins log) (sound_reading builtins log)
