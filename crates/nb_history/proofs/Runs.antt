-- In a run of `left` and `pending` entries each variable starts at most once.
use Rattle.std.proofs.Common.{inl, inr, ℕ, suc, ◌+◌, ◌≡◌, ◌≤◌, refl, sym, ◌∙◌, ap, subst, Bool, true, false, cond, List, [], ◌∷◌, arith, Option, Some}
use Rattle.std.specs.Prelude.{◌==◌}
use Rattle.std.proofs.lemmas.Bool.{cases_eq, false≢true, ne_eqb}
use Rattle.nb_graph.specs.Needs.{has}
use Rattle.nb_graph.proofs.Reaches.{passing}
use Rattle.nb_value.specs.declared.value.Value.{Value}
use Rattle.nb_sheet.specs.Lists.{nth, numbers}
use Rattle.nb_sheet.specs.declared.row.VarRow.{VarRow}
use Rattle.nb_history.specs.Needs.{needed}
use Rattle.nb_history.specs.Reading.{Reading, Start}
use Rattle.nb_history.specs.Rules.{wanted, leaving, is_behind, due, may_start}
use Rattle.nb_history.specs.Log.{after, reading, LegalFrom}
use Rattle.nb_history.specs.Starts.{AllClosing, pending_count, StartsOnce, SomeMayStart}
use Rattle.nb_log.specs.declared.entry.Entry.{Entry}
use Rattle.nb_log.specs.declared.entry.Entry.TheVariants.{Pending, Left}
use Rattle.nb_history.proofs.Closing.{nth_as_long, number_has, Calm, calm_self, calm_other, due_parts, due_has, due_may_start, may_start_cases}
use Rattle.nb_history.proofs.Leaving.{behind_left}
use Rattle.nb_history.proofs.Held.{wanted_needed, may_begin, may_behind}
use Rattle.nb_history.proofs.Shapes.{Sound, sound_after, sound_reading}

-- ---- what is calm stays so

pub some_start : (r : Reading) → Sound r → (v : ℕ) → has (numbers r.sheet.rows) v ≡ true → (o : Option Start) × (nth r.starts v ≡ Some o)
some_start r sound v h =
    let row : (x : VarRow) × (nth r.sheet.rows v ≡ Some x) = number_has r.sheet.rows v h in
    nth_as_long r.sheet.rows r.starts v row.0 sound.shaped row.1

pub may_due : (r : Reading) (u : ℕ) → may_start r u ≡ true → due r u ≡ true
may_due r u h = (may_start_cases r u h).0

pub calm_begun : (r : Reading) → Sound r → (u : ℕ) (d : List Value) → may_start r u ≡ true → Calm (after r (Pending u d)) u
calm_begun r sound u d may =
    let here : (o : Option Start) × (nth r.starts u ≡ Some o) = some_start r sound u (due_has r u (may_due r u may)) in
    calm_self r u d here.0 here.1 (may_begin r sound.named u may)

-- a calm variable that is wanted
abbrev pub Served : Reading → ℕ → Type 0
Served r v = (wanted r v ≡ true) × Calm r v

pub served_pending : (r : Reading) (u : ℕ) (d : List Value) (v : ℕ) → may_start r u ≡ true → Served r v → Served (after r (Pending u d)) v
served_pending r u d v may h = (h.0, calm_other r u d v (may_behind r u may) h.1)

pub served_left : (r : Reading) → Sound r → (u : ℕ) (d : List Value) (v : ℕ) → leaving r u ≡ true → Served r v → Served (after r (Left u d)) v
served_left r sound u d v leaves h = (
  h.0,
  (
    behind_left r sound.named u d leaves v h.0 ∙ h.1.0,
    λ c w n. behind_left r sound.named u d leaves w (wanted_needed r sound.named v w h.0 n) ∙ h.1.1 c w n,
  ),
)

pub served_begun : (r : Reading) → Sound r → (u : ℕ) (d : List Value) → may_start r u ≡ true → Served (after r (Pending u d)) u
served_begun r sound u d may = ((due_parts r u (may_due r u may)).wanted, calm_begun r sound u d may)

pub starts_not : (r : Reading) (u v : ℕ) → may_start r u ≡ true → Served r v → (u == v) ≡ false
starts_not r u v may h = ne_eqb u v (λ e. false≢true (sym h.1.0 ∙ (ap (is_behind r) (sym e) ∙ may_behind r u may)))

pub one_more : (b : Bool) (n : ℕ) → n ≡ 0 → cond b 1 0 + n ≤ 1
one_more true n e = omega (arith, e)
one_more false n e = omega (arith, e)

-- ---- in a run of `left` and `pending` entries

not_again : (r : Reading) (es : List Entry) (v : ℕ) → Sound r → Served r v → AllClosing es → LegalFrom r es → pending_count v es ≡ 0
not_again r [] v sound h all legal = refl
not_again r (Pending u d ∷ es) v sound h all legal =
    let rest : pending_count v es ≡ 0 = not_again (after r (Pending u d)) es v (sound_after r (Pending u d) sound) (served_pending r u d v legal.0.0 h) all.1 legal.1 in
    rw (starts_not r u v legal.0.0 h) (omega (arith, rest))
not_again r (Left u d ∷ es) v sound h all legal =
    omega (arith, not_again (after r (Left u d)) es v (sound_after r (Left u d) sound) (served_left r sound u d v legal.0.0 h) all.1 legal.1)
not_again r (e ∷ es) v sound h all legal = absurd (false≢true all.0)

pub once_in_run : (r : Reading) (es : List Entry) → Sound r → AllClosing es → LegalFrom r es → (v : ℕ) → pending_count v es ≤ 1
once_in_run r [] sound all legal v = omega arith
once_in_run r (Pending u d ∷ es) sound all legal v =
    let q : Sound (after r (Pending u d)) = sound_after r (Pending u d) sound in
    elim (cases_eq u v) [
      | inl same ↦
          let served : Served (after r (Pending u d)) v = subst (Served (after r (Pending u d))) same (served_begun r sound u d legal.0.0) in
          one_more (u == v) (pending_count v es) (not_again (after r (Pending u d)) es v q served all.1 legal.1)
      | inr other ↦ rw (ne_eqb u v other) (omega (arith, once_in_run (after r (Pending u d)) es q all.1 legal.1 v))
    ]
once_in_run r (Left u d ∷ es) sound all legal v = omega (arith, once_in_run (after r (Left u d)) es (sound_after r (Left u d) sound) all.1 legal.1 v)
once_in_run r (e ∷ es) sound all legal v = absurd (false≢true all.0)

pub starts_once : StartsOnce
starts_once builtins log es legal all run v = once_in_run (reading builtins log) es (sound_reading builtins log) all run v

pub some_may_start : SomeMayStart
some_may_start builtins log v h =
    let r : Reading = reading builtins log in
    let t : (w : ℕ) × (may_start r w ≡ true) = due_may_start r (suc (passing (has (needed r.sheet v)) (numbers r.sheet.rows))) v (omega arith) h in
    (t.0, may_due r t.0 t.1, t.1)
