-- In a run of `left` and `pending` entries each takes one of the variables that may still leave or start, and opens none.
use Rattle.std.proofs.Common.{inl, inr, ℕ, ◌+◌, ◌≡◌, ◌<◌, ◌≤◌, refl, sym, ◌∙◌, ap, subst, Bool, true, false, not, ◌&&◌, ◌||◌, List, [], ◌∷◌, length, Option, Some, arith}
use Rattle.std.specs.List.{list_any}
use Rattle.std.proofs.lemmas.Bool.{or_cases, or_left, or_right, or_from, and_parts, and_from, and_left, and_right, cases_Bool, cases_eq, false≢true, false_from_ne_true, not-true, not_from_true, not_from_false}
use Rattle.std.proofs.lemmas.List.FromFn.{length-range_with_len}
use Rattle.nb_graph.specs.Needs.{has}
use Rattle.nb_graph.proofs.Reaches.{any_has, has_any, passing, passing_le, passing_more, Weaker}
use Rattle.nb_value.specs.declared.value.Value.{Value}
use Rattle.nb_sheet.specs.Lists.{numbers, option_then}
use Rattle.nb_history.specs.Needs.{circular, needed}
use Rattle.nb_history.specs.Reading.{Reading, Start, start_of, is_idle}
use Rattle.nb_history.specs.Rules.{footing, wanted, leaving, is_behind, may_start}
use Rattle.nb_history.specs.Log.{after, change_start, new_start, Fits, LegalFrom}
use Rattle.nb_history.specs.Work.{calm, is_open, open_count}
use Rattle.nb_history.specs.Starts.{is_closing, AllClosing}
use Rattle.nb_log.specs.declared.entry.Entry.{Entry}
use Rattle.nb_log.specs.declared.entry.Entry.TheVariants.{Pending, Left}
use Rattle.nb_history.proofs.Closing.{nth_put_other, Calm, IsDue, due_parts, due_has, leaving_has}
use Rattle.nb_history.proofs.Leaving.{leaving_left, left_itself, unwanted}
use Rattle.nb_history.proofs.Shapes.{Sound, sound_after}
use Rattle.nb_history.proofs.Runs.{some_start, may_due, calm_begun, Served, served_pending, served_left}
use Rattle.nb_history.proofs.Between.{view, Keeps, behind_change}

-- ---- whether a variable is calm, by the test

calm_parts : (r : Reading) (v : ℕ) → calm r v ≡ true → Calm r v
calm_parts r v h =
    let some = list_any (is_behind r) (needed r.sheet v) in
    let t : (not (is_behind r v) ≡ true) × ((circular r.sheet v || not some) ≡ true) = and_parts (not (is_behind r v)) (circular r.sheet v || not some) h in (
      not-true (is_behind r v) t.0,
      λ c w n. elim (or_cases (circular r.sheet v) (not some) t.1) [
        | inl circ ↦ absurd (false≢true (sym c ∙ circ))
        | inr none ↦ false_from_ne_true (is_behind r w) (λ k. false≢true (sym (not-true some none) ∙ has_any (is_behind r) (needed r.sheet v) w n k))
      ],
    )

pub calm_from : (r : Reading) (v : ℕ) → Calm r v → calm r v ≡ true
calm_from r v h =
    let some = list_any (is_behind r) (needed r.sheet v) in
    let right : (circular r.sheet v || not some) ≡ true = elim (cases_Bool (circular r.sheet v)) [
      | inl circ ↦ or_left (circular r.sheet v) (not some) circ
      | inr c ↦ or_right (circular r.sheet v) (not some) (not_from_false some (false_from_ne_true some (λ k.
          let t : (w : ℕ) × (has (needed r.sheet v) w ≡ true) × (is_behind r w ≡ true) = any_has (is_behind r) (needed r.sheet v) k in
          false≢true (sym (h.1 c t.0 t.1) ∙ t.2))))
    ] in
    and_from (not (is_behind r v)) (circular r.sheet v || not some) (not_from_false (is_behind r v) h.0) right

-- ---- what is open

-- where what leaves, or is wanted and isn't calm, was so before
pub open_before : (r q : Reading) (v : ℕ) → wanted q v ≡ wanted r v → (leaving q v ≡ true → leaving r v ≡ true) → (Served r v → Calm q v) → is_open q v ≡ true → is_open r v ≡ true
open_before r q v same leaves calms h =
    elim (or_cases (leaving q v) (wanted q v && not (calm q v)) h) [
      | inl l ↦ or_left (leaving r v) (wanted r v && not (calm r v)) (leaves l)
      | inr n ↦
          let t : (wanted q v ≡ true) × (not (calm q v) ≡ true) = and_parts (wanted q v) (not (calm q v)) n in
          let restless : calm r v ≡ false = false_from_ne_true (calm r v) (λ k. false≢true (sym (not-true (calm q v) t.1) ∙ calm_from q v (calms (sym same ∙ t.0, calm_parts r v k)))) in
          or_right (leaving r v) (wanted r v && not (calm r v)) (and_from (wanted r v) (not (calm r v)) (sym same ∙ t.0) (not_from_false (calm r v) restless))
    ]

-- one that was open and isn't
one_less : (p q : ℕ → Bool) (xs : List ℕ) (u : ℕ) → Weaker p q xs → has xs u ≡ true → q u ≡ true → p u ≡ false → passing p xs < passing q xs
one_less p q xs u weaker h was isnt =
    elim (passing_more p q xs weaker).1 [
      | inl less ↦ less
      | inr same ↦ absurd (false≢true (sym isnt ∙ same u h was))
    ]

not_leaving : (r : Reading) (u : ℕ) → wanted r u ≡ true → leaving r u ≡ false
not_leaving r u w = and_left (not (wanted r u)) (not (is_idle (start_of r u))) (not_from_true (wanted r u) w)

fewer_pending : (r : Reading) (u : ℕ) (d : List Value) → Sound r → may_start r u ≡ true → open_count (after r (Pending u d)) < open_count r
fewer_pending r u d sound may =
    let q = after r (Pending u d) in
    let is : IsDue r u = due_parts r u (may_due r u may) in
    let restless : calm r u ≡ false = and_left (not (is_behind r u)) (circular r.sheet u || not (list_any (is_behind r) (needed r.sheet u))) (not_from_true (is_behind r u) is.behind) in
    let was : is_open r u ≡ true = or_right (leaving r u) (wanted r u && not (calm r u)) (and_from (wanted r u) (not (calm r u)) is.wanted (not_from_false (calm r u) restless)) in
    let isnt : is_open q u ≡ false = or_from (leaving q u) (wanted q u && not (calm q u)) (not_leaving q u is.wanted)
    (and_right (wanted q u) (not (calm q u)) (not_from_true (calm q u) (calm_from q u (calm_begun r sound u d may)))) in
    one_less (is_open q) (is_open r) (numbers r.sheet.rows) u
    (λ v h. open_before r q v refl (leaves v is.wanted) (λ served. (served_pending r u d v may served).1)) (due_has r u (may_due r u may)) was isnt
  where
    leaves : (v : ℕ) → wanted r u ≡ true → leaving (after r (Pending u d)) v ≡ true → leaving r v ≡ true
    leaves v w h =
        elim (cases_eq u v) [
          | inl same ↦ absurd (false≢true (sym (not_leaving (after r (Pending u d)) v (subst (λ (x : ℕ). wanted r x ≡ true) same w)) ∙ h))
          | inr other ↦ ap (λ (o : Option (Option Start)). not (wanted r v) && not (is_idle (option_then o (λ s. s)))) (sym (nth_put_other r.starts u v (Some (new_start (r.entries + 1) (footing r u))) other)) ∙ h
        ]

fewer_left : (r : Reading) (u : ℕ) (d : List Value) → Sound r → leaving r u ≡ true → open_count (after r (Left u d)) < open_count r
fewer_left r u d sound leaves =
    let q = after r (Left u d) in
    let number : has (numbers r.sheet.rows) u ≡ true = leaving_has r sound.shaped u leaves in
    let here = some_start r sound u number in
    let gone : leaving q u ≡ false = left_itself r sound.named u d leaves here.0 here.1 in
    let w : wanted r u ≡ false = unwanted r sound.named u d leaves in
    let isnt : is_open q u ≡ false = or_from (leaving q u) (wanted q u && not (calm q u)) gone (and_left (wanted q u) (not (calm q u)) w) in
    one_less (is_open q) (is_open r) (numbers r.sheet.rows) u
    (λ v h. open_before r q v refl (before v gone) (λ served. (served_left r sound u d v leaves served).1)) number (or_left (leaving r u) (wanted r u && not (calm r u)) leaves) isnt
  where
    before : (v : ℕ) → leaving (after r (Left u d)) u ≡ false → leaving (after r (Left u d)) v ≡ true → leaving r v ≡ true
    before v gone h =
        elim (cases_eq u v) [
          | inl same ↦ absurd (false≢true (sym gone ∙ (ap (leaving (after r (Left u d))) same ∙ h)))
          | inr other ↦ sym (leaving_left r sound.named u d leaves v other) ∙ h
        ]

-- each `left` and `pending` closes one and opens none
pub fewer_open : (r : Reading) (e : Entry) → Sound r → is_closing e ≡ true → Fits r e → open_count (after r e) < open_count r
fewer_open r (Pending u d) sound c fits = fewer_pending r u d sound fits.0
fewer_open r (Left u d) sound c fits = fewer_left r u d sound fits.0
fewer_open r e sound c fits = absurd (false≢true c)

-- ---- so a run has at most as many entries as there are variables

pub run_within : (r : Reading) (es : List Entry) → Sound r → AllClosing es → LegalFrom r es → length es ≤ open_count r
run_within r [] sound all legal = omega arith
run_within r (e ∷ es) sound all legal =
    omega (arith, run_within (after r e) es (sound_after r e sound) all.1 legal.1, fewer_open r e sound all.0 legal.0)

pub open_within : (r : Reading) → open_count r ≤ length r.sheet.rows
open_within r = omega (arith, passing_le (is_open r) (numbers r.sheet.rows), length-range_with_len 1 (length r.sheet.rows))

pub run_short : (r : Reading) (es : List Entry) → Sound r → AllClosing es → LegalFrom r es → length es ≤ length r.sheet.rows
run_short r es sound all legal = omega (arith, run_within r es sound all legal, open_within r)

-- ---- a start that changes and keeps its number, footing and renewal opens nothing

module _ (r : Reading) (u : ℕ) (change : Start → Start) (keeps : (s : Start) → start_of r u ≡ Some s → Keeps s (change s)) where
  calm_change : (v : ℕ) → Calm r v → Calm (change_start r u change) v
  calm_change v h = (behind_change r u change keeps v ∙ h.0, λ c w n. behind_change r u change keeps w ∙ h.1 c w n)

  pub leaving_change : (v : ℕ) → leaving (change_start r u change) v ≡ leaving r v
  leaving_change v = ap (λ (b : Bool). not (wanted r v) && not b) (view r u change is_idle (λ s e. refl) v)

  pub open_change : open_count (change_start r u change) ≤ open_count r
  open_change =
      (passing_more (is_open (change_start r u change)) (is_open r) (numbers r.sheet.rows)
      (λ v h. open_before r (change_start r u change) v refl (λ l. sym (leaving_change v) ∙ l) (λ served. calm_change v served.1))).0
