-- Runs of steps: they end, each variable starts at most once in them, and in the end nothing is leaving or due.
use Rattle.std.proofs.Common.{ℕ, zero, suc, ◌+◌, ◌-◌, ◌≡◌, ◌<◌, ◌≤◌, refl, sym, ◌∙◌, ap, subst, Bool, true, false, cond, not, ◌&&◌, ◌||◌, ◌⊎◌, inl, inr, eqb, List, [], ◌∷◌, ◌++◌, length, arith, Option, Some, None}
use Rattle.std.specs.Prelude.{slice_get}
use Rattle.std.specs.List.{list_any, range_with_len}
use Rattle.std.proofs.lemmas.Bool.{false≢true, cases_eq, cases_Bool, ne_eqb, or_cases, or_left, or_right, and_parts, and_from, and_right, not-true, false_from_ne_true}
use Rattle.std.proofs.lemmas.Option.{slice_get_within}
use Rattle.nb_graph.specs.Needs.{has, Needs}
use Rattle.nb_graph.proofs.Reaches.{passing, passing_le, passing_more, Same, has_head, has_tail, has_cases, any_has, has_any, needed_sound, needed_fewer}
use Rattle.nb_wave.specs.declared.row.Row.{Row}
use Rattle.nb_wave.specs.declared.step.Step.{Step}
use Rattle.nb_wave.specs.declared.step.Step.TheVariants.{Left, Pending}
use Rattle.nb_wave.specs.Rules.{from_option, is_wanted, is_behind, is_leaving, is_circular, wants_start, passes, needs_of, numbers, needed, leaving, due, may_start, first_where, least, NeedsVariables, IsSound}
use Rattle.nb_wave.specs.Steps.{ended, begun, stepped, after, next_of, next_pending, next_step, Runs, pending_count, Closes}
use Rattle.nb_wave.specs.Wave.{IsRows}
use Rattle.nb_wave.proofs.Places.{least_none}
use Rattle.nb_wave.proofs.Spreads.{needs_within, has_numbers}
use Rattle.nb_wave.proofs.Dues.{needed_number}
use Rattle.nb_wave.proofs.Stepped.{mild_begun, mild_ended, is_plain, numbers_stepped, wanted_stepped, rows_stepped, sound_stepped}
use Rattle.nb_wave.proofs.Calm.{passes_row, due_wants, due_wanted, due_behind, may_due, Calm, calm_self, calm_other, leaving_begun, leaving_ended}

-- ---- the least

pub range_has : (a n u : ℕ) → has (range_with_len a n) u ≡ true → (a ≤ u) × (u < a + n)
range_has a zero u h = absurd (false≢true h)
range_has a (suc n) u h =
    elim (has_cases a (range_with_len (a + 1) n) u h) [
      | inl same ↦ (omega (arith, same), omega (arith, same))
      | inr later ↦ let t : (a + 1 ≤ u) × (u < a + 1 + n) = range_has (a + 1) n u later in (omega (arith, t.0), omega (arith, t.1))
    ]

first_some : (test : ℕ → Bool) (xs : List ℕ) (v : ℕ) → first_where test xs ≡ Some v → (test v ≡ true) × (has xs v ≡ true)
first_some test [] v h = cc
first_some test (x ∷ xs) v h =
    elim (cases_Bool (test x)) [
      | inl here ↦ let g : Some x ≡ Some v = rw here at h in let e : x ≡ v = cc in (ap test (sym e) ∙ here, has_head x xs v e)
      | inr not_here ↦ let t : (test v ≡ true) × (has xs v ≡ true) = first_some test xs v (rw not_here at h) in (t.0, has_tail x xs v t.1)
    ]

first_none : (test : ℕ → Bool) (xs : List ℕ) → first_where test xs ≡ None → (v : ℕ) → has xs v ≡ true → test v ≡ false
first_none test [] h v k = absurd (false≢true k)
first_none test (x ∷ xs) h v k =
    elim (cases_Bool (test x)) [
      | inl here ↦ let g : Some x ≡ None = rw here at h in cc
      | inr not_here ↦ elim (has_cases x xs v k) [
        | inl same ↦ ap test (sym same) ∙ not_here
        | inr later ↦ first_none test xs (rw not_here at h) v later
      ]
    ]

pub record IsLeast (test : List Row → ℕ → Bool) (rows : List Row) (v : ℕ) : Type 0 where
  pub here : test rows v ≡ true
  pub low : 1 ≤ v
  pub inside : v < length rows

pub least_some : (test : List Row → ℕ → Bool) (rows : List Row) (v : ℕ) → least test rows ≡ Some v → IsLeast test rows v
least_some test rows v h =
    let t : (test rows v ≡ true) × (has (numbers rows) v ≡ true) = first_some (test rows) (numbers rows) v h in
    let s : (1 ≤ v) × (v < 1 + (length rows - 1)) = range_has 1 (length rows - 1) v t.1 in
    record { here = t.0; low = s.0; inside = omega (arith, s.0, s.1) }

none_at : (test : List Row → ℕ → Bool) (rows : List Row) → least test rows ≡ None → (v : ℕ) → 1 ≤ v → v < length rows → test rows v ≡ false
none_at test rows h v low inside = first_none (test rows) (numbers rows) h v (has_numbers rows v low inside)

passes_inside : (test : Row → Bool) (rows : List Row) (v : ℕ) → passes test rows v ≡ true → v < length rows
passes_inside test rows v h = let t : (r : Row) × (slice_get rows v ≡ Some r) × (test r ≡ true) = passes_row test rows v h in slice_get_within rows v t.0 t.1

-- ---- while anything is due, something may start

due_may_start : (rows : List Row) → NeedsVariables rows → IsSound rows → (k v : ℕ) → passing (has (needed rows v)) (numbers rows) < k → 1 ≤ v → due rows v ≡ true
    → (w : ℕ) × (1 ≤ w) × (may_start rows w ≡ true)
due_may_start rows n sound zero v less low h = absurd (omega (arith, less))
due_may_start rows n sound (suc k) v less low h =
    let circular = passes is_circular rows in
    elim (cases_Bool (circular v)) [
      | inl c ↦ (v, low, and_from (due rows v) (circular v || not (list_any (due rows) (needed rows v))) h (or_left (circular v) (not (list_any (due rows) (needed rows v))) c))
      | inr c ↦ elim (cases_Bool (list_any (due rows) (needed rows v))) [
        | inr none ↦ (v, low, and_from (due rows v) (circular v || not (list_any (due rows) (needed rows v))) h (or_right (circular v) (not (list_any (due rows) (needed rows v))) (ap not none)))
        | inl some ↦
            let t : (w : ℕ) × (has (needed rows v) w ≡ true) × (due rows w ≡ true) = any_has (due rows) (needed rows v) some in
            let low_w : 1 ≤ t.0 = (needed_number rows n v t.0 t.1).0 in
            elim (cases_Bool (circular t.0)) [
              | inl cw ↦ (t.0, low_w, and_from (due rows t.0) (circular t.0 || not (list_any (due rows) (needed rows t.0))) t.2 (or_left (circular t.0) (not (list_any (due rows) (needed rows t.0))) cw))
              | inr cw ↦
                  let p : (r : Row) × (slice_get rows t.0 ≡ Some r) × (is_wanted r ≡ true) = passes_row is_wanted rows t.0 (due_wanted rows t.0 t.2) in
                  let open_ : is_circular p.0 ≡ false = sym (ap (from_option false is_circular) p.1) ∙ cw in
                  let apart : Needs (needs_of rows) t.0 t.0 → ⊥ = sound.acyclic t.0 p.0 p.1 p.2 (λ m. false≢true (sym open_ ∙ ap (λ (x : ℕ). eqb x 2) m)) in
                  let not_itself : has (needed rows t.0) t.0 ≡ false = false_from_ne_true (has (needed rows t.0) t.0) (λ x. apart (needed_sound (needs_of rows) (numbers rows) t.0 t.0 x)) in
                  due_may_start rows n sound k t.0 (omega (arith, less, needed_fewer (needs_of rows) (numbers rows) (needs_within rows n) v t.0 t.1 not_itself)) low_w t.2
            ]
      ]
    ]

pub none_leaving : (rows : List Row) → least leaving rows ≡ None → (v : ℕ) → 1 ≤ v → leaving rows v ≡ false
none_leaving rows h v low = false_from_ne_true (leaving rows v) (λ k. false≢true (sym (none_at leaving rows h v low (passes_inside is_leaving rows v k)) ∙ k))

pub none_due : (rows : List Row) → NeedsVariables rows → IsSound rows → least may_start rows ≡ None → (v : ℕ) → 1 ≤ v → due rows v ≡ false
none_due rows n sound h v low =
    false_from_ne_true (due rows v) (λ d.
    let t : (w : ℕ) × (1 ≤ w) × (may_start rows w ≡ true) = due_may_start rows n sound (suc (passing (has (needed rows v)) (numbers rows))) v (omega arith) low d in
    let inside : t.0 < length rows = passes_inside wants_start rows t.0 (due_wants rows t.0 (may_due rows t.0 t.2)) in
    false≢true (sym (none_at may_start rows h t.0 t.1 inside) ∙ t.2))

-- ---- the next step

left_parts : (a b : Option ℕ) (v : ℕ) → next_of a b ≡ Some (Left v) → a ≡ Some v
left_parts None None v h = cc
left_parts None (Some x) v h = cc
left_parts (Some x) b v h = cc

pending_parts : (a b : Option ℕ) (v : ℕ) → next_of a b ≡ Some (Pending v) → (a ≡ None) × (b ≡ Some v)
pending_parts None None v h = cc
pending_parts None (Some x) v h = let e : x ≡ v = cc in (refl, ap (λ (y : ℕ). Some y) e)
pending_parts (Some x) b v h = cc

none_parts : (a b : Option ℕ) → next_of a b ≡ None → (a ≡ None) × (b ≡ None)
none_parts None None h = (refl, refl)
none_parts None (Some x) h = cc
none_parts (Some x) b h = cc

pub next_left : (rows : List Row) (v : ℕ) → least leaving rows ≡ Some v → next_step rows ≡ Some (Left v)
next_left rows v h = ap (λ (o : Option ℕ). next_of o (least may_start rows)) h

pub next_start : (rows : List Row) (v : ℕ) → least leaving rows ≡ None → least may_start rows ≡ Some v → next_step rows ≡ Some (Pending v)
next_start rows v h k = ap (λ (o : Option ℕ). next_of o (least may_start rows)) h ∙ ap next_pending k

pub next_none : (rows : List Row) → least leaving rows ≡ None → least may_start rows ≡ None → next_step rows ≡ None
next_none rows h k = ap (λ (o : Option ℕ). next_of o (least may_start rows)) h ∙ ap next_pending k

-- ---- runs

pub runs_more : (rows : List Row) (place : ℕ) (steps : List Step) (mid new : List Row) (s : Step) → Runs rows place steps mid → next_step mid ≡ Some s → new ≡ after mid (place + length steps) s
    → Runs rows place (steps ++ s ∷ []) new
runs_more rows place [] mid new s h k e =
    let none : place + 0 ≡ place = omega arith in (
      ap next_step h ∙ k,
      ap (λ (l : List Row). after l place s) h ∙ ap (λ (p : ℕ). after mid p s) (sym none) ∙ sym e,
    )
runs_more rows place (x ∷ steps) mid new s h k e =
    let more : place + suc (length steps) ≡ place + 1 + length steps = omega arith in
    (h.0, runs_more (after rows place x) (place + 1) steps mid new s h.1 k (e ∙ ap (λ (p : ℕ). after mid p s) more))

-- ---- how many are still to go

pub still_leaving : List Row → ℕ
still_leaving rows = passing (leaving rows) (numbers rows)

pub calm_test : List Row → ℕ → Bool
calm_test rows v = not (passes is_behind rows v) && (not (passes is_plain rows v) || not (list_any (passes wants_start rows) (needed rows v)))

pub restless : List Row → ℕ → Bool
restless rows v = passes is_wanted rows v && not (calm_test rows v)

pub still_starting : List Row → ℕ
still_starting rows = passing (restless rows) (numbers rows)

calm_to : (rows : List Row) (v : ℕ) → calm_test rows v ≡ true → Calm rows v
unfolding calm_test
calm_to rows v h =
    let plain = passes is_plain rows v in
    let some = list_any (passes wants_start rows) (needed rows v) in
    let t : (not (passes is_behind rows v) ≡ true) × ((not plain || not some) ≡ true) = and_parts (not (passes is_behind rows v)) (not plain || not some) h in
    record {
      present = not-true (passes is_behind rows v) t.0;
      needs = λ p w k. elim (or_cases (not plain) (not some) t.1) [
        | inl n ↦ absurd (false≢true (sym (not-true plain n) ∙ p))
        | inr n ↦ false_from_ne_true (passes wants_start rows w) (λ x. false≢true (sym (not-true some n) ∙ has_any (passes wants_start rows) (needed rows v) w k x))
      ];
    }

calm_from : (rows : List Row) (v : ℕ) → Calm rows v → calm_test rows v ≡ true
unfolding calm_test
calm_from rows v calm =
    let plain = passes is_plain rows v in
    let some = list_any (passes wants_start rows) (needed rows v) in
    and_from (not (passes is_behind rows v)) (not plain || not some) (ap not calm.present)
    (elim (cases_Bool plain) [
      | inl p ↦ or_right (not plain) (not some) (ap not (false_from_ne_true some (λ h.
          let t : (w : ℕ) × (has (needed rows v) w ≡ true) × (passes wants_start rows w ≡ true) = any_has (passes wants_start rows) (needed rows v) h in
          false≢true (sym (calm.needs p t.0 t.1) ∙ t.2))))
      | inr p ↦ or_left (not plain) (not some) (ap not p)
    ])

fewer_from : (p q : ℕ → Bool) (xs : List ℕ) (u : ℕ) → ((x : ℕ) → has xs x ≡ true → p x ≡ true → q x ≡ true) → has xs u ≡ true → q u ≡ true → p u ≡ false → passing p xs < passing q xs
fewer_from p q xs u weaker h here gone =
    let m : (passing p xs ≤ passing q xs) × ((passing p xs < passing q xs) ⊎ Same p q xs) = passing_more p q xs weaker in
    elim m.1 [ inl less ↦ less | inr same ↦ absurd (false≢true (sym gone ∙ same u h here)) ]

pub leaving_few : (rows : List Row) → length rows ≡ 1025 → still_leaving rows ≤ 1024
unfolding still_leaving
leaving_few rows e = few (leaving rows) rows e
  where
    length_range : (a n : ℕ) → length (range_with_len a n) ≡ n
    length_range a zero = refl
    length_range a (suc n) = ap suc (length_range (a + 1) n)

    few : (test : ℕ → Bool) (rows : List Row) → length rows ≡ 1025 → passing test (numbers rows) ≤ 1024
    few test rows e = omega (arith, passing_le test (numbers rows), length_range 1 (length rows - 1), e)

pub starting_few : (rows : List Row) → length rows ≡ 1025 → still_starting rows ≤ 1024
unfolding still_starting
starting_few rows e = few (restless rows) rows e
  where
    length_range : (a n : ℕ) → length (range_with_len a n) ≡ n
    length_range a zero = refl
    length_range a (suc n) = ap suc (length_range (a + 1) n)

    few : (test : ℕ → Bool) (rows : List Row) → length rows ≡ 1025 → passing test (numbers rows) ≤ 1024
    few test rows e = omega (arith, passing_le test (numbers rows), length_range 1 (length rows - 1), e)

pub leaving_fewer : (rows : List Row) (u : ℕ) → least leaving rows ≡ Some u → still_leaving (stepped ended u 0 rows) < still_leaving rows
unfolding still_leaving
leaving_fewer rows u h =
    let l : IsLeast leaving rows u = least_some leaving rows u h in
    subst (λ (xs : List ℕ). passing (leaving (stepped ended u 0 rows)) xs < passing (leaving rows) (numbers rows)) (sym (numbers_stepped ended mild_ended u 0 rows))
    (fewer_from (leaving (stepped ended u 0 rows)) (leaving rows) (numbers rows) u (λ x k. λ y. (leaving_ended rows u x y).1) (has_numbers rows u l.low l.inside) l.here
    (false_from_ne_true (leaving (stepped ended u 0 rows) u) (λ y. (leaving_ended rows u u y).0 refl)))

pub starting_fewer : (rows : List Row) → NeedsVariables rows → IsSound rows → (u place : ℕ) → least may_start rows ≡ Some u → still_starting (stepped begun u place rows) < still_starting rows
unfolding still_starting restless
starting_fewer rows n sound u place h =
    let l : IsLeast may_start rows u = least_some may_start rows u h in
    let new = stepped begun u place rows in
    let d : due rows u ≡ true = may_due rows u l.here in
    let was : calm_test rows u ≡ false = false_from_ne_true (calm_test rows u) (λ k. false≢true (sym (Calm.present (calm_to rows u k)) ∙ due_behind rows u d)) in
    let is : calm_test new u ≡ true = calm_from new u (calm_self rows n sound u place l.here) in
    subst (λ (xs : List ℕ). passing (restless new) xs < passing (restless rows) (numbers rows)) (sym (numbers_stepped begun mild_begun u place rows))
    (fewer_from (restless new) (restless rows) (numbers rows) u
    (λ x k. λ y.
    let t : (passes is_wanted new x ≡ true) × (not (calm_test new x) ≡ true) = and_parts (passes is_wanted new x) (not (calm_test new x)) y in
    and_from (passes is_wanted rows x) (not (calm_test rows x)) (sym (wanted_stepped begun mild_begun u place rows x) ∙ t.0)
    (ap not (false_from_ne_true (calm_test rows x) (λ c. false≢true (sym (not-true (calm_test new x) t.1) ∙ calm_from new x (calm_other rows n sound u place l.here x (calm_to rows x c)))))))
    (has_numbers rows u l.low l.inside)
    (and_from (passes is_wanted rows u) (not (calm_test rows u)) (due_wanted rows u d) (ap not was))
    (and_right (passes is_wanted new u) (not (calm_test new u)) (ap not is)))

-- ---- at most once

pub none_leaving_begun : (rows : List Row) → NeedsVariables rows → IsSound rows → (u place : ℕ) → may_start rows u ≡ true → least leaving rows ≡ None → least leaving (stepped begun u place rows) ≡ None
none_leaving_begun rows n sound u place may h =
    let new = stepped begun u place rows in
    least_none (leaving new) new (length new) (omega arith) (λ w low _. leaving_begun rows n sound u place (due_wanted rows u (may_due rows u may)) w (none_leaving rows h w low))

not_again : (rows : List Row) (place : ℕ) (steps : List Step) (new : List Row) (v : ℕ) → IsRows rows → IsSound rows → least leaving rows ≡ None → Calm rows v → Runs rows place steps new → pending_count v steps ≡ 0
not_again rows place [] new v is sound none calm runs = refl
not_again rows place (Left u ∷ steps) new v is sound none calm runs =
    let e : least leaving rows ≡ Some u = left_parts (least leaving rows) (least may_start rows) u runs.0 in cc
not_again rows place (Pending u ∷ steps) new v is sound none calm runs =
    let t : (least leaving rows ≡ None) × (least may_start rows ≡ Some u) = pending_parts (least leaving rows) (least may_start rows) u runs.0 in
    let may : may_start rows u ≡ true = IsLeast.here (least_some may_start rows u t.1) in
    let other : eqb u v ≡ false = ne_eqb u v (λ e. false≢true (sym calm.present ∙ (ap (passes is_behind rows) (sym e) ∙ due_behind rows u (may_due rows u may)))) in
    let rest : pending_count v steps ≡ 0 =
    not_again (stepped begun u place rows) (place + 1) steps new v (rows_stepped begun mild_begun u place rows is) (sound_stepped begun mild_begun u place rows sound)
    (none_leaving_begun rows is.needs sound u place may none) (calm_other rows is.needs sound u place may v calm) runs.1 in
    rw other (omega (arith, rest))

pub once_in : (rows : List Row) (place : ℕ) (steps : List Step) (new : List Row) → IsRows rows → IsSound rows → Runs rows place steps new → (v : ℕ) → pending_count v steps ≤ 1
once_in rows place [] new is sound runs v = omega arith
once_in rows place (Left u ∷ steps) new is sound runs v =
    omega (arith, once_in (stepped ended u 0 rows) (place + 1) steps new (rows_stepped ended mild_ended u 0 rows is) (sound_stepped ended mild_ended u 0 rows sound) runs.1 v)
once_in rows place (Pending u ∷ steps) new is sound runs v =
    let t : (least leaving rows ≡ None) × (least may_start rows ≡ Some u) = pending_parts (least leaving rows) (least may_start rows) u runs.0 in
    let may : may_start rows u ≡ true = IsLeast.here (least_some may_start rows u t.1) in
    let is_then : IsRows (stepped begun u place rows) = rows_stepped begun mild_begun u place rows is in
    let sound_then : IsSound (stepped begun u place rows) = sound_stepped begun mild_begun u place rows sound in
    elim (cases_eq u v) [
      | inl same ↦
          let calm : Calm (stepped begun u place rows) v = subst (Calm (stepped begun u place rows)) same (calm_self rows is.needs sound u place may) in
          let rest : pending_count v steps ≡ 0 = not_again (stepped begun u place rows) (place + 1) steps new v is_then sound_then (none_leaving_begun rows is.needs sound u place may t.0) calm runs.1 in
          one_more (eqb u v) (pending_count v steps) rest
      | inr other ↦ rw (ne_eqb u v other) (omega (arith, once_in (stepped begun u place rows) (place + 1) steps new is_then sound_then runs.1 v))
    ]
  where
    one_more : (b : Bool) (n : ℕ) → n ≡ 0 → cond b 1 0 + n ≤ 1
    one_more true n e = omega (arith, e)
    one_more false n e = omega (arith, e)

pub closes_from : (rows : List Row) (place : ℕ) (steps : List Step) (new : List Row) → IsRows rows → IsSound rows → IsRows new → IsSound new → Runs rows place steps new → next_step new ≡ None
    → Closes rows place steps new
closes_from rows place steps new is sound is_new sound_new runs ends =
    let t : (least leaving new ≡ None) × (least may_start new ≡ None) = none_parts (least leaving new) (least may_start new) ends in
    record {
      runs = runs;
      ends = ends;
      quiet = λ v low. (none_leaving new t.0 v low, none_due new is_new.needs sound_new t.1 v low);
      once = once_in rows place steps new is sound runs;
    }
