-- Who started is calm, and stays so: neither it nor what it needs wants a start again.
use Rattle.std.proofs.Common.{ℕ, ◌≡◌, ◌≢◌, refl, sym, ◌∙◌, ap, subst, Bool, true, false, not, ◌&&◌, ◌||◌, inl, inr, eqb, List, [], arith, Option, Some, None}
use Rattle.std.specs.Prelude.{slice_get}
use Rattle.std.specs.List.{list_any}
use Rattle.std.proofs.lemmas.Bool.{false≢true, cases_eq, cases_Bool, eqb-true, eqb-false, or_cases, or_right, and_parts, and_from, not-true, false_from_ne_true}
use Rattle.nb_graph.specs.Needs.{has, Needs, at_once, through}
use Rattle.nb_graph.proofs.Reaches.{any_has, has_any, needed_sound, needed_complete, needed_trans}
use Rattle.nb_wave.specs.declared.footing.Footing.{Footing}
use Rattle.nb_wave.specs.declared.row.Row.{Row}
use Rattle.nb_wave.specs.Footings.{same_footing}
use Rattle.nb_wave.specs.Rules.{from_option, is_wanted, is_idle, is_behind, is_leaving, is_circular, is_overtaken, wants_start, passes, needs_of, numbers, needed, rests_on, pulls_on, held, due, may_start, leaving, NeedsVariables, IsSound}
use Rattle.nb_wave.specs.Steps.{resting, rested, ended, begun, stepped}
use Rattle.nb_wave.proofs.Numbers.{same_footing_refl}
use Rattle.nb_wave.proofs.Spreads.{needs_within}
use Rattle.nb_wave.proofs.Stepped.{resting_other, resting_none, mild_begun, mild_ended, is_plain, get_stepped_same, get_stepped_other, wanted_stepped, plain_stepped, needed_stepped, Comes, comes}

-- ---- passing

-- a row that passes is there
pub passes_row : (test : Row → Bool) (rows : List Row) (v : ℕ) → passes test rows v ≡ true → (r : Row) × (slice_get rows v ≡ Some r) × (test r ≡ true)
passes_row test rows v h = go (slice_get rows v) refl
  where
    go : (o : Option Row) → slice_get rows v ≡ o → (r : Row) × (slice_get rows v ≡ Some r) × (test r ≡ true)
    go None e = absurd (false≢true (ap (from_option false test) (sym e) ∙ h))
    go (Some r) e = (r, e, ap (from_option false test) (sym e) ∙ h)

pub passes_at : (test : Row → Bool) (rows : List Row) (v : ℕ) (r : Row) → slice_get rows v ≡ Some r → passes test rows v ≡ test r
passes_at test rows v r e = ap (from_option false test) e

passes_and : (p q : Row → Bool) (rows : List Row) (v : ℕ) → passes (λ r. p r && q r) rows v ≡ (passes p rows v && passes q rows v)
passes_and p q rows v = go (slice_get rows v)
  where
    go : (o : Option Row) → from_option false (λ r. p r && q r) o ≡ (from_option false p o && from_option false q o)
    go None = refl
    go (Some r) = refl

pub wants_parts : (rows : List Row) (v : ℕ) → passes wants_start rows v ≡ (passes is_wanted rows v && passes is_behind rows v)
wants_parts rows v = passes_and is_wanted is_behind rows v

-- ---- due

module _ (rows : List Row) (v : ℕ) where
  pub due_wants : due rows v ≡ true → passes wants_start rows v ≡ true
  due_wants h = (and_parts (passes wants_start rows v) (not (held rows v)) h).0

  pub due_free : due rows v ≡ true → held rows v ≡ false
  due_free h = not-true (held rows v) (and_parts (passes wants_start rows v) (not (held rows v)) h).1

  pub due_wanted : due rows v ≡ true → passes is_wanted rows v ≡ true
  due_wanted h = (and_parts (passes is_wanted rows v) (passes is_behind rows v) (sym (wants_parts rows v) ∙ due_wants h)).0

  pub due_behind : due rows v ≡ true → passes is_behind rows v ≡ true
  due_behind h = (and_parts (passes is_wanted rows v) (passes is_behind rows v) (sym (wants_parts rows v) ∙ due_wants h)).1

  pub may_due : may_start rows v ≡ true → due rows v ≡ true
  may_due h = (and_parts (due rows v) (passes is_circular rows v || not (list_any (due rows) (needed rows v))) h).0

-- what needs a held variable is held
pub held_above : (rows : List Row) → NeedsVariables rows → (v w : ℕ) → has (needed rows v) w ≡ true → held rows w ≡ true → held rows v ≡ true
held_above rows n v w need h =
    let overtaken = passes is_overtaken rows in
    let t : (pulls_on rows ≡ true) × (rests_on overtaken rows w ≡ true) = and_parts (pulls_on rows) (rests_on overtaken rows w) h in
    and_from (pulls_on rows) (rests_on overtaken rows v) t.0
    (or_right (overtaken v) (list_any overtaken (needed rows v))
    (elim (or_cases (overtaken w) (list_any overtaken (needed rows w)) t.1) [
      | inl own ↦ has_any overtaken (needed rows v) w need own
      | inr some ↦
          let s : (x : ℕ) × (has (needed rows w) x ≡ true) × (overtaken x ≡ true) = any_has overtaken (needed rows w) some in
          has_any overtaken (needed rows v) s.0 (needed_trans (needs_of rows) (numbers rows) (needs_within rows n) v w s.0 need s.1) s.2
    ]))

-- a plain variable isn't circular
pub plain_not_circular : (r : Row) → is_plain r ≡ true → is_circular r ≡ false
plain_not_circular r h = let e : Footing.mark r.present ≡ 0 = eqb-true (Footing.mark r.present) 0 h in ap (λ (m : ℕ). eqb m 2) e

-- nothing that a plain variable needs wants a start, where it may start
pub may_needs : (rows : List Row) → NeedsVariables rows → (u w : ℕ) → may_start rows u ≡ true → passes is_plain rows u ≡ true → has (needed rows u) w ≡ true → passes wants_start rows w ≡ false
may_needs rows n u w may plain need =
    let d : due rows u ≡ true = may_due rows u may in
    let p : (r : Row) × (slice_get rows u ≡ Some r) × (is_plain r ≡ true) = passes_row is_plain rows u plain in
    let open_ : passes is_circular rows u ≡ false = passes_at is_circular rows u p.0 p.1 ∙ plain_not_circular p.0 p.2 in
    let none : list_any (due rows) (needed rows u) ≡ false = elim (or_cases (passes is_circular rows u) (not (list_any (due rows) (needed rows u)))
    (and_parts (due rows u) (passes is_circular rows u || not (list_any (due rows) (needed rows u))) may).1) [
      | inl c ↦ absurd (false≢true (sym open_ ∙ c))
      | inr k ↦ not-true (list_any (due rows) (needed rows u)) k
    ] in
    false_from_ne_true (passes wants_start rows w) (λ h.
    let free : held rows w ≡ false = false_from_ne_true (held rows w) (λ k. false≢true (sym (due_free rows u d) ∙ held_above rows n u w need k)) in
    let dw : due rows w ≡ true = and_from (passes wants_start rows w) (not (held rows w)) h (ap not free) in
    false≢true (sym none ∙ has_any (due rows) (needed rows u) w need dw))

-- a wanted plain variable doesn't need itself
pub plain_apart : (rows : List Row) → IsSound rows → (u : ℕ) → passes is_wanted rows u ≡ true → passes is_plain rows u ≡ true → Needs (needs_of rows) u u → ⊥
plain_apart rows sound u want plain =
    let p : (r : Row) × (slice_get rows u ≡ Some r) × (is_wanted r ≡ true) = passes_row is_wanted rows u want in
    let e : is_plain p.0 ≡ true = sym (passes_at is_plain rows u p.0 p.1) ∙ plain in
    sound.acyclic u p.0 p.1 p.2 (λ m. let z : Footing.mark (Row.present p.0) ≡ 0 = eqb-true (Footing.mark (Row.present p.0)) 0 e in omega (arith, m, z))

-- ---- calm

-- it isn't behind, and if it has no mark, nothing that it needs wants a start
pub record Calm (rows : List Row) (v : ℕ) : Type 0 where
  pub present : passes is_behind rows v ≡ false
  pub needs : passes is_plain rows v ≡ true → (w : ℕ) → has (needed rows v) w ≡ true → passes wants_start rows w ≡ false

-- a start of u
module _ (rows : List Row) (n : NeedsVariables rows) (sound : IsSound rows) (u place : ℕ) where
  abbrev new : List Row
  new = stepped begun u place rows

  -- what doesn't need u rests on what it did
  resting_apart : (w : ℕ) (r : Row) → slice_get rows w ≡ Some r → (passes is_plain rows w ≡ true → has (needs_of rows w) u ≡ false) → resting u place r ≡ r.present
  resting_apart w r at apart =
      elim (cases_Bool (is_plain r)) [
        | inl plain ↦ resting_other u place r (ap (λ (o : Option Row). has (from_option [] (λ (x : Row). x.needs) o) u) (sym at) ∙ apart (passes_at is_plain rows w r at ∙ plain))
        | inr not_plain ↦
            let m : Footing.mark r.present ≢ 0 = eqb-false (Footing.mark r.present) 0 not_plain in
            resting_none u place r (sound.starts w r at m) (sound.renewals w r at m)
      ]

  pub behind_apart : (w : ℕ) → u ≢ w → (passes is_plain rows w ≡ true → has (needs_of rows w) u ≡ false) → passes is_behind (stepped begun u place rows) w ≡ passes is_behind rows w
  behind_apart w other apart = go (slice_get rows w) refl
    where
      go : (o : Option Row) → slice_get rows w ≡ o → passes is_behind (stepped begun u place rows) w ≡ passes is_behind rows w
      go (Some r) e =
          let there : slice_get (stepped begun u place rows) w ≡ Some (rested u place r) = get_stepped_other begun mild_begun u place rows w r other e in
          passes_at is_behind (stepped begun u place rows) w (rested u place r) there
          ∙ ap (λ (p : Footing). is_behind (record r { present = p })) (resting_apart w r e apart)
          ∙ sym (passes_at is_behind rows w r e)
      go None e = same_tests_at (stepped begun u place rows) e
        where
          same_tests_at : (l : List Row) → slice_get rows w ≡ None → passes is_behind (stepped begun u place rows) w ≡ passes is_behind rows w
          same_tests_at l e = none_there (slice_get (stepped begun u place rows) w) refl
            where
              none_there : (o : Option Row) → slice_get (stepped begun u place rows) w ≡ o → passes is_behind (stepped begun u place rows) w ≡ passes is_behind rows w
              none_there None k = ap (from_option false is_behind) k ∙ sym (ap (from_option false is_behind) e)
              none_there (Some x) k = let t : Comes begun mild_begun u place rows w x = comes begun mild_begun u place rows w x k in let at : slice_get rows w ≡ Some t.old = t.at in cc

  pub wants_apart : (w : ℕ) → u ≢ w → (passes is_plain rows w ≡ true → has (needs_of rows w) u ≡ false) → passes wants_start (stepped begun u place rows) w ≡ passes wants_start rows w
  wants_apart w other apart =
      wants_parts (stepped begun u place rows) w
      ∙ ap (λ (b : Bool). b && passes is_behind (stepped begun u place rows) w) (wanted_stepped begun mild_begun u place rows w)
      ∙ ap (λ (b : Bool). passes is_wanted rows w && b) (behind_apart w other apart)
      ∙ sym (wants_parts rows w)

  complete : (v w : ℕ) → Needs (needs_of rows) v w → has (needed rows v) w ≡ true
  complete v w k = needed_complete (needs_of rows) (numbers rows) (needs_within rows n) k

  found : (v w : ℕ) → has (needed rows v) w ≡ true → Needs (needs_of rows) v w
  found v w h = needed_sound (needs_of rows) (numbers rows) v w h

  -- what starts is calm then
  pub calm_self : may_start rows u ≡ true → Calm (stepped begun u place rows) u
  calm_self may =
      let d : due rows u ≡ true = may_due rows u may in
      let want : passes is_wanted rows u ≡ true = due_wanted rows u d in
      let p : (r : Row) × (slice_get rows u ≡ Some r) × (is_wanted r ≡ true) = passes_row is_wanted rows u want in
      let apart : passes is_plain rows u ≡ true → Needs (needs_of rows) u u → ⊥ = plain_apart rows sound u want in
      record {
        present =
            passes_at is_behind (stepped begun u place rows) u (rested u place (begun p.0)) (get_stepped_same begun mild_begun u place rows p.0 p.1)
            ∙ ap (λ (f : Footing). not (same_footing f (Row.present p.0))) (resting_apart u p.0 p.1 (λ plain. false_from_ne_true (has (needs_of rows u) u) (λ h. apart plain (at_once h))))
            ∙ ap not (same_footing_refl (Row.present p.0));
        needs = λ plain w h.
            let plain_then : passes is_plain rows u ≡ true = sym (plain_stepped begun mild_begun u place rows u) ∙ plain in
            let need : has (needed rows u) w ≡ true = ap (λ (l : List ℕ). has l w) (sym (needed_stepped begun mild_begun u place rows u)) ∙ h in
            let k : Needs (needs_of rows) u w = found u w need in
            wants_apart w (λ e. apart plain_then (subst (Needs (needs_of rows) u) (sym e) k)) (λ _. false_from_ne_true (has (needs_of rows w) u) (λ x. apart plain_then (through k x)))
            ∙ may_needs rows n u w may plain_then need;
      }

  -- what was calm stays so
  pub calm_other : may_start rows u ≡ true → (v : ℕ) → Calm rows v → Calm (stepped begun u place rows) v
  calm_other may v calm =
      let d : due rows u ≡ true = may_due rows u may in
      let other : u ≢ v = λ e. false≢true (sym calm.present ∙ (ap (passes is_behind rows) (sym e) ∙ due_behind rows u d)) in
      let unneeded : passes is_plain rows v ≡ true → Needs (needs_of rows) v u → ⊥ = λ plain k. false≢true (sym (calm.needs plain u (complete v u k)) ∙ due_wants rows u d) in
      record {
        present = behind_apart v other (λ plain. false_from_ne_true (has (needs_of rows v) u) (λ h. unneeded plain (at_once h))) ∙ calm.present;
        needs = λ plain w h.
            let plain_then : passes is_plain rows v ≡ true = sym (plain_stepped begun mild_begun u place rows v) ∙ plain in
            let need : has (needed rows v) w ≡ true = ap (λ (l : List ℕ). has l w) (sym (needed_stepped begun mild_begun u place rows v)) ∙ h in
            let k : Needs (needs_of rows) v w = found v w need in
            wants_apart w (λ e. unneeded plain_then (subst (Needs (needs_of rows) v) (sym e) k)) (λ _. false_from_ne_true (has (needs_of rows w) u) (λ x. unneeded plain_then (through k x)))
            ∙ calm.needs plain_then w need;
      }

  -- nothing leaves that didn't
  pub leaving_begun : passes is_wanted rows u ≡ true → (w : ℕ) → leaving rows w ≡ false → leaving (stepped begun u place rows) w ≡ false
  leaving_begun want w h =
      false_from_ne_true (leaving (stepped begun u place rows) w) (λ k.
      let t : (r : Row) × (slice_get (stepped begun u place rows) w ≡ Some r) × (is_leaving r ≡ true) = passes_row is_leaving (stepped begun u place rows) w k in
      elim (cases_eq u w) [
        | inl same ↦
            let here : passes is_wanted (stepped begun u place rows) w ≡ true = wanted_stepped begun mild_begun u place rows w ∙ ap (passes is_wanted rows) (sym same) ∙ want in
            let e : is_wanted t.0 ≡ true = sym (passes_at is_wanted (stepped begun u place rows) w t.0 t.1) ∙ here in
            let gone : not (is_wanted t.0) ≡ true = (and_parts (not (is_wanted t.0)) (not (is_idle t.0)) t.2).0 in
            false≢true (ap not (sym e) ∙ gone)
        | inr other ↦
            let c : Comes begun mild_begun u place rows w t.0 = comes begun mild_begun u place rows w t.0 t.1 in
            let there : slice_get (stepped begun u place rows) w ≡ Some (rested u place c.old) = get_stepped_other begun mild_begun u place rows w c.old other c.at in
            let e : t.0 ≡ rested u place c.old = let s : slice_get (stepped begun u place rows) w ≡ Some t.0 = t.1 in cc in
            false≢true (sym h ∙ passes_at is_leaving rows w c.old c.at ∙ ap is_leaving (sym e) ∙ t.2)
      ])

-- ---- a `left`

module _ (rows : List Row) (u : ℕ) where
  -- nothing leaves then that didn't before, and u doesn't
  pub leaving_ended : (w : ℕ) → leaving (stepped ended u 0 rows) w ≡ true → (u ≢ w) × (leaving rows w ≡ true)
  leaving_ended w k =
      let t : (r : Row) × (slice_get (stepped ended u 0 rows) w ≡ Some r) × (is_leaving r ≡ true) = passes_row is_leaving (stepped ended u 0 rows) w k in
      let c : Comes ended mild_ended u 0 rows w t.0 = comes ended mild_ended u 0 rows w t.0 t.1 in
      let s : slice_get (stepped ended u 0 rows) w ≡ Some t.0 = t.1 in
      elim (cases_eq u w) [
        | inl same ↦
            let at_u : slice_get rows u ≡ Some c.old = ap (slice_get rows) same ∙ c.at in
            let there : slice_get (stepped ended u 0 rows) w ≡ Some (rested u 0 (ended c.old)) = ap (slice_get (stepped ended u 0 rows)) (sym same) ∙ get_stepped_same ended mild_ended u 0 rows c.old at_u in
            let e : t.0 ≡ rested u 0 (ended c.old) = cc in
            let idle : is_idle t.0 ≡ true = ap is_idle e in
            absurd (false≢true (ap not (sym idle) ∙ (and_parts (not (is_wanted t.0)) (not (is_idle t.0)) t.2).1))
        | inr other ↦
            let there : slice_get (stepped ended u 0 rows) w ≡ Some (rested u 0 c.old) = get_stepped_other ended mild_ended u 0 rows w c.old other c.at in
            let e : t.0 ≡ rested u 0 c.old = cc in
            (other, passes_at is_leaving rows w c.old c.at ∙ ap is_leaving (sym e) ∙ t.2)
      ]
