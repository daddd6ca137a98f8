-- What needs a marked variable is marked in the end.
use Rattle.std.proofs.Common.{ℕ, zero, suc, ◌+◌, ◌-◌, ◌≡◌, ◌<◌, ◌≤◌, refl, sym, ◌∙◌, ap, subst, Bool, true, false, ◌⊎◌, inl, inr, List, [], ◌∷◌, length, get_or, set, arith, length-set, get_or-set_same, get_or-set_other, Option}
use Rattle.std.specs.List.{list_any, range_with_len}
use Rattle.std.proofs.lemmas.Bool.{false≢true, cases_eq, cases_lt, cases_Bool, or_cases, or_left, or_right, false_from_ne_true}
use Rattle.std.proofs.lemmas.Option.{slice_get_past}
use Rattle.nb_graph.specs.Needs.{has, Needs, at_once, through}
use Rattle.nb_graph.specs.Marking.{unmarked}
use Rattle.nb_graph.proofs.Reaches.{has_head, has_tail, any_has, has_any, needed_sound, needed_complete, Needs_trans, Within}
use Rattle.nb_wave.specs.declared.row.Row.{Row}
use Rattle.nb_wave.specs.Rules.{from_option, needs_of, numbers, needed, rests_on, NeedsVariables}
use Rattle.nb_wave.specs.Marks.{marked, AreMarks, Rests, IsWidening, IsWidened}

-- ---- marks in a list

unmarked_set : (marks : List Bool) (u : ℕ) → u < length marks → get_or marks u false ≡ false → unmarked (set marks u true) + 1 ≡ unmarked marks
unmarked_set [] u h e = absurd (omega (arith, h))
unmarked_set (true ∷ marks) zero h e = absurd (false≢true (sym e))
unmarked_set (false ∷ marks) zero h e = omega arith
unmarked_set (true ∷ marks) (suc u) h e = unmarked_set marks u (omega (arith, h)) e
unmarked_set (false ∷ marks) (suc u) h e = omega (arith, unmarked_set marks u (omega (arith, h)) e)

set_mark : (marks : List Bool) (u x : ℕ) → get_or (set marks u true) x false ≡ true → (x ≡ u) ⊎ (get_or marks x false ≡ true)
set_mark marks u x h =
    elim (cases_eq x u) [ inl e ↦ inl e | inr ne ↦ inr (sym (get_or-set_other marks u x true false ne) ∙ h) ]

mark_stays : (marks : List Bool) (u x : ℕ) → u < length marks → get_or marks x false ≡ true → get_or (set marks u true) x false ≡ true
mark_stays marks u x h k =
    elim (cases_eq x u) [
      | inl e ↦ ap (λ (y : ℕ). get_or (set marks u true) y false) e ∙ get_or-set_same marks u true false h
      | inr ne ↦ get_or-set_other marks u x true false ne ∙ k
    ]

-- a loop that writes a test at each place
pub marks_more : (test : ℕ → Bool) (marks : List Bool) (i : ℕ) (b : Bool) → i < length marks → b ≡ test i
    → ((v : ℕ) → v < i → marked marks v ≡ test v) → (v : ℕ) → v < i + 1 → marked (set marks i b) v ≡ test v
marks_more test marks i b inside e before v less =
    elim (cases_eq v i) [
      | inl same ↦ ap (λ (y : ℕ). get_or (set marks i b) y false) same ∙ get_or-set_same marks i b false inside ∙ e ∙ ap test (sym same)
      | inr other ↦ get_or-set_other marks i v b false other ∙ before v (omega (arith, other))
    ]

-- ---- needs

has_range : (a n u : ℕ) → a ≤ u → u < a + n → has (range_with_len a n) u ≡ true
has_range a zero u low high = absurd (omega arith)
has_range a (suc n) u low high =
    elim (cases_eq a u) [
      | inl same ↦ has_head a (range_with_len (a + 1) n) u same
      | inr other ↦ has_tail a (range_with_len (a + 1) n) u (has_range (a + 1) n u (omega (arith, other)) (omega arith))
    ]

pub has_numbers : (rows : List Row) (u : ℕ) → 1 ≤ u → u < length rows → has (numbers rows) u ≡ true
has_numbers rows u low high = has_range 1 (length rows - 1) u low (omega arith)

pub needs_within : (rows : List Row) → NeedsVariables rows → Within (needs_of rows) (numbers rows)
needs_within rows n v u h = let t : (1 ≤ u) × (u < length rows) = n v u h in has_numbers rows u t.0 t.1

-- what needs anything has a row
pub needs_inside : (rows : List Row) (v u : ℕ) → has (needs_of rows v) u ≡ true → v < length rows
needs_inside rows v u h =
    elim (cases_lt v (length rows)) [
      | inl less ↦ less
      | inr past ↦ absurd (false≢true (sym (ap (λ (o : Option Row). has (from_option [] (λ (r : Row). r.needs) o) u) (slice_get_past rows v past)) ∙ h))
    ]

pub rests_from : (test : ℕ → Bool) (rows : List Row) → NeedsVariables rows → (v : ℕ) → Rests test rows v → rests_on test rows v ≡ true
rests_from test rows n v h =
    elim h [
      | inl here ↦ or_left (test v) (list_any test (needed rows v)) here
      | inr t ↦ or_right (test v) (list_any test (needed rows v)) (has_any test (needed rows v) t.0 (needed_complete (needs_of rows) (numbers rows) (needs_within rows n) t.1) t.2)
    ]

pub rests_to : (test : ℕ → Bool) (rows : List Row) (v : ℕ) → rests_on test rows v ≡ true → Rests test rows v
rests_to test rows v h =
    elim (or_cases (test v) (list_any test (needed rows v)) h) [
      | inl here ↦ inl here
      | inr some ↦
          let t : (w : ℕ) × (has (needed rows v) w ≡ true) × (test w ≡ true) = any_has test (needed rows v) some in
          inr (t.0, needed_sound (needs_of rows) (numbers rows) v t.0 t.1, t.2)
    ]

-- what needs one that rests on them does too
pub rests_above : (test : ℕ → Bool) (rows : List Row) (v u : ℕ) → has (needs_of rows v) u ≡ true → Rests test rows u → Rests test rows v
rests_above test rows v u h r =
    elim r [
      | inl here ↦ inr (u, at_once h, here)
      | inr t ↦ inr (t.0, Needs_trans (needs_of rows) (numbers rows) (at_once h) t.1, t.2)
    ]

-- ---- a pass

pub widening_begins : (rows : List Row) (old : List Bool) → IsWidening rows old 0 false old
widening_begins rows old =
    record {
      size = refl;
      keeps = λ v h. h;
      sound = λ v h. inl h;
      same = λ _. refl;
      closed = λ _ v less h. absurd (omega (arith, less));
      fewer = omega arith;
      less = λ e. absurd (false≢true e);
    }

module _ (rows : List Row) (old : List Bool) (i : ℕ) (grew : Bool) (new : List Bool) (w : IsWidening rows old i grew new) where
  pub widening_skips : (marked new i ≡ true) ⊎ (list_any (marked new) (needs_of rows i) ≡ false) → IsWidening rows old (i + 1) grew new
  widening_skips h =
      record {
        size = w.size;
        keeps = w.keeps;
        sound = w.sound;
        same = w.same;
        closed = λ e v less some. elim (cases_eq v i) [
          | inl same ↦ elim h [
            | inl here ↦ ap (marked new) same ∙ here
            | inr none ↦ absurd (false≢true (sym none ∙ (ap (λ (x : ℕ). list_any (marked new) (needs_of rows x)) (sym same) ∙ some)))
          ]
          | inr other ↦ w.closed e v (omega (arith, other)) some
        ];
        fewer = w.fewer;
        less = w.less;
      }

  pub widening_marks : i < length new → marked new i ≡ false → list_any (marked new) (needs_of rows i) ≡ true → IsWidening rows old (i + 1) true (set new i true)
  widening_marks inside fresh some =
      let t : (u : ℕ) × (has (needs_of rows i) u ≡ true) × (marked new u ≡ true) = any_has (marked new) (needs_of rows i) some in
      let one : unmarked (set new i true) + 1 ≡ unmarked new = unmarked_set new i inside fresh in
      record {
        size = length-set new i true ∙ w.size;
        keeps = λ v h. mark_stays new i v inside (w.keeps v h);
        sound = λ v h. elim (set_mark new i v h) [
          | inl same ↦ subst (Rests (marked old) rows) (sym same) (rests_above (marked old) rows i t.0 t.1 (w.sound t.0 t.2))
          | inr before ↦ w.sound v before
        ];
        same = λ e. absurd (false≢true (sym e));
        closed = λ e. absurd (false≢true (sym e));
        fewer = omega (arith, one, w.fewer);
        less = λ e. omega (arith, one, w.fewer);
      }

-- ---- all passes

pub record IsSpreading (rows : List Row) (old new : List Bool) : Type 0 where
  pub size : length new ≡ length old
  pub keeps : (v : ℕ) → marked old v ≡ true → marked new v ≡ true
  pub sound : (v : ℕ) → marked new v ≡ true → Rests (marked old) rows v

pub spreading_begins : (rows : List Row) (old : List Bool) → IsSpreading rows old old
spreading_begins rows old = record { size = refl; keeps = λ v h. h; sound = λ v h. inl h }

rests_again : (a b : ℕ → Bool) (rows : List Row) (v : ℕ) → ((x : ℕ) → b x ≡ true → Rests a rows x) → Rests b rows v → Rests a rows v
rests_again a b rows v f r =
    elim r [
      | inl here ↦ f v here
      | inr t ↦ elim (f t.0 t.2) [
        | inl here ↦ inr (t.0, t.1, here)
        | inr s ↦ inr (s.0, Needs_trans (needs_of rows) (numbers rows) t.1 s.1, s.2)
      ]
    ]

pub spreading_more : (rows : List Row) (old mid new : List Bool) (grew : Bool) → IsSpreading rows old mid → IsWidened rows mid grew new → IsSpreading rows old new
spreading_more rows old mid new grew s w =
    record {
      size = w.size ∙ s.size;
      keeps = λ v h. w.keeps v (s.keeps v h);
      sound = λ v h. rests_again (marked old) (marked mid) rows v s.sound (w.sound v h);
    }

closed_needs : (rows : List Row) (new : List Bool) → ((v : ℕ) → v < length rows → list_any (marked new) (needs_of rows v) ≡ true → marked new v ≡ true)
    → {v w : ℕ} → Needs (needs_of rows) v w → marked new w ≡ true → marked new v ≡ true
closed_needs rows new closed {v} {w} (at_once h) k = closed v (needs_inside rows v w h) (has_any (marked new) (needs_of rows v) w h k)
closed_needs rows new closed {v} {w} (through {w = x} n h) k =
    closed_needs rows new closed n (closed x (needs_inside rows x w h) (has_any (marked new) (needs_of rows x) w h k))

pub spreading_ends : (rows : List Row) → NeedsVariables rows → (old mid new : List Bool) → IsSpreading rows old mid → IsWidened rows mid false new
    → AreMarks rows (rests_on (marked old) rows) new
spreading_ends rows n old mid new s w v inside =
    let all : IsSpreading rows old new = spreading_more rows old mid new false s w in
    let closed : (v : ℕ) → v < length rows → list_any (marked new) (needs_of rows v) ≡ true → marked new v ≡ true = w.closed refl in
    elim (cases_Bool (marked new v)) [
      | inl here ↦ here ∙ sym (rests_from (marked old) rows n v (all.sound v here))
      | inr not_here ↦
          not_here
          ∙ sym (false_from_ne_true (rests_on (marked old) rows v) (λ h. elim (rests_to (marked old) rows v h) [
            | inl own ↦ false≢true (sym not_here ∙ all.keeps v own)
            | inr t ↦ false≢true (sym not_here ∙ closed_needs rows new closed t.1 (all.keeps t.0 t.2))
          ]))
    ]
