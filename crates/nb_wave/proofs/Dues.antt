-- Marks of held and due variables, and which may start by them.
use Rattle.std.proofs.Common.{ℕ, ◌≡◌, ◌<◌, ◌≤◌, refl, sym, ◌∙◌, ap, Bool, true, false, not, ◌&&◌, ◌||◌, ◌⊎◌, inl, inr, List, [], ◌∷◌, length, get_or}
use Rattle.std.specs.List.{list_any}
use Rattle.nb_graph.specs.Needs.{has, Needs, at_once, through}
use Rattle.nb_graph.proofs.Reaches.{has_head, has_tail, any_has, has_any, needed_sound, needed_complete, Needs_trans}
use Rattle.nb_wave.specs.declared.row.Row.{Row}
use Rattle.nb_wave.specs.Rules.{passes, is_overtaken, is_circular, pulls_on, held, due, may_start, needs_of, numbers, needed, rests_on, NeedsVariables}
use Rattle.nb_wave.specs.Marks.{marked, AreMarks, Rests}
use Rattle.nb_wave.proofs.Places.{passes_read, needs_read}
use Rattle.nb_wave.proofs.Spreads.{needs_within, rests_from, rests_to}

pub same_tests : (a b : Bool) → (a ≡ true → b ≡ true) → (b ≡ true → a ≡ true) → a ≡ b
same_tests true b f g = sym (f refl)
same_tests false true f g = g refl
same_tests false false f g = refl

pub any_agree : (p q : ℕ → Bool) (xs : List ℕ) → ((x : ℕ) → has xs x ≡ true → p x ≡ q x) → list_any p xs ≡ list_any q xs
any_agree p q [] h = refl
any_agree p q (x ∷ xs) h =
    let e : p x ≡ q x = h x (has_head x xs x refl) in
    let t : list_any p xs ≡ list_any q xs = any_agree p q xs (λ y k. h y (has_tail x xs y k)) in rw (e, t) refl

pub needs_number : (rows : List Row) → NeedsVariables rows → {v w : ℕ} → Needs (needs_of rows) v w → (1 ≤ w) × (w < length rows)
needs_number rows n {v} {w} (at_once h) = n v w h
needs_number rows n {v} {w} (through {w = x} m h) = n x w h

pub needed_number : (rows : List Row) → NeedsVariables rows → (v w : ℕ) → has (needed rows v) w ≡ true → (1 ≤ w) × (w < length rows)
needed_number rows n v w h = needs_number rows n (needed_sound (needs_of rows) (numbers rows) v w h)

pub rests_agree : (p q : ℕ → Bool) (rows : List Row) → NeedsVariables rows → ((x : ℕ) → x < length rows → p x ≡ q x) → (v : ℕ) → v < length rows → rests_on p rows v ≡ rests_on q rows v
rests_agree p q rows n h v inside =
    let e : p v ≡ q v = h v inside in
    let t : list_any p (needed rows v) ≡ list_any q (needed rows v) = any_agree p q (needed rows v) (λ w k. h w (needed_number rows n v w k).1) in
    rw (e, t) refl

pub held_marks : (rows : List Row) → NeedsVariables rows → (overtaken new : List Bool) → true ≡ pulls_on rows → AreMarks rows (passes is_overtaken rows) overtaken
    → AreMarks rows (rests_on (marked overtaken) rows) new → AreMarks rows (held rows) new
held_marks rows n overtaken new p o s v inside =
    s v inside
    ∙ rests_agree (marked overtaken) (passes is_overtaken rows) rows n o v inside
    ∙ ap (λ (b : Bool). b && rests_on (passes is_overtaken rows) rows v) p

-- ---- what is needed is needed through a direct need

abbrev pub Through : List Row → ℕ → ℕ → Type 0
Through rows v w = (u : ℕ) × (has (needs_of rows v) u ≡ true) × ((u ≡ w) ⊎ Needs (needs_of rows) u w)

pub needs_first : (rows : List Row) {v w : ℕ} → Needs (needs_of rows) v w → Through rows v w
needs_first rows {v} {w} (at_once h) = (w, h, inl refl)
needs_first rows {v} {w} (through {w = x} n h) =
    let t : Through rows v x = needs_first rows n in
    elim t.2 [
      | inl same ↦ (t.0, t.1, inr (at_once (ap (λ (y : ℕ). has (needs_of rows y) w) same ∙ h)))
      | inr m ↦ (t.0, t.1, inr (through m h))
    ]

near_is : (rows : List Row) → NeedsVariables rows → (test : ℕ → Bool) (near : List Bool) → AreMarks rows (rests_on test rows) near → (v : ℕ)
    → list_any (marked near) (needs_of rows v) ≡ list_any test (needed rows v)
near_is rows n test near m v =
    same_tests (list_any (marked near) (needs_of rows v)) (list_any test (needed rows v))
    (λ h.
    let t : (u : ℕ) × (has (needs_of rows v) u ≡ true) × (marked near u ≡ true) = any_has (marked near) (needs_of rows v) h in
    let complete : (w : ℕ) → Needs (needs_of rows) v w → has (needed rows v) w ≡ true = λ w k. needed_complete (needs_of rows) (numbers rows) (needs_within rows n) k in
    elim (rests_to test rows t.0 (sym (m t.0 (n v t.0 t.1).1) ∙ t.2)) [
      | inl own ↦ has_any test (needed rows v) t.0 (complete t.0 (at_once t.1)) own
      | inr s ↦ has_any test (needed rows v) s.0 (complete s.0 (Needs_trans (needs_of rows) (numbers rows) (at_once t.1) s.1)) s.2
    ])
    (λ h.
    let t : (w : ℕ) × (has (needed rows v) w ≡ true) × (test w ≡ true) = any_has test (needed rows v) h in
    let f : Through rows v t.0 = needs_first rows (needed_sound (needs_of rows) (numbers rows) v t.0 t.1) in
    let rests : Rests test rows f.0 = elim f.2 [ inl same ↦ inl (ap test same ∙ t.2) | inr k ↦ inr (t.0, k, t.2) ] in
    has_any (marked near) (needs_of rows v) f.0 f.1 (m f.0 (n v f.0 f.1).1 ∙ rests_from test rows n f.0 rests))

pub starts_is : (rows : List Row) → NeedsVariables rows → (dues near : List Bool) (v : ℕ) (x : Row) → v < length rows → x ≡ get_or rows v x
    → AreMarks rows (due rows) dues → AreMarks rows (rests_on (due rows) rows) near
    → (marked dues v && (is_circular x || not (list_any (marked near) x.needs))) ≡ may_start rows v
starts_is rows n dues near v x inside read d m =
    let e : marked dues v ≡ due rows v = d v inside in
    let c : passes is_circular rows v ≡ is_circular x = passes_read is_circular rows v x inside read in
    let a : list_any (marked near) x.needs ≡ list_any (due rows) (needed rows v) =
    ap (list_any (marked near)) (sym (needs_read rows v x inside read)) ∙ near_is rows n (due rows) near m v in
    ap (λ (b : Bool). b && (is_circular x || not (list_any (marked near) x.needs))) e
    ∙ ap (λ (b : Bool). due rows v && (b || not (list_any (marked near) x.needs))) (sym c)
    ∙ ap (λ (b : Bool). due rows v && (passes is_circular rows v || not b)) a
