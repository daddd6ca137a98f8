-- The test `needs` is the relation `Needs`.
use Rattle.std.proofs.Common.{ℕ, zero, suc, ◌≡◌, ◌<◌, ◌≤◌, refl, sym, ◌∙◌, ap, Bool, true, false, ◌||◌, ◌⊎◌, inl, inr, eqb, List, [], ◌∷◌, length, arith}
use Rattle.std.specs.List.{filter, list_any}
use Rattle.std.proofs.lemmas.Bool.{or_cases, or_left, or_right, eqb-true, eq-eqb, cases_Bool, cases_lt, false≢true}
use Rattle.nb_graph.specs.Needs.{has, Needs, at_once, through, grown, rounds, all_needed}

-- ---- what is in a list

pub has_head : (x : ℕ) (xs : List ℕ) (u : ℕ) → x ≡ u → has (x ∷ xs) u ≡ true
has_head x xs u h = or_left (eqb x u) (has xs u) (eq-eqb x u h)

pub has_tail : (x : ℕ) (xs : List ℕ) (u : ℕ) → has xs u ≡ true → has (x ∷ xs) u ≡ true
has_tail x xs u h = or_right (eqb x u) (has xs u) h

pub has_cases : (x : ℕ) (xs : List ℕ) (u : ℕ) → has (x ∷ xs) u ≡ true → (x ≡ u) ⊎ (has xs u ≡ true)
has_cases x xs u h =
    elim (or_cases (eqb x u) (has xs u) h) [ inl e ↦ inl (eqb-true x u e) | inr t ↦ inr t ]

pub has_filter : (p : ℕ → Bool) (xs : List ℕ) (u : ℕ) → has (filter p xs) u ≡ true → (has xs u ≡ true) × (p u ≡ true)
has_filter p [] u h = absurd (false≢true h)
has_filter p (x ∷ xs) u h =
    elim (cases_Bool (p x)) [
      | inl here ↦ elim (has_cases x (filter p xs) u (rw here at h)) [
        | inl same ↦ (has_head x xs u same, ap p (sym same) ∙ here)
        | inr later ↦ let t : (has xs u ≡ true) × (p u ≡ true) = has_filter p xs u later in (has_tail x xs u t.0, t.1)
      ]
      | inr not_here ↦ let t : (has xs u ≡ true) × (p u ≡ true) = has_filter p xs u (rw not_here at h) in (has_tail x xs u t.0, t.1)
    ]

pub filter_has : (p : ℕ → Bool) (xs : List ℕ) (u : ℕ) → has xs u ≡ true → p u ≡ true → has (filter p xs) u ≡ true
filter_has p [] u h k = h
filter_has p (x ∷ xs) u h k =
    elim (has_cases x xs u h) [
      | inl same ↦ let here : p x ≡ true = ap p same ∙ k in rw here (has_head x (filter p xs) u same)
      | inr later ↦ elim (cases_Bool (p x)) [
        | inl here ↦ rw here (has_tail x (filter p xs) u (filter_has p xs u later k))
        | inr not_here ↦ rw not_here (filter_has p xs u later k)
      ]
    ]

-- one that passes
pub any_has : (p : ℕ → Bool) (xs : List ℕ) → list_any p xs ≡ true → (w : ℕ) × (has xs w ≡ true) × (p w ≡ true)
any_has p [] h = absurd (false≢true h)
any_has p (x ∷ xs) h =
    elim (or_cases (p x) (list_any p xs) h) [
      | inl here ↦ (x, has_head x xs x refl, here)
      | inr later ↦ let t : (w : ℕ) × (has xs w ≡ true) × (p w ≡ true) = any_has p xs later in (t.0, has_tail x xs t.0 t.1, t.2)
    ]

pub has_any : (p : ℕ → Bool) (xs : List ℕ) (w : ℕ) → has xs w ≡ true → p w ≡ true → list_any p xs ≡ true
has_any p [] w h k = absurd (false≢true h)
has_any p (x ∷ xs) w h k =
    elim (has_cases x xs w h) [
      | inl same ↦ or_left (p x) (list_any p xs) (ap p same ∙ k)
      | inr later ↦ or_right (p x) (list_any p xs) (has_any p xs w later k)
    ]

-- ---- how many pass

abbrev pub passing : (ℕ → Bool) → List ℕ → ℕ
passing p xs = length (filter p xs)

pub passing_le : (p : ℕ → Bool) (xs : List ℕ) → passing p xs ≤ length xs
passing_le p [] = omega arith
passing_le p (x ∷ xs) =
    elim (cases_Bool (p x)) [ inl here ↦ rw here (omega (arith, passing_le p xs)) | inr not_here ↦ rw not_here (omega (arith, passing_le p xs)) ]

-- where all pass that can
pub passing_all : (p : ℕ → Bool) (xs : List ℕ) → length xs ≤ passing p xs → (u : ℕ) → has xs u ≡ true → p u ≡ true
passing_all p [] h u k = absurd (false≢true k)
passing_all p (x ∷ xs) h u k =
    elim (cases_Bool (p x)) [
      | inl here ↦ let h' : suc (length xs) ≤ suc (length (filter p xs)) = rw here at h in
          let less : length xs ≤ length (filter p xs) = omega (arith, h') in
          elim (has_cases x xs u k) [ inl same ↦ ap p (sym same) ∙ here | inr later ↦ passing_all p xs less u later ]
      | inr not_here ↦ let h' : suc (length xs) ≤ length (filter p xs) = rw not_here at h in absurd (omega (arith, h', passing_le p xs))
    ]

-- a weaker test passes more, or the same
abbrev pub Weaker : (ℕ → Bool) → (ℕ → Bool) → List ℕ → Type 0
Weaker p q xs = (u : ℕ) → has xs u ≡ true → p u ≡ true → q u ≡ true

abbrev pub Same : (ℕ → Bool) → (ℕ → Bool) → List ℕ → Type 0
Same p q xs = (u : ℕ) → has xs u ≡ true → q u ≡ true → p u ≡ true

pub passing_more : (p q : ℕ → Bool) (xs : List ℕ) → Weaker p q xs → (passing p xs ≤ passing q xs) × ((passing p xs < passing q xs) ⊎ Same p q xs)
passing_more p q [] w = (omega arith, inr (λ u h k. absurd (false≢true h)))
passing_more p q (x ∷ xs) w =
    let rest : (length (filter p xs) ≤ length (filter q xs)) × ((length (filter p xs) < length (filter q xs)) ⊎ ((u : ℕ) → has xs u ≡ true → q u ≡ true → p u ≡ true)) = passing_more p q xs (λ u h k. w u (has_tail x xs u h) k) in
    elim (cases_Bool (p x)) [
      | inl here ↦ let there : q x ≡ true = w x (has_head x xs x refl) here in
          rw (here, there) (
            omega (arith, rest.0),
            elim rest.1 [
              | inl less ↦ inl (omega (arith, less))
              | inr same ↦ inr (λ u h k. elim (has_cases x xs u h) [ inl e ↦ ap p (sym e) ∙ here | inr later ↦ same u later k ])
            ],
          )
      | inr not_here ↦ elim (cases_Bool (q x)) [
        | inl there ↦ rw (not_here, there) (omega (arith, rest.0), inl (omega (arith, rest.0)))
        | inr not_there ↦ rw (not_here, not_there) (
          rest.0,
          elim rest.1 [
            | inl less ↦ inl less
            | inr same ↦ inr (λ u h k. elim (has_cases x xs u h) [ inl e ↦ absurd (false≢true (sym not_there ∙ (ap q e ∙ k))) | inr later ↦ same u later k ])
          ],
        )
      ]
    ]

-- ---- the rounds come to an end

module _ (direct : ℕ → List ℕ) (all : List ℕ) where
  -- each direct need is one of all
  abbrev pub Within : Type 0
  Within = (w u : ℕ) → has (direct w) u ≡ true → has all u ≡ true

  -- with each number its direct needs
  abbrev pub Closed : List ℕ → Type 0
  Closed vs = (w u : ℕ) → has vs w ≡ true → has (direct w) u ≡ true → has vs u ≡ true

  grown_cases : (vs : List ℕ) (u : ℕ) → has (grown direct all vs) u ≡ true → (has vs u ≡ true) ⊎ ((w : ℕ) × (has vs w ≡ true) × (has (direct w) u ≡ true))
  grown_cases vs u h =
      let t : (has all u ≡ true) × ((has vs u || list_any (λ w. has (direct w) u) vs) ≡ true) = has_filter (λ u. has vs u || list_any (λ w. has (direct w) u) vs) all u h in
      elim (or_cases (has vs u) (list_any (λ w. has (direct w) u) vs) t.1) [
        | inl here ↦ inl here
        | inr some ↦ inr (any_has (λ w. has (direct w) u) vs some)
      ]

  grown_keeps : (vs : List ℕ) (u : ℕ) → has all u ≡ true → has vs u ≡ true → has (grown direct all vs) u ≡ true
  grown_keeps vs u a h =
      filter_has (λ u. has vs u || list_any (λ w. has (direct w) u) vs) all u a (or_left (has vs u) (list_any (λ w. has (direct w) u) vs) h)

  grown_adds : (vs : List ℕ) (w u : ℕ) → has all u ≡ true → has vs w ≡ true → has (direct w) u ≡ true → has (grown direct all vs) u ≡ true
  grown_adds vs w u a h d =
      filter_has (λ u. has vs u || list_any (λ w. has (direct w) u) vs) all u a (or_right (has vs u) (list_any (λ w. has (direct w) u) vs) (has_any (λ w. has (direct w) u) vs w h d))

  grown_closed : Within → (vs : List ℕ) → Closed vs → Closed (grown direct all vs)
  grown_closed within vs closed w u h d =
      let in_vs : has vs w ≡ true = elim (grown_cases vs w h) [ inl here ↦ here | inr t ↦ closed t.0 w t.1 t.2 ] in
      grown_keeps vs u (within w u d) (closed w u in_vs d)

  -- after k rounds they are closed, or at least k of all are in
  progress : Within → (vs : List ℕ) (k : ℕ) → Closed (rounds direct all k vs) ⊎ (k ≤ passing (has (rounds direct all k vs)) all)
  progress within vs zero = inr (omega arith)
  progress within vs (suc k) =
      let before = rounds direct all k vs in
      elim (progress within vs k) [
        | inl closed ↦ inl (grown_closed within before closed)
        | inr many ↦
            let more : (passing (has before) all ≤ passing (has (grown direct all before)) all) × ((passing (has before) all < passing (has (grown direct all before)) all) ⊎ Same (has before) (has (grown direct all before)) all)
            = passing_more (has before) (has (grown direct all before)) all (λ u a h. grown_keeps before u a h) in
            elim more.1 [
              | inl less ↦ inr (omega (arith, many, less))
              | inr same ↦ inl (grown_closed within before (λ w u h d. same u (within w u d) (grown_adds before w u (within w u d) h d)))
            ]
      ]

  closed_in_the_end : Within → (vs : List ℕ) → Closed (rounds direct all (length all) vs)
  closed_in_the_end within vs =
      elim (progress within vs (length all)) [
        | inl closed ↦ closed
        | inr many ↦ λ w u h d. passing_all (has (rounds direct all (length all) vs)) all many u (within w u d)
      ]

  rounds_sound : (v : ℕ) (k : ℕ) (u : ℕ) → has (rounds direct all k (direct v)) u ≡ true → Needs direct v u
  rounds_sound v zero u h = at_once h
  rounds_sound v (suc k) u h =
      elim (grown_cases (rounds direct all k (direct v)) u h) [
        | inl here ↦ rounds_sound v k u here
        | inr t ↦ through (rounds_sound v k t.0 t.1) t.2
      ]

  rounds_keep : Within → (v : ℕ) (k : ℕ) (u : ℕ) → has (direct v) u ≡ true → has (rounds direct all k (direct v)) u ≡ true
  rounds_keep within v zero u h = h
  rounds_keep within v (suc k) u h = grown_keeps (rounds direct all k (direct v)) u (within v u h) (rounds_keep within v k u h)

  -- the test is the relation
  pub needed_sound : (v u : ℕ) → has (all_needed direct all v) u ≡ true → Needs direct v u
  needed_sound v u h = rounds_sound v (length all) u h

  pub needed_complete : Within → {v u : ℕ} → Needs direct v u → has (all_needed direct all v) u ≡ true
  needed_complete within {v} {u} (at_once h) = rounds_keep within v (length all) u h
  needed_complete within {v} {u} (through {w = w} n h) =
      closed_in_the_end within (direct v) w u (needed_complete within n) h

  pub Needs_trans : {v w u : ℕ} → Needs direct v w → Needs direct w u → Needs direct v u
  Needs_trans n (at_once h) = through n h
  Needs_trans n (through m h) = through (Needs_trans n m) h

-- ---- on tests alone

module _ (direct : ℕ → List ℕ) (all : List ℕ) (within : Within direct all) where
  pub needed_direct : (v u : ℕ) → has (direct v) u ≡ true → has (all_needed direct all v) u ≡ true
  needed_direct v u h = needed_complete direct all within (at_once h)

  pub needed_step : (v w u : ℕ) → has (all_needed direct all v) w ≡ true → has (direct w) u ≡ true → has (all_needed direct all v) u ≡ true
  needed_step v w u n h = needed_complete direct all within (through (needed_sound direct all v w n) h)

  pub needed_trans : (v w u : ℕ) → has (all_needed direct all v) w ≡ true → has (all_needed direct all w) u ≡ true → has (all_needed direct all v) u ≡ true
  needed_trans v w u n m = needed_complete direct all within (Needs_trans direct all (needed_sound direct all v w n) (needed_sound direct all w u m))

  needs_within : {v u : ℕ} → Needs direct v u → has all u ≡ true
  needs_within {v} {u} (at_once h) = within v u h
  needs_within {v} {u} (through {w = w} n h) = within w u h

  pub needed_within : (v u : ℕ) → has (all_needed direct all v) u ≡ true → has all u ≡ true
  needed_within v u h = needs_within (needed_sound direct all v u h)

  -- what is needed and doesn't need itself needs fewer
  pub needed_fewer : (v w : ℕ) → has (all_needed direct all v) w ≡ true → has (all_needed direct all w) w ≡ false
      → passing (has (all_needed direct all w)) all < passing (has (all_needed direct all v)) all
  needed_fewer v w n not_circular =
      let more : (passing (has (all_needed direct all w)) all ≤ passing (has (all_needed direct all v)) all) × ((passing (has (all_needed direct all w)) all < passing (has (all_needed direct all v)) all) ⊎ Same (has (all_needed direct all w)) (has (all_needed direct all v)) all)
      = passing_more (has (all_needed direct all w)) (has (all_needed direct all v)) all (λ u a h. needed_trans v w u n h) in
      elim more.1 [ inl less ↦ less | inr same ↦ absurd (false≢true (sym not_circular ∙ same w (needed_within v w n) n)) ]

  -- what doesn't need itself needs fewer than all
  pub needed_below : (v : ℕ) → has all v ≡ true → has (all_needed direct all v) v ≡ false → passing (has (all_needed direct all v)) all < length all
  needed_below v a not_circular =
      elim (cases_lt (passing (has (all_needed direct all v)) all) (length all)) [
        | inl less ↦ less
        | inr full ↦ absurd (false≢true (sym not_circular ∙ passing_all (has (all_needed direct all v)) all full v a))
      ]
