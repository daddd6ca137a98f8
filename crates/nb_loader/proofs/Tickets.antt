-- The least live ticket that has a loader, by a walk over the live ones.
use Rattle.std.proofs.Common.{inl, inr, ℕ, zero, suc, ◌≡◌, ◌+◌, ◌<◌, ◌≤◌, refl, sym, ◌∙◌, ap, Bool, true, false, cond, ◌&&◌, List, [], ◌∷◌, length, arith, Some, None}
use Rattle.std.specs.Prelude.{nat_le}
use Rattle.std.specs.List.{list_any, range_with_len}
use Rattle.std.specs.Str.{bytes_eq}
use Rattle.std.proofs.lemmas.Bool.{cases_Bool, cases_eq, cases_lt, and_left, and_right, and_from, and_parts, le-leb, leb-true}
use Rattle.std.proofs.lemmas.Option.{none-some, same_Some}
use Rattle.nb_graph.specs.Needs.{has}
use Rattle.nb_graph.proofs.Reaches.{has_head, has_tail}
use Rattle.nb_sheet.specs.Lists.{Name, nth, numbers, from_option}
use Rattle.nb_history.specs.Lists.{first_where}
use Rattle.nb_history.specs.Reading.{Reading, Ticket}
use Rattle.nb_history.specs.Log.{is_live}
use Rattle.nb_history.specs.Serial.{loader_ticket}
use Rattle.nb_history.proofs.Closing.{first_some, first_none, number_has, range_has}
use Rattle.nb_core.specs.Core.{live_from}

-- ---- the first that passes

none_of : (test : ℕ → Bool) (xs : List ℕ) → ((t : ℕ) → has xs t ≡ true → test t ≡ false) → first_where test xs ≡ None
none_of test [] h = refl
none_of test (x ∷ xs) h =
    ap (λ (b : Bool). cond b (Some x) (first_where test xs)) (h x (has_head x xs x refl))
    ∙ none_of test xs (λ t k. h t (has_tail x xs t k))

first_of : (test other : ℕ → Bool) (xs : List ℕ) (t : ℕ) → first_where test xs ≡ Some t → other t ≡ true → ((u : ℕ) → test u ≡ false → other u ≡ false) → first_where other xs ≡ Some t
first_of test other [] t h k less = absurd (none-some t h)
first_of test other (x ∷ xs) t h k less =
    elim (cases_Bool (test x)) [
      | inl here ↦
          let g : Some x ≡ Some t = rw here at h in
          let same : x ≡ t = same_Some x t g in
          ap (λ (b : Bool). cond b (Some x) (first_where other xs)) (ap other same ∙ k) ∙ g
      | inr not_here ↦
          ap (λ (b : Bool). cond b (Some x) (first_where other xs)) (less x not_here)
          ∙ first_of test other xs t (rw not_here at h) k less
    ]

none_before : (test : ℕ → Bool) (a n t u : ℕ) → first_where test (range_with_len a n) ≡ Some t → a ≤ u → u < t → test u ≡ false
none_before test a zero t u h low less = absurd (none-some t h)
none_before test a (suc n) t u h low less =
    elim (cases_Bool (test a)) [
      | inl here ↦
          let g : Some a ≡ Some t = rw here at h in
          let same : a ≡ t = same_Some a t g in
          absurd (omega (arith, low, less, same))
      | inr not_here ↦ elim (cases_eq a u) [
        | inl same ↦ ap test (sym same) ∙ not_here
        | inr other ↦ none_before test (a + 1) n t u (rw not_here at h) (omega (arith, low, other)) less
      ]
    ]

-- ---- which tickets have a loader

abbrev pub keyed : List Name → Reading → ℕ → Bool
keyed keys r t = from_option false (λ (k : Ticket). list_any (λ (key : Name). bytes_eq key k.key) keys) (nth r.tickets t)

abbrev pub loads : List Name → Reading → ℕ → Bool
loads keys r t = is_live r t && keyed keys r t

-- no live ticket below n has one
abbrev pub NoneBelow : List Name → Reading → ℕ → Type 0
NoneBelow keys r n = (t : ℕ) → t < n → loads keys r t ≡ false

pub none_below_first : (keys : List Name) (r : Reading) → NoneBelow keys r 0
none_below_first keys r t less = absurd (omega (arith, less))

module _ (keys : List Name) (r : Reading) (n : ℕ) (below : NoneBelow keys r n) where
  abbrev seen : ℕ → Bool
  seen t = nat_le n t && is_live r t

  not_seen : (u : ℕ) → seen u ≡ false → loads keys r u ≡ false
  not_seen u h =
      elim (cases_lt u n) [
        | inl less ↦ below u less
        | inr past ↦ and_left (is_live r u) (keyed keys r u) (ap (λ (b : Bool). b && is_live r u) (sym (le-leb n u past)) ∙ h)
      ]

  -- n is past the last ticket
  pub none_left : length r.tickets < n → loader_ticket r keys ≡ None
  none_left past =
      none_of (loads keys r) (numbers r.tickets) (λ t h.
      let p : (1 ≤ t) × (t < 1 + length r.tickets) = range_has 1 (length r.tickets) t h in
      below t (omega (arith, p.1, past)))

  -- none from n on is live
  pub none_live : live_from r n ≡ None → loader_ticket r keys ≡ None
  none_live none = none_of (loads keys r) (numbers r.tickets) (λ t h. not_seen t (first_none seen (numbers r.tickets) none t h))

  module _ (t : ℕ) (found : live_from r n ≡ Some t) where
    pub within : t ≤ length r.tickets
    within =
        let p : (1 ≤ t) × (t < 1 + length r.tickets) = range_has 1 (length r.tickets) t (first_some seen (numbers r.tickets) t found).1 in
        omega (arith, p.1)

    pub ticket_there : (k : Ticket) × (nth r.tickets t ≡ Some k)
    ticket_there = number_has r.tickets t (first_some seen (numbers r.tickets) t found).1

    pub later : n ≤ t
    later = leb-true n t (and_parts (nat_le n t) (is_live r t) (first_some seen (numbers r.tickets) t found).0).0

    -- it has a loader
    pub first_found : keyed keys r t ≡ true → loader_ticket r keys ≡ Some t
    first_found has_loader =
        first_of seen (loads keys r) (numbers r.tickets) t found
        (and_from (is_live r t) (keyed keys r t) (and_parts (nat_le n t) (is_live r t) (first_some seen (numbers r.tickets) t found).0).1 has_loader)
        not_seen

    -- it has none
    pub none_below_next : keyed keys r t ≡ false → NoneBelow keys r (t + 1)
    none_below_next none zero less = and_right (is_live r 0) false refl
    none_below_next none (suc i) less =
        elim (cases_eq (suc i) t) [
          | inl same ↦ ap (loads keys r) same ∙ and_right (is_live r t) (keyed keys r t) none
          | inr other ↦ not_seen (suc i) (none_before seen 1 (length r.tickets) t (suc i) found (omega arith) (omega (arith, less, other)))
        ]
