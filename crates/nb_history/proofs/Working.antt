-- What each entry of a variable makes of the later pulls and of the entries that are left.
use Rattle.std.proofs.Common.{ℕ, zero, suc, ◌+◌, ◌-◌, ◌*◌, ◌≡◌, ◌≤◌, ◌<◌, refl, ◌∙◌, ap, Bool, true, false, cond, ◌&&◌, ◌||◌, List, [], ◌∷◌, length, Option, Some, None, is_some, arith}
use Rattle.std.specs.Prelude.{slice_get, nat_le, set}
use Rattle.std.proofs.lemmas.Bool.{false≢true}
use Rattle.std.proofs.lemmas.Option.{none-some}
use Rattle.nb_value.specs.declared.outcome.Answer.{Answer}
use Rattle.nb_sheet.specs.Lists.{nth, put, option_then}
use Rattle.nb_history.specs.Reading.{Reading, Start, Footing, start_of}
use Rattle.nb_history.specs.Rules.{footing}
use Rattle.nb_history.specs.Log.{after, new_start}
use Rattle.nb_history.specs.Starts.{is_closing}
use Rattle.nb_history.specs.Work.{is_at_work, later_pull, fetches_left, entries_left, over_starts, later_pulls, all_entries_left}
use Rattle.nb_log.specs.declared.entry.Entry.{Entry}
use Rattle.nb_log.specs.declared.entry.Entry.TheVariants.{Pending, Left}
use Rattle.nb_history.proofs.StartsAfter.{inside}
use Rattle.nb_history.proofs.NextEntry.{IsOutcome, outcome_start, outcome_starts, Outcome, outcome_keeps}

-- ---- sums over the starts

over_set : (f : Option Start → ℕ) (xs : List (Option Start)) (i : ℕ) (x y : Option Start) → slice_get xs i ≡ Some x → over_starts f (set xs i y) + f x ≡ over_starts f xs + f y
over_set f [] i x y h = absurd (cc)
over_set f (z ∷ xs) zero x y h = let e : z ≡ x = cc in let g : f z ≡ f x = ap f e in omega (arith, g)
over_set f (z ∷ xs) (suc i) x y h = omega (arith, over_set f xs i x y h)

pub over_put : (f : Option Start → ℕ) (xs : List (Option Start)) (v : ℕ) (x y : Option Start) → nth xs v ≡ Some x → over_starts f (put xs v y) + f x ≡ over_starts f xs + f y
over_put f xs zero x y h = absurd (cc)
over_put f xs (suc i) x y h = over_set f xs i x y h

over_set_le : (f : Option Start → ℕ) (xs : List (Option Start)) (i : ℕ) (y : Option Start) → over_starts f (set xs i y) ≤ over_starts f xs + f y
over_set_le f [] i y = omega arith
over_set_le f (z ∷ xs) zero y = omega arith
over_set_le f (z ∷ xs) (suc i) y = omega (arith, over_set_le f xs i y)

pub over_put_le : (f : Option Start → ℕ) (xs : List (Option Start)) (v : ℕ) (y : Option Start) → over_starts f (put xs v y) ≤ over_starts f xs + f y
over_put_le f xs zero y = omega arith
over_put_le f xs (suc i) y = over_set_le f xs i y

-- ---- what closes

new_left : (n : ℕ) (kept : Footing) → entries_left (Some (new_start n kept)) ≡ 129
new_left n kept = refl

new_first : (n : ℕ) (kept : Footing) → later_pull (Some (new_start n kept)) ≡ 0
new_first n kept = refl

pub closing_pulls : (r : Reading) (e : Entry) → is_closing e ≡ true → later_pulls (after r e) ≤ later_pulls r
closing_pulls r (Pending u d) h =
    let x : Option Start = Some (new_start (r.entries + 1) (footing r u)) in
    omega (arith, over_put_le later_pull r.starts u x, new_first (r.entries + 1) (footing r u))
closing_pulls r (Left u d) h = omega (arith, over_put_le later_pull r.starts u None)
closing_pulls r e h = absurd (false≢true h)

pub closing_left : (r : Reading) (e : Entry) → is_closing e ≡ true → all_entries_left (after r e) ≤ all_entries_left r + 129
closing_left r (Pending u d) h =
    let x : Option Start = Some (new_start (r.entries + 1) (footing r u)) in
    omega (arith, over_put_le entries_left r.starts u x, new_left (r.entries + 1) (footing r u))
closing_left r (Left u d) h = omega (arith, over_put_le entries_left r.starts u None)
closing_left r e h = absurd (false≢true h)

pub closing_sheet : (r : Reading) (e : Entry) → is_closing e ≡ true → (after r e).sheet ≡ r.sheet
closing_sheet r (Pending u d) h = refl
closing_sheet r (Left u d) h = refl
closing_sheet r e h = absurd (false≢true h)

-- ---- the next entry

pub there_in : (xs : List (Option Start)) (v : ℕ) (s : Start) → inside (nth xs v) ≡ Some s → nth xs v ≡ Some (Some s)
there_in xs v s h = go (nth xs v) h
  where
    go : (o : Option (Option Start)) → inside o ≡ Some s → o ≡ Some (Some s)
    go None e = absurd (none-some s e)
    go (Some o) e = ap (λ (x : Option Start). Some x) e

cond_most : (b : Bool) (n : ℕ) → cond b n 0 ≤ n
cond_most true n = omega arith
cond_most false n = omega arith

and_most : (a b : Bool) → cond (a && b) 1 0 ≤ cond b 1 0
and_most true b = omega arith
and_most false b = omega arith

less_left : (s t : Start) → Outcome s t → s.running ≡ true → entries_left (Some t) < entries_left (Some s)
less_left s t o runs =
    let same : fetches_left t ≡ fetches_left s = ap (λ (n : ℕ). 64 * n - length t.answers) o.pulls ∙ ap (λ (xs : List Answer). 64 * s.pulls - length xs) o.answers in
    let before : entries_left (Some s) ≡ 1 + 2 * fetches_left s = ap (λ (b : Bool). cond b (1 + 2 * fetches_left s) (cond (is_some s.ticket) (2 * fetches_left s) 0)) runs in
    let now : entries_left (Some t) ≡ cond (is_some t.ticket) (2 * fetches_left t) 0 = ap (λ (b : Bool). cond b (1 + 2 * fetches_left t) (cond (is_some t.ticket) (2 * fetches_left t) 0)) o.stops in
    let most : cond (is_some t.ticket) (2 * fetches_left t) 0 ≤ 2 * fetches_left t = cond_most (is_some t.ticket) (2 * fetches_left t) in
    less (entries_left (Some s)) (entries_left (Some t)) (cond (is_some t.ticket) (2 * fetches_left t) 0) (fetches_left s) (fetches_left t) same before now most
  where
    less : (a b c m n : ℕ) → n ≡ m → a ≡ 1 + 2 * m → b ≡ c → c ≤ 2 * n → b < a
    less a b c m n p q r h = omega arith

running_pull : (s : Start) → s.running ≡ true → later_pull (Some s) ≡ cond (nat_le 2 s.pulls) 1 0
running_pull s runs = ap (λ (b : Bool). cond ((b || is_some s.ticket) && nat_le 2 s.pulls) 1 0) runs

no_more_pulls : (s t : Start) → Outcome s t → s.running ≡ true → later_pull (Some t) ≤ later_pull (Some s)
no_more_pulls s t o runs =
    let same : cond (nat_le 2 t.pulls) 1 0 ≡ cond (nat_le 2 s.pulls) 1 0 = ap (λ (n : ℕ). cond (nat_le 2 n) 1 0) o.pulls in
    at_most (later_pull (Some s)) (later_pull (Some t)) (cond (nat_le 2 s.pulls) 1 0) (cond (nat_le 2 t.pulls) 1 0) (running_pull s runs) same (and_most (is_at_work t) (nat_le 2 t.pulls))
  where
    at_most : (a b c d : ℕ) → a ≡ c → d ≡ c → b ≤ d → b ≤ a
    at_most a b c d p q h = omega arith

-- a later pull that has its outcome
one_pull_less : (s t : Start) → Outcome s t → s.running ≡ true → is_some s.ticket ≡ false → nat_le 2 s.pulls ≡ true → t.ticket ≡ s.ticket → later_pull (Some t) < later_pull (Some s)
one_pull_less s t o runs no_ticket later same =
    let one : later_pull (Some s) ≡ 1 = running_pull s runs ∙ ap (λ (b : Bool). cond b 1 0) later in
    let none : later_pull (Some t) ≡ 0 =
    ap (λ (b : Bool). cond ((b || is_some t.ticket) && nat_le 2 t.pulls) 1 0) o.stops
    ∙ ap (λ (x : Option ℕ). cond (is_some x && nat_le 2 t.pulls) 1 0) same
    ∙ ap (λ (b : Bool). cond (b && nat_le 2 t.pulls) 1 0) no_ticket in
    less (later_pull (Some s)) (later_pull (Some t)) one none
  where
    less : (a b : ℕ) → a ≡ 1 → b ≡ 0 → b < a
    less a b p q = omega arith

-- ---- what it makes of the sums

-- an entry that stops v's running start
module _ (r : Reading) (v : ℕ) (e : Entry) (s : Start) (is : IsOutcome v e) (there : start_of r v ≡ Some s) (runs : s.running ≡ true) where
  abbrev now : Start
  now = outcome_start r e s

  stops : Outcome s now
  stops = outcome_keeps r v e s is

  starts_are : (after r e).starts ≡ put r.starts v (Some now)
  starts_are = outcome_starts r v e is ∙ ap (λ (o : Option Start). put r.starts v (option_then o (λ x. Some (outcome_start r e x)))) there

  pub over_now : (f : Option Start → ℕ) → over_starts f (after r e).starts + f (Some s) ≡ over_starts f r.starts + f (Some now)
  over_now f = ap (λ (xs : List (Option Start)). over_starts f xs + f (Some s)) starts_are ∙ over_put f r.starts v (Some s) (Some now) (there_in r.starts v s there)

  pub fewer_left : all_entries_left (after r e) < all_entries_left r
  fewer_left = less (all_entries_left (after r e)) (all_entries_left r) (entries_left (Some s)) (entries_left (Some now)) (over_now entries_left) (less_left s now stops runs)
    where
      less : (a b c d : ℕ) → a + c ≡ b + d → d < c → a < b
      less a b c d p q = omega arith

  pub pulls_stay : later_pulls (after r e) ≤ later_pulls r
  pulls_stay = at_most (later_pulls (after r e)) (later_pulls r) (later_pull (Some s)) (later_pull (Some now)) (over_now later_pull) (no_more_pulls s now stops runs)
    where
      at_most : (a b c d : ℕ) → a + c ≡ b + d → d ≤ c → a ≤ b
      at_most a b c d p q = omega arith

  pub pull_ends : is_some s.ticket ≡ false → nat_le 2 s.pulls ≡ true → now.ticket ≡ s.ticket → later_pulls (after r e) < later_pulls r
  pull_ends tidy later same =
      less (later_pulls (after r e)) (later_pulls r) (later_pull (Some s)) (later_pull (Some now)) (over_now later_pull) (one_pull_less s now stops runs tidy later same)
    where
      less : (a b c d : ℕ) → a + c ≡ b + d → d < c → a < b
      less a b c d p q = omega arith
