-- A point of an evaluation, by what a machine keeps: it stays one after each instruction, with an answer more, and with
-- a pull more; and at an end it is the evaluation's end.
use Rattle.std.proofs.Common.{◌≡◌, ℕ, zero, suc, ◌+◌, ◌-◌, ◌<◌, ◌≤◌, Bool, true, false, List, [], ◌∷◌, ◌++◌, length, Option, Some, None, Result, Ok, Err, refl, sym, ap, ◌∙◌, subst, arith}
use Rattle.std.specs.Prelude.{slice_get, if◌then◌else◌}
use Rattle.nb_value.specs.declared.value.Value.{Value}
use Rattle.nb_value.specs.declared.outcome.Answer.{Answer}
use Rattle.nb_eval.specs.declared.given.Segment.{Segment}
use Rattle.nb_eval.specs.declared.state.State.{State}
use Rattle.nb_eval.specs.declared.stop.Stop.{Stop}
use Rattle.nb_eval.specs.Run.{Out}
use Rattle.nb_eval.specs.Evaluation.{run, charges, segment_end, last_of}
use Rattle.nb_machine.specs.Code.{Code}
use Rattle.nb_machine.specs.Machine.{Spot, spot, step, follow, go, code_of, End, end_of}
use Rattle.nb_machine.specs.Suspended.{with_more, Keeps, is_pending}
use Rattle.nb_machine.specs.Held.{Held, hold, some_yields, state_of, start_held, held_out, held_step, held_end, held_go, EndsHeld, IsPulledTo, IsHeld, StandsAt, end_kept}
use Rattle.nb_machine.proofs.Stmts.{machine_is}
use Rattle.nb_machine.proofs.Steps.{Fits, step_same}
use Rattle.nb_machine.proofs.Charges.{step_calm, step_counts}
use Rattle.nb_machine.proofs.Suspended.{no_less, one_more, charges_is, kept_is, still_there}
use Rattle.nb_machine.proofs.Blind.{step_blind}

-- ---- some yields of their number and last

count_is : (n : ℕ) (v : Value) → length (some_yields n (Some v)) ≡ n
count_is zero v = refl
count_is (suc n) v = let e = count_is n v in omega (arith, e)

last_is : (n : ℕ) (v : Value) → last_of (some_yields (suc n) (Some v)) ≡ Some v
last_is zero v = refl
last_is (suc n) v = last_is n v

has_last : (y : Value) (ys : List Value) → (v : Value) × (last_of (y ∷ ys) ≡ Some v)
has_last y [] = (y, refl)
has_last y (z ∷ ys) = has_last z ys

some_count : (ys : List Value) → length (some_yields (length ys) (last_of ys)) ≡ length ys
some_count [] = refl
some_count (y ∷ ys) = let v = has_last y ys in subst (λ (o : Option Value). length (some_yields (length (y ∷ ys)) o) ≡ length (y ∷ ys)) (sym v.1) (count_is (length (y ∷ ys)) v.0)

some_last : (ys : List Value) → last_of (some_yields (length ys) (last_of ys)) ≡ last_of ys
some_last [] = refl
some_last (y ∷ ys) = let v = has_last y ys in subst (λ (o : Option Value). last_of (some_yields (length (y ∷ ys)) o) ≡ o) (sym v.1) (last_is (length ys) v.0)

-- what is held of a state is held of some state
pub held_is : (s : State) → IsHeld (hold s)
held_is s = ap (λ n. record (hold s) { made = n; last = last_of (some_yields (length s.yields) (last_of s.yields)) }) (some_count s.yields) ∙ ap (λ x. record (hold s) { made = length s.yields; last = x }) (some_last s.yields)

pub is_held : (s : State) (h : Held) → hold s ≡ h → IsHeld h
is_held s h e = subst IsHeld e (held_is s)

-- ---- runs from states that are held alike

module _ (g : Segment) (code : Code) where
  pub go_alike : (n : ℕ) (p : Spot) (s t : State) → hold s ≡ hold t → held_go (go g code n p s) ≡ held_go (go g code n p t)
  go_alike zero p s t h = refl
  go_alike (suc n) p s t h =
      let m = step_blind g (slice_get code p.pc) p s t h in
      by_result (step g code p s).0 (step g code p t).0 (step g code p s).1 (step g code p t).1 m.0 m.1 (go_alike n)
    where
      by_result : (r r' : Result Spot Stop) (u w : State) → r ≡ r' → hold u ≡ hold w → ((q : Spot) (x y : State) → hold x ≡ hold y → held_go (go g code n q x) ≡ held_go (go g code n q y)) → held_go (follow n r u (go g code n)) ≡ held_go (follow n r' w (go g code n))
      by_result (Ok q) r' u w e k ih = subst (λ (z : Result Spot Stop). held_go (go g code n q u) ≡ held_go (follow n z w (go g code n))) e (ih q u w k)
      by_result (Err x) r' u w e k ih = subst (λ (z : Result Spot Stop). held_go (follow n (Err x) u (go g code n)) ≡ held_go (follow n z w (go g code n))) e (at_stop n)
        where
          at_stop : (m : ℕ) → held_go (follow m (Err x) u (go g code n)) ≡ held_go (follow m (Err x) w (go g code n))
          at_stop zero = ap (λ (a : Held). Some (x, a)) k
          at_stop (suc m) = refl

abbrev pub on_to : Spot → State → Out Spot
on_to q t = (Ok q, t)

abbrev pub ends_in : Stop → State → Out Spot
ends_in x t = (Err x, t)

abbrev pub held_on : Spot → Held → Result Spot Stop × Held
held_on q h = (Ok q, h)

abbrev pub held_stop : Stop → Held → Result Spot Stop × Held
held_stop x h = (Err x, h)

-- the state after an instruction
pub after_is : (o : Out Spot) (r : Result Spot Stop) (h : Held) → held_out o ≡ (r, h) → (t : State) × (o ≡ (r, t)) × (hold t ≡ h)
after_is o r h e = (o.1, ap (λ (z : Result Spot Stop × Held). let y : Out Spot = (z.0, o.1) in y) e, ap (λ (z : Result Spot Stop × Held). z.1) e)

module _ (g : Segment) (code : Code) (e : Stop × Held) where
  forward : (n : ℕ) (p q : Spot) (s t : State) → step g code p s ≡ on_to q t → held_go (go g code n p s) ≡ Some e → (m : ℕ) × (held_go (go g code m q t) ≡ Some e)
  forward zero p q s t h w = absurd (cc)
  forward (suc n) p q s t h w = (n, subst (λ (o : Out Spot). held_go (follow n o.0 o.1 (go g code n)) ≡ Some e) h w)

  the_end : Stop × Held → Option (Stop × Held) → Stop × Held
  the_end d None = d
  the_end d (Some x) = x

  stopped_at : (n : ℕ) (x : Stop) (t : State) → held_go (follow n (Err x) t (go g code n)) ≡ Some e → e ≡ (x, hold t)
  unfolding the_end
  stopped_at zero x t w = sym (ap (the_end e) w)
  stopped_at (suc n) x t w = absurd (cc)

  stopped : (n : ℕ) (p : Spot) (s t : State) (x : Stop) → step g code p s ≡ ends_in x t → held_go (go g code n p s) ≡ Some e → e ≡ (x, hold t)
  stopped zero p s t x h w = absurd (cc)
  stopped (suc n) p s t x h w = stopped_at n x t (subst (λ (o : Out Spot). held_go (follow n o.0 o.1 (go g code n)) ≡ Some e) h w)

  -- the end of which this is held
  ended : (o : Option End) → held_go o ≡ Some e → (x : End) × (o ≡ Some x) × (held_end x ≡ e)
  unfolding the_end
  ended None w = absurd (cc)
  ended (Some x) w = (x, refl, ap (the_end e) w)

-- ---- points of an evaluation

pub stands_at_start : (g : Segment) → StandsAt g (spot 0 []) start_held
stands_at_start g answers pulls keeps pulled = let m = machine_is (with_more g answers pulls) in (m.0, ap held_go m.1)

pub held_at_start : IsHeld start_held
held_at_start = refl

pub pulled_at_start : (pulls : ℕ) → IsPulledTo pulls start_held
pulled_at_start pulls = omega arith

count_held : (h : Held) → IsHeld h → length (state_of h).yields ≡ h.made
count_held h w = ap (λ (x : Held). x.made) w

-- after an instruction
pub stands_after : (g : Segment) (p q : Spot) (h k : Held) → held_step g (code_of g) p h ≡ held_on q k → IsHeld h → StandsAt g p h → StandsAt g q k
stands_after g p q h k e held w answers pulls keeps pulled =
    let s = state_of h in
    let a = after_is (step g (code_of g) p s) (Ok q) k e in
    let t = a.0 in
    let m = step_same g answers pulls (slice_get (code_of g) p.pc) p s in
    let fits_t : Fits g answers pulls t = (subst (λ (x : Held). Keeps x.state.taken g.answers answers) (sym a.2) keeps, subst (λ (x : Held). x.made ≤ pulls - 1) (sym a.2) pulled) in
    let f = m.fits q t a.1 fits_t in
    let l = w answers pulls f.0 (subst (λ n. n ≤ pulls - 1) (count_held h held) f.1) in
    let end = held_end (end_of (run (with_more g answers pulls))) in
    let n = forward (with_more g answers pulls) (code_of g) end l.0 p q s t (m.same q t a.1 fits_t) l.1 in
    let alike : hold t ≡ hold (state_of k) = a.2 ∙ sym (is_held t k a.2) in
    (n.0, sym (go_alike (with_more g answers pulls) (code_of g) n.0 q t (state_of k) alike) ∙ n.1)

pub held_after : (g : Segment) (p : Spot) (r : Result Spot Stop) (h k : Held) → held_step g (code_of g) p h ≡ (r, k) → IsHeld k
held_after g p r h k e = let a = after_is (step g (code_of g) p (state_of h)) r k e in is_held a.0 k a.2

pub pulled_after : (g : Segment) (p q : Spot) (h k : Held) → held_step g (code_of g) p h ≡ held_on q k → IsHeld h → IsPulledTo g.pulls h → IsPulledTo g.pulls k
pulled_after g p q h k e held w =
    let s = state_of h in
    let a = after_is (step g (code_of g) p s) (Ok q) k e in
    let m = step_same g g.answers g.pulls (slice_get (code_of g) p.pc) p s in
    subst (λ (x : Held). x.made ≤ g.pulls - 1) a.2 (m.pulled q a.0 a.1 (subst (λ n. n ≤ g.pulls - 1) (sym (count_held h held)) w))

here : (g : Segment) (p : Spot) (h : Held) → StandsAt g p h → IsPulledTo g.pulls h → EndsHeld g (code_of g) (held_end (end_of (run g))) p h
here g p h w pulled = w g.answers g.pulls (λ at a lt k. k) pulled

-- at a stop
pub stops_right : (g : Segment) (p : Spot) (h k : Held) (x : Stop) → StandsAt g p h → IsPulledTo g.pulls h → held_step g (code_of g) p h ≡ held_stop x k → held_end (end_of (run g)) ≡ (x, k)
stops_right g p h k x w pulled e =
    let l = here g p h w pulled in
    let a = after_is (step g (code_of g) p (state_of h)) (Err x) k e in
    stopped g (code_of g) (held_end (end_of (run g))) l.0 p (state_of h) a.0 x a.1 l.1 ∙ ap (λ (y : Held). let z : Stop × Held = (x, y) in z) a.2

-- what is kept of it is what the segment gives
pub kept_right : (g : Segment) (x : Stop) (k : Held) → held_end (end_of (run g)) ≡ (x, k) → segment_end g ≡ end_kept g x k
kept_right g x k e = kept_is g (end_of (run g)).0 (end_of (run g)).1 refl ∙ ap (λ (z : Stop × Held). end_kept g z.0 z.1) e

-- ---- charges

pub charges_so_far : (g : Segment) (p : Spot) (h : Held) → StandsAt g p h → IsPulledTo g.pulls h → h.state.charges ≤ charges g
charges_so_far g p h w pulled =
    let l = here g p h w pulled in
    let x = ended g (code_of g) (held_end (end_of (run g))) (go g (code_of g) l.0 p (state_of h)) l.1 in
    let c = no_less g (code_of g) x.0 l.0 p (state_of h) x.1 in
    let d = charges_is g in
    let same : x.0.1.charges ≡ (end_of (run g)).1.charges = ap (λ (z : Stop × Held). z.1.state.charges) x.2 in
    omega (arith, c, d, same)

pub charges_to_come : (g : Segment) (p : Spot) (h : Held) → StandsAt g p h → IsPulledTo g.pulls h → is_pending (slice_get (code_of g) p.pc) p.slots ≡ true → h.state.charges < charges g
charges_to_come g p h w pulled pending =
    let l = here g p h w pulled in
    let x = ended g (code_of g) (held_end (end_of (run g))) (go g (code_of g) l.0 p (state_of h)) l.1 in
    let c = one_more g (code_of g) x.0 l.0 p (state_of h) pending x.1 in
    let d = charges_is g in
    let same : x.0.1.charges ≡ (end_of (run g)).1.charges = ap (λ (z : Stop × Held). z.1.state.charges) x.2 in
    omega (arith, c, d, same)

pub charges_at_stop : (g : Segment) (x : Stop) (k : Held) → held_end (end_of (run g)) ≡ (x, k) → charges g ≡ k.state.charges
charges_at_stop g x k e = charges_is g ∙ ap (λ (z : Stop × Held). z.1.state.charges) e

-- no charge where none is pending, and one where one is
pub charges_stay : (g : Segment) (p : Spot) (h : Held) → is_pending (slice_get (code_of g) p.pc) p.slots ≡ false → (held_step g (code_of g) p h).1.state.charges ≡ h.state.charges
charges_stay g p h e = step_calm g (slice_get (code_of g) p.pc) p (state_of h) e

pub charges_rise : (g : Segment) (p : Spot) (h : Held) → is_pending (slice_get (code_of g) p.pc) p.slots ≡ true → (held_step g (code_of g) p h).1.state.charges ≡ h.state.charges + 1
charges_rise g p h e = step_counts g (slice_get (code_of g) p.pc) p (state_of h) e

pub charges_step : (g : Segment) (p : Spot) (h k : Held) (r : Result Spot Stop) → held_step g (code_of g) p h ≡ (r, k) → k.state.charges ≡ h.state.charges + (if is_pending (slice_get (code_of g) p.pc) p.slots then 1 else 0)
charges_step g p h k r e = by_pending (is_pending (slice_get (code_of g) p.pc) p.slots) refl
  where
    same : k.state.charges ≡ (held_step g (code_of g) p h).1.state.charges
    same = sym (ap (λ (z : Result Spot Stop × Held). z.1.state.charges) e)

    by_pending : (b : Bool) → is_pending (slice_get (code_of g) p.pc) p.slots ≡ b → k.state.charges ≡ h.state.charges + (if b then 1 else 0)
    by_pending true x = let c = charges_rise g p h x in omega (arith, same, c)
    by_pending false x = let c = charges_stay g p h x in omega (arith, same, c)

-- ---- an answer more, and a pull more

pub stands_resumed : (g : Segment) (p : Spot) (h : Held) (a : Answer) → StandsAt g p h → StandsAt (record g { answers = g.answers ++ a ∷ [] }) p h
stands_resumed g p h a w answers pulls keeps pulled = w answers pulls (λ at b lt k. keeps at b lt (still_there g.answers (a ∷ []) at b k)) pulled

pub stands_pulled : (g : Segment) (p : Spot) (h : Held) → StandsAt g p h → StandsAt (record g { pulls = g.pulls + 1 }) p h
stands_pulled g p h w = w

pub pulled_more : (pulls : ℕ) (h : Held) → IsPulledTo pulls h → IsPulledTo (pulls + 1) h
pulled_more pulls h w = omega (arith, w)
