-- A point of an evaluation stays one: after each instruction, with an answer more, and with a pull more; and at an end
-- it is the evaluation's end.
use Rattle.std.proofs.Common.{◌≡◌, ℕ, zero, suc, ◌+◌, ◌<◌, ◌≤◌, true, List, [], ◌∷◌, ◌++◌, Option, Some, None, Result, Ok, Err, refl, sym, ap, ◌∙◌, subst, arith}
use Rattle.std.specs.Prelude.{slice_get}
use Rattle.nb_value.specs.declared.value.Value.{Value}
use Rattle.nb_value.specs.declared.outcome.Answer.{Answer}
use Rattle.nb_eval.specs.declared.given.Segment.{Segment}
use Rattle.nb_eval.specs.declared.state.State.{State}
use Rattle.nb_eval.specs.declared.stop.Stop.{Stop}
use Rattle.nb_eval.specs.Run.{Out, start_state}
use Rattle.nb_eval.specs.Evaluation.{run, run_end, evaluated, evaluation, charges, segment_end}
use Rattle.nb_machine.specs.Code.{Code}
use Rattle.nb_machine.specs.Machine.{Spot, spot, step, follow, go, code_of, End, Ends, end_in, end_of}
use Rattle.nb_machine.specs.Suspended.{with_more, IsPulled, Stands, is_pending, kept_of}
use Rattle.nb_machine.proofs.Stmts.{machine_is}
use Rattle.nb_machine.proofs.Steps.{step_same}
use Rattle.nb_machine.proofs.Charges.{step_counts}

abbrev on_to : Spot → State → Out Spot
on_to q t = (Ok q, t)

abbrev ends_in : Stop → State → Out Spot
ends_in x t = (Err x, t)

-- ---- a run of instructions

module _ (g : Segment) (code : Code) (e : End) where
  forward : (n : ℕ) (p q : Spot) (s t : State) → step g code p s ≡ on_to q t → go g code n p s ≡ Some e → Ends g code e q t
  forward zero p q s t h w = absurd (cc)
  forward (suc n) p q s t h w = (n, subst (λ (o : Out Spot). follow n o.0 o.1 (go g code n) ≡ Some e) h w)

  abbrev the_end : End → Option End → End
  the_end d None = d
  the_end d (Some x) = x

  stopped_at : (n : ℕ) (x : Stop) (t : State) → follow n (Err x) t (go g code n) ≡ Some e → e ≡ (x, t)
  stopped_at zero x t w = sym (ap (the_end e) w)
  stopped_at (suc n) x t w = absurd (cc)

  stopped : (n : ℕ) (p : Spot) (s t : State) (x : Stop) → step g code p s ≡ ends_in x t → go g code n p s ≡ Some e → e ≡ (x, t)
  stopped zero p s t x h w = absurd (cc)
  stopped (suc n) p s t x h w = stopped_at n x t (subst (λ (o : Out Spot). follow n o.0 o.1 (go g code n) ≡ Some e) h w)

  -- no charge is taken back
  pub no_less : (n : ℕ) (p : Spot) (s : State) → go g code n p s ≡ Some e → s.charges ≤ e.1.charges
  no_less zero p s w = absurd (cc)
  no_less (suc n) p s w =
      let c = (step_same g g.answers g.pulls (slice_get code p.pc) p s).charges in
      by_result (step g code p s).0 (step g code p s).1 c w (no_less n)
    where
      by_result : (r : Result Spot Stop) (t : State) → s.charges ≤ t.charges → follow n r t (go g code n) ≡ Some e → ((q : Spot) (u : State) → go g code n q u ≡ Some e → u.charges ≤ e.1.charges) → s.charges ≤ e.1.charges
      by_result (Ok q) t c k ih = let d = ih q t k in omega (arith, c, d)
      by_result (Err x) t c k ih = let d : t.charges ≡ e.1.charges = ap (λ (z : End). z.1.charges) (sym (stopped_at n x t k)) in omega (arith, c, d)

  -- the end has a charge more, where one is pending
  pub one_more : (n : ℕ) (p : Spot) (s : State) → is_pending (slice_get code p.pc) p.slots ≡ true → go g code n p s ≡ Some e → s.charges < e.1.charges
  one_more zero p s h w = absurd (cc)
  one_more (suc n) p s h w =
      let c = step_counts g (slice_get code p.pc) p s h in
      by_result (step g code p s).0 (step g code p s).1 c w
    where
      by_result : (r : Result Spot Stop) (t : State) → t.charges ≡ s.charges + 1 → follow n r t (go g code n) ≡ Some e → s.charges < e.1.charges
      by_result (Ok q) t c k = let d = no_less n q t k in omega (arith, c, d)
      by_result (Err x) t c k = let d : t.charges ≡ e.1.charges = ap (λ (z : End). z.1.charges) (sym (stopped_at n x t k)) in omega (arith, c, d)

-- ---- points of an evaluation

pub stands_at_start : (g : Segment) → Stands g (spot 0 []) start_state
stands_at_start g answers pulls keeps pulled = machine_is (with_more g answers pulls)

pub pulled_at_start : (pulls : ℕ) → IsPulled pulls start_state
pulled_at_start pulls = omega arith

-- after an instruction
pub stands_after : (g : Segment) (p q : Spot) (s t : State) → step g (code_of g) p s ≡ on_to q t → Stands g p s → Stands g q t
stands_after g p q s t h w answers pulls keeps pulled =
    let m = step_same g answers pulls (slice_get (code_of g) p.pc) p s in
    let f = m.fits q t h (keeps, pulled) in
    let l = w answers pulls f.0 f.1 in
    forward (with_more g answers pulls) (code_of g) (end_of (run (with_more g answers pulls))) l.0 p q s t (m.same q t h (keeps, pulled)) l.1

pub pulled_after : (g : Segment) (p q : Spot) (s t : State) → step g (code_of g) p s ≡ on_to q t → IsPulled g.pulls s → IsPulled g.pulls t
pulled_after g p q s t h w = (step_same g g.answers g.pulls (slice_get (code_of g) p.pc) p s).pulled q t h w

-- from here the evaluation of its own segment ends as it does
here : (g : Segment) (p : Spot) (s : State) → Stands g p s → IsPulled g.pulls s → Ends g (code_of g) (end_of (run g)) p s
here g p s w pulled = w g.answers g.pulls (λ at a lt k. k) pulled

-- at a stop
pub stops_right : (g : Segment) (p : Spot) (s t : State) (x : Stop) → Stands g p s → IsPulled g.pulls s → step g (code_of g) p s ≡ ends_in x t → end_of (run g) ≡ (x, t)
stops_right g p s t x w pulled h = let l = here g p s w pulled in stopped g (code_of g) (end_of (run g)) l.0 p s t x h l.1

end_state : (r : Result Value Stop) (t : State) → (end_in r t).1 ≡ t
end_state (Ok v) t = refl
end_state (Err x) t = refl

pub charges_is : (g : Segment) → charges g ≡ (end_of (run g)).1.charges
unfolding charges
charges_is g = sym (ap (λ (t : State). t.charges) (end_state (run g).0 (run g).1))

-- as many charges as were made are made by the evaluation
pub charges_so_far : (g : Segment) (p : Spot) (s : State) → Stands g p s → IsPulled g.pulls s → s.charges ≤ charges g
charges_so_far g p s w pulled = let l = here g p s w pulled in let c = no_less g (code_of g) (end_of (run g)) l.0 p s l.1 in let d = charges_is g in omega (arith, c, d)

-- and more, where one is pending
pub charges_to_come : (g : Segment) (p : Spot) (s : State) → Stands g p s → IsPulled g.pulls s → is_pending (slice_get (code_of g) p.pc) p.slots ≡ true → s.charges < charges g
charges_to_come g p s w pulled h = let l = here g p s w pulled in let c = one_more g (code_of g) (end_of (run g)) l.0 p s h l.1 in let d = charges_is g in omega (arith, c, d)

-- at a stop all are made
pub charges_at_stop : (g : Segment) (p : Spot) (s t : State) (x : Stop) → Stands g p s → IsPulled g.pulls s → step g (code_of g) p s ≡ ends_in x t → charges g ≡ t.charges
charges_at_stop g p s t x w pulled h = charges_is g ∙ ap (λ (o : End). o.1.charges) (stops_right g p s t x w pulled h)

-- ---- an answer more, and a pull more

pub still_there : (xs more : List Answer) (at : ℕ) (a : Answer) → slice_get xs at ≡ Some a → slice_get (xs ++ more) at ≡ Some a
still_there [] more at a h = absurd (cc)
still_there (x ∷ xs) more zero a h = h
still_there (x ∷ xs) more (suc at) a h = still_there xs more at a h

pub stands_resumed : (g : Segment) (p : Spot) (s : State) (a : Answer) → Stands g p s → Stands (record g { answers = g.answers ++ a ∷ [] }) p s
stands_resumed g p s a w answers pulls keeps pulled = w answers pulls (λ at b lt h. keeps at b lt (still_there g.answers (a ∷ []) at b h)) pulled

pub stands_pulled : (g : Segment) (p : Spot) (s : State) → Stands g p s → Stands (record g { pulls = g.pulls + 1 }) p s
stands_pulled g p s w = w

pub pulled_more : (pulls : ℕ) (s : State) → IsPulled pulls s → IsPulled (pulls + 1) s
pulled_more pulls s h = omega (arith, h)

-- ---- what is kept of an end

kept_in : (g : Segment) (r : Result Value Stop) (t : State) → run_end (evaluated g.cell (r, t)) ≡ kept_of g (end_in r t).0 (end_in r t).1
kept_in g (Ok v) t = refl
kept_in g (Err x) t = refl

pub kept_is : (g : Segment) (x : Stop) (t : State) → end_of (run g) ≡ (x, t) → segment_end g ≡ kept_of g x t
unfolding evaluation
kept_is g x t h = kept_in g (run g).0 (run g).1 ∙ ap (λ (o : End). kept_of g o.0 o.1) h
