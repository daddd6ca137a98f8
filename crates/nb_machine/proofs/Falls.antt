-- Each instruction is one less to the end.
use Rattle.std.proofs.Common.{◌≡◌, ℕ, zero, suc, ◌<◌, Option, Some, None, Ok, refl, sym, ◌∙◌, subst, arith}
use Rattle.nb_eval.specs.declared.given.Segment.{Segment}
use Rattle.nb_eval.specs.declared.state.State.{State}
use Rattle.nb_eval.specs.declared.stop.Stop.{Stop}
use Rattle.nb_eval.specs.Run.{Out}
use Rattle.nb_eval.specs.Evaluation.{run}
use Rattle.nb_machine.specs.Code.{Code}
use Rattle.nb_machine.specs.Machine.{Spot, step, follow, go, code_of, end_of}
use Rattle.nb_machine.specs.Held.{Held, hold, state_of, held_step, held_end, held_go, EndsHeld, IsPulledTo, StandsAt}
use Rattle.nb_machine.specs.Standing.{left_at}
use Rattle.nb_machine.specs.Unique.{only}
use Rattle.nb_machine.proofs.Points.{on_to, held_on, after_is, is_held, go_alike}

module _ (g : Segment) (code : Code) (e : Stop × Held) where
  one_less : (n : ℕ) (p q : Spot) (s t : State) → step g code p s ≡ on_to q t → held_go (go g code n p s) ≡ Some e → (m : ℕ) × (suc m ≡ n) × (held_go (go g code m q t) ≡ Some e)
  one_less zero p q s t h w = absurd (cc)
  one_less (suc n) p q s t h w = (n, refl, subst (λ (o : Out Spot). held_go (follow n o.0 o.1 (go g code n)) ≡ Some e) h w)

  less : (p q : Spot) (h k : Held) → held_step g code p h ≡ held_on q k → (x : EndsHeld g code e p h) (y : EndsHeld g code e q k) → y.0 < x.0
  less p q h k same x y =
      let a = after_is (step g code p (state_of h)) (Ok q) k same in
      let n = one_less x.0 p q (state_of h) a.0 a.1 x.1 in
      let alike : hold a.0 ≡ hold (state_of k) = a.2 ∙ sym (is_held a.0 k a.2) in
      let m : n.0 ≡ y.0 = only g code e n.0 y.0 q (state_of k) (sym (go_alike g code n.0 q a.0 (state_of k) alike) ∙ n.2) y.1 in
      omega (arith, n.1, m)

pub falls : (g : Segment) (p q : Spot) (h k : Held) → held_step g (code_of g) p h ≡ held_on q k → (a : StandsAt g p h) (b : IsPulledTo g.pulls h) (c : StandsAt g q k) (d : IsPulledTo g.pulls k) → left_at g q k c d < left_at g p h a b
unfolding left_at
falls g p q h k same a b c d =
    less g (code_of g) (held_end (end_of (run g))) p q h k same (a g.answers g.pulls (λ at v lt x. x) b) (c g.answers g.pulls (λ at v lt x. x) d)

-- there is one more at least
pub some_left : (g : Segment) (p : Spot) (h : Held) (a : StandsAt g p h) (b : IsPulledTo g.pulls h) → 0 < left_at g p h a b
unfolding left_at
some_left g p h a b = by_number x.0 x.1
  where
    x : EndsHeld g (code_of g) (held_end (end_of (run g))) p h
    x = a g.answers g.pulls (λ at v lt y. y) b

    by_number : (n : ℕ) → held_go (go g (code_of g) n p (state_of h)) ≡ Some (held_end (end_of (run g))) → 0 < n
    by_number zero w = absurd (cc)
    by_number (suc n) w = omega arith
