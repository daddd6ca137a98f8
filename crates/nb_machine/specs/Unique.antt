-- The number of instructions to an end is determined, so that a machine stands at a point in one way alone.
use Rattle.std.specs.Prelude.{◌≡◌, ℕ, zero, suc, Option, Some, None, Result, Ok, Err}
use Rattle.std.proofs.Common.{refl, ap, subst}
use Rattle.std.specs.Coded.{Coded, Coded-set, coded_option, coded×, Π_prop}
use Rattle.nb_eval.specs.declared.given.Segment.{Segment}
use Rattle.nb_eval.specs.declared.state.State.{State}
use Rattle.nb_eval.specs.declared.stop.Stop.{Stop}
use Rattle.nb_machine.specs.Code.{Code}
use Rattle.nb_machine.specs.Machine.{Spot, step, follow, go, code_of, end_of}
use Rattle.nb_machine.specs.Suspended.{with_more}
use Rattle.nb_eval.specs.Evaluation.{run}
use Rattle.nb_machine.specs.Held.{Held, state_of, held_end, held_go, EndsHeld, StandsAt}

module _ (g : Segment) (code : Code) (e : Stop × Held) where
  pub only : (n m : ℕ) (p : Spot) (s : State) → held_go (go g code n p s) ≡ Some e → held_go (go g code m p s) ≡ Some e → n ≡ m
  only zero m p s x y = absurd (cc)
  only (suc n) zero p s x y = absurd (cc)
  only (suc n) (suc m) p s x y = ap suc (by_result (step g code p s).0 (step g code p s).1 x y (only n m))
    where
      at_stop : (k l : ℕ) (a : Stop) (t : State) → held_go (follow k (Err a) t (go g code k)) ≡ Some e → held_go (follow l (Err a) t (go g code l)) ≡ Some e → k ≡ l
      at_stop zero zero a t x y = refl
      at_stop zero (suc l) a t x y = absurd (cc)
      at_stop (suc k) l a t x y = absurd (cc)

      by_result : (r : Result Spot Stop) (t : State) → held_go (follow n r t (go g code n)) ≡ Some e → held_go (follow m r t (go g code m)) ≡ Some e → ((q : Spot) (u : State) → held_go (go g code n q u) ≡ Some e → held_go (go g code m q u) ≡ Some e → n ≡ m) → n ≡ m
      by_result (Ok q) t x y ih = ih q t x y
      by_result (Err a) t x y ih = at_stop n m a t x y

  ends_prop : Coded Stop → Coded Held → (p : Spot) (h : Held) → IsProp (EndsHeld g code e p h)
  ends_prop cs ch p h x y = subst (λ (n : ℕ). (b : held_go (go g code n p (state_of h)) ≡ Some e) → x ≡ (n, b)) (only x.0 y.0 p (state_of h) x.1 y.1) at_same y.1
    where
      at_same : (b : held_go (go g code x.0 p (state_of h)) ≡ Some e) → x ≡ (x.0, b)
      at_same b = ap (λ (z : held_go (go g code x.0 p (state_of h)) ≡ Some e). let w : EndsHeld g code e p h = (x.0, z) in w) (Coded-set (coded_option (coded× cs ch)) (held_go (go g code x.0 p (state_of h))) (Some e) x.1 b)

-- a fact of a machine's type, of which there is one proof at most
pub stands_prop : Coded Stop → Coded Held → (g : Segment) (p : Spot) (h : Held) → IsProp (StandsAt g p h)
stands_prop cs ch g p h = Π_prop {0, 0} (λ answers. Π_prop {0, 0} (λ pulls. Π_prop {0, 0} (λ keeps. Π_prop {0, 0} (λ pulled.
    ends_prop (with_more g answers pulls) (code_of g) (held_end (end_of (run (with_more g answers pulls)))) cs ch p h))))
