-- The next instruction.
use Rattle.std.proofs.Common.{◌≡◌, ◌≢◌, ◌<◌, ℕ, zero, suc, List, [], ◌∷◌, length, get_or, arith, Bool, true, false, Option, Some, None, Result, Ok, Err, refl, sym, ap, ◌∙◌, subst}
use Rattle.std.specs.Prelude.{slice_get}
use Rattle.nb_eval.specs.declared.given.Segment.{Segment}
use Rattle.nb_eval.specs.declared.stop.Stop.{Stop}
use Rattle.nb_eval.specs.declared.stop.Stop.TheVariants as stops
use Rattle.nb_machine.specs.declared.instr.Instr.{Instr}
use Rattle.nb_machine.specs.Code.{Code}
use Rattle.nb_machine.specs.Machine.{Spot, does_if}
use Rattle.nb_machine.specs.Held.{Held, state_of, held_out, held_does, held_step, moved, left, left_by, goes_on}

pub known : (g : Segment) (code : Code) (p : Spot) (h : Held) (x : Instr) → slice_get code p.pc ≡ Some x → held_step g code p h ≡ held_does g x p h
known g code p h x e = ap (λ o. held_out (does_if g o p (state_of h))) e

left_same : (x : Stop) (p : Spot) (k : Held) → goes_on x ≡ false → left_by x p k ≡ k
left_same (stops.Needs key) p k e = absurd (cc)
left_same stops.Paused p k e = absurd (cc)
left_same (stops.Done v) p k e = refl
left_same (stops.Failed f) p k e = refl
left_same stops.Memory p k e = refl

left_none : (r : Result (Unit {0}) Stop) (p : Spot) (k : Held) → ((x : Stop) → r ≡ Err x → goes_on x ≡ false) → left r p k ≡ k
left_none (Ok u) p k ends = refl
left_none (Err x) p k ends = left_same x p k (ends x refl)

-- an instruction that neither wants an answer nor pauses leaves what it made
pub settles : (d : Result Spot Stop × Held) (r s : Result (Unit {0}) Stop) (p q : Spot) (k : Held) → (r ≢ Err stops.Memory → d ≡ (moved r q, k)) → (s ≢ Err stops.Memory → s ≡ r) → ((x : Stop) → s ≡ Err x → goes_on x ≡ false) → s ≢ Err stops.Memory → d ≡ (moved s q, left s p k)
settles d r s p q k does same ends other =
    let is = same other in
    does (λ e. other (is ∙ e)) ∙ ap (λ (t : Result (Unit {0}) Stop). let z : Result Spot Stop × Held = (moved t q, k) in z) (sym is)
    ∙ ap (λ (x : Held). let z : Result Spot Stop × Held = (moved s q, x) in z) (sym (left_none s p k ends))

pub at_place : {A : Type 0} (xs : List A) (at : ℕ) (x : A) → at < length xs → ((d : A) → x ≡ get_or xs at d) → slice_get xs at ≡ Some x
at_place [] at x lt e = absurd (omega (arith, lt))
at_place (y ∷ xs) zero x lt e = ap Some (sym (e y))
at_place (y ∷ xs) (suc at) x lt e = at_place xs at x (omega (arith, lt)) e

-- there is no such stop
pub no_stay : (s : Result (Unit {0}) Stop) (x : Stop) → ((x : Stop) → s ≡ Err x → goes_on x ≡ false) → s ≡ Err x → goes_on x ≡ true → ⊥
no_stay s x ends is on = let off = ends x is in cc
