-- There is room for the charges of all pulls.
use Rattle.std.proofs.Common.{◌≡◌, ℕ, zero, suc, ◌+◌, ◌-◌, ◌*◌, ◌<◌, ◌≤◌, Bool, true, false, List, [], ◌∷◌, ◌++◌, length, Option, Some, None, Result, Ok, Err, refl, sym, ap, ◌∙◌, subst, arith, length-append}
use Rattle.nb_eval.specs.declared.given.Segment.{Segment}
use Rattle.nb_eval.specs.declared.state.State.{State}
use Rattle.nb_eval.specs.Run.{HasRoom, budget, full_fuel}
use Rattle.std.specs.Prelude.{◌^◌, slice_get}
use Rattle.nb_eval.specs.Run.{Out}
use Rattle.nb_eval.proofs.Spending.{WentTo, Pays}
use Rattle.nb_machine.specs.Machine.{Spot, step, code_of}
use Rattle.nb_machine.specs.Held.{Held, IsHeld, start_held, state_of, held_step}
use Rattle.nb_machine.specs.Room.{Room}
use Rattle.nb_machine.proofs.Deaf.{no_yields}
use Rattle.nb_machine.proofs.Pays.{step_pays}
use Rattle.nb_machine.proofs.Points.{after_is, held_on}

pub room_at_start : (pulls : ℕ) → Room pulls start_held
room_at_start pulls = omega arith

pub room_pulled : (pulls : ℕ) (h : Held) → Room pulls h → Room (pulls + 1) h
room_pulled pulls h r = omega (arith, r)

-- after an instruction
pub room_after : (g : Segment) (p q : Spot) (h k : Held) → held_step g (code_of g) p h ≡ held_on q k → IsHeld h → Room g.pulls h → Room g.pulls k
room_after g p q h k e held r =
    let s = state_of h in
    let a = after_is (step g (code_of g) p s) (Ok q) k e in
    let paid = subst (λ (o : Out Spot). WentTo Spot (Pays g s) o.0 o.1) a.1 (step_pays g (slice_get (code_of g) p.pc) p s) in
    let count : length s.yields ≡ h.made = ap (λ (x : Held). x.made) held in
    let counts : length a.0.yields ≡ k.made = ap (λ (x : Held). x.made) a.2 in
    let fuel : a.0.fuel ≡ k.state.fuel = ap (λ (x : Held). x.state.fuel) a.2 in
    let charges : a.0.charges ≡ k.state.charges = ap (λ (x : Held). x.state.charges) a.2 in
    let old : budget g s ≡ h.state.fuel + (g.pulls - h.made) * full_fuel = ap (λ n. h.state.fuel + (g.pulls - n) * full_fuel) count in
    let new : budget g a.0 ≡ k.state.fuel + (g.pulls - k.made) * full_fuel = ap (λ n. a.0.fuel + (g.pulls - n) * full_fuel) counts ∙ ap (λ f. f + (g.pulls - k.made) * full_fuel) fuel in
    omega (arith, paid.1, old, new, charges, r)

-- so there is room in what is held, without its yields
pub has_room : (g : Segment) (h : Held) → g.pulls < 2 ^ 32 → IsHeld h → Room g.pulls h → HasRoom g h.state
has_room g h few held r =
    let none : length h.state.yields ≡ 0 = ap length (no_yields h held) in
    let is : budget g h.state ≡ h.state.fuel + (g.pulls - 0) * full_fuel = ap (λ n. h.state.fuel + (g.pulls - n) * full_fuel) none in
    omega (arith, few, is, r)
