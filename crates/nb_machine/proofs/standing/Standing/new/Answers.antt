use Rattle.std.proofs.Common.{◌≡◌, ◌∙◌, ◌≤◌, [], sym, subst, subst₂, arith}
use Rattle.nb_machine.specs.Machine.{Spot, spot}
use Rattle.nb_machine.specs.Held.{Held, IsHeld, IsPulledTo, StandsAt, start_held}
use Rattle.nb_machine.specs.Room.{Room}
use Rattle.nb_machine.proofs.Points.{held_at_start, pulled_at_start, stands_at_start}
use Rattle.nb_machine.proofs.Room.{room_at_start}
use Rattle.nb_machine.proofs.standing.Standing.new.Goals as goal

pub invariant_of-result : goal.invariant_of-result
invariant_of-result c =
    let g = c.args.segment in
    let p : spot 0 [] ≡ c.new.result = sym c.new.ensures in
    let h : start_held ≡ c.new-in-Ok.result = sym c.new-in-Ok.ensures in
    record {
      is_code = c.in-Ok.ensures;
      is_held = subst IsHeld h held_at_start;
      is_pulled = subst (IsPulledTo g.pulls) h (pulled_at_start g.pulls);
      has_room = subst (Room g.pulls) h (room_at_start g.pulls);
      stands = subst₂ (λ (q : Spot) (k : Held). StandsAt g q k) p h (stands_at_start g);
      made = subst (λ (k : Held). k.state.charges ≤ 0) h (omega arith);
      to_make = omega arith;
      few = omega arith;
    }
