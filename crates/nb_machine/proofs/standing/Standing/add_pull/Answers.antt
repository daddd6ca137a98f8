use Rattle.nb_machine.proofs.Points.{pulled_more}
use Rattle.nb_machine.proofs.Room.{room_pulled}
use Rattle.nb_machine.proofs.Goes.{charges_pulled}
use Rattle.nb_machine.proofs.standing.Standing.add_pull.Goals as goal

pub invariant_of-self : goal.invariant_of-self
invariant_of-self c =
    let s = c.args.self.now in
    record {
      is_code = s.is_code;
      is_held = s.is_held;
      is_pulled = pulled_more s.segment.pulls s.held s.is_pulled;
      has_room = room_pulled s.segment.pulls s.held s.has_room;
      stands = s.stands;
      made = s.made;
      to_make = charges_pulled s.segment s.charges s.to_make;
      few = s.few;
    }
