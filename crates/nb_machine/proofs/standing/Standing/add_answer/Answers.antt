use Rattle.std.proofs.Common.{◌≡◌, ◌∙◌, ◌≤◌, [], ◌∷◌, ◌++◌, List, sym, ap, subst}
use Rattle.nb_value.specs.declared.outcome.Answer.{Answer}
use Rattle.nb_eval.specs.Evaluation.{charges}
use Rattle.nb_machine.specs.Held.{StandsAt}
use Rattle.nb_machine.proofs.Goes.{either_way, stands_answered, makes_answered}
use Rattle.nb_machine.proofs.standing.Standing.add_answer.Goals as goal

pub invariant_of-self-2 : goal.invariant_of-self-2
invariant_of-self-2 c =
    let s = c.args.self.now in
    let is = either_way s.segment c.in_ok-copy.field-0 c.push.new.self c.push.result c.push.ensures.ok c.push.ensures.err in
    record {
      is_code = s.is_code;
      is_held = s.is_held;
      is_pulled = s.is_pulled;
      has_room = s.has_room;
      stands = stands_answered s.segment s.spot s.held c.in_ok-copy.field-0 c.push.new.self is s.stands;
      made = s.made;
      to_make = makes_answered s.segment c.in_ok-copy.field-0 c.push.new.self is s.charges s.to_make;
      few = s.few;
    }
