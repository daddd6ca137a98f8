use Rattle.std.proofs.Common.{◌≡◌, ◌∙◌, ◌≤◌, sym, subst}
use Rattle.nb_eval.specs.declared.given.Segment.{Segment}
use Rattle.nb_eval.specs.Evaluation.{charges}
use Rattle.nb_machine.specs.Machine.{code_of}
use Rattle.nb_machine.specs.Held.{IsPulledTo, StandsAt}
use Rattle.nb_machine.specs.Room.{Room}
use Rattle.nb_machine.proofs.standing.Standing.split.Goals as goal

pub invariant_of-standing : goal.invariant_of-standing
invariant_of-standing c =
    let s = c.args.self in
    let is : c.replace-segment.new.dest ≡ s.segment = c.replace-segment.ensures.after ∙ c.requires in
    record {
      is_code = subst (λ (g : Segment). s.code ≡ code_of g) (sym is) s.is_code;
      is_held = s.is_held;
      is_pulled = subst (λ (g : Segment). IsPulledTo g.pulls s.held) (sym is) s.is_pulled;
      has_room = subst (λ (g : Segment). Room g.pulls s.held) (sym is) s.has_room;
      stands = subst (λ (g : Segment). StandsAt g s.spot s.held) (sym is) s.stands;
      made = s.made;
      to_make = subst (λ (g : Segment). s.charges ≤ charges g) (sym is) s.to_make;
      few = s.few;
    }
