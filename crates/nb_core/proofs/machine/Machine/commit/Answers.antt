use Rattle.std.proofs.Common.{◌≡◌, ◌∙◌, ap, arith, length, List}
use Rattle.std.specs.Vec.Iter.{into_iter_items}
use Rattle.nb_closing.specs.declared.step.Step.{Step}
use Rattle.nb_core.proofs.Plans.{plan_goes_on}
use Rattle.nb_core.proofs.machine.Machine.commit.Goals as goal

pub loop-step-preserved : goal.loop-step-preserved
loop-step-preserved c =
    let split = c.in-Some.ensures.steps in
    let on = plan_goes_on c.loop-step.self.history c.step.new.self.history c.in-Some.step (into_iter_items c.next.new.self) (into_iter_items c.loop-step.step-iterator) split.0 c.step.ensures.entry c.loop-step.invariant.plans in
    record {
      same = on.0 ∙ c.loop-step.invariant.same;
      plans = on.1;
      room = omega (arith, split.1, c.loop-step.invariant.room, c.step.ensures.room);
      len = omega (arith, split.1, c.loop-step.invariant.len, ap (λ (l : List Step). length l) split.0);
    }
