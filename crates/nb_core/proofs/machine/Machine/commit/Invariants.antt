use Rattle.std.proofs.Common.{◌≡◌, ◌≤◌, length}
use Rattle.std.specs.Vec.Iter.{into_iter_items, into_iter_len}
use Rattle.nb_history.specs.History.{standing, plus_all}
use Rattle.nb_closing.specs.Plan.{Plans, planned}
use Rattle.nb_core.proofs.machine.Machine.commit.Given as goal

abbrev pub invariant-loop-step : goal.invariant-loop-step
invariant-loop-step l = record {
  same : plus_all l.self.history (planned (standing l.self.history) (into_iter_items l.step-iterator)) ≡ plus_all l.fn.self.history (planned (standing l.fn.self.history) l.fn.steps.items);
  plans : Plans (standing l.self.history) (into_iter_items l.step-iterator);
  room : into_iter_len l.step-iterator ≤ l.self.room;
  len : into_iter_len l.step-iterator ≡ length (into_iter_items l.step-iterator);
}
