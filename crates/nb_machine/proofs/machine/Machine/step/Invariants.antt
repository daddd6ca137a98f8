use Rattle.std.proofs.Common.{◌≡◌, ◌≤◌, ◌+◌}
use Rattle.nb_machine.specs.ToGo.{to_go}
use Rattle.nb_machine.proofs.machine.Machine.step.Given as goal

-- so far it has made charges of the same segment, and no more than it was to make
abbrev pub invariant-run : goal.invariant-run
invariant-run l = record {
  segment : l.self.standing.segment ≡ l.fn.self.standing.segment;
  least : l.fn.self.standing.charges ≤ l.self.standing.charges;
  most : l.self.standing.charges ≤ l.target;
}

abbrev pub decreases-run : goal.decreases-run
decreases-run l = to_go l.self
