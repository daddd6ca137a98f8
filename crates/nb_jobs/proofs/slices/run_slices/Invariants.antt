use Rattle.std.proofs.Common.{◌≡◌, ◌≤◌, ◌-◌}
use Rattle.nb_eval.specs.Evaluation.{charges}
use Rattle.nb_jobs.proofs.Asked.{IsAskedSoFar}
use Rattle.nb_jobs.proofs.slices.run_slices.Given as goal

-- slices of the same segment were made, and each call was answered by no number
abbrev pub invariant-slices : goal.invariant-slices
invariant-slices g l = record {
  segment : l.machine.standing.segment ≡ l.fn.machine.standing.segment;
  quiet : g.P.Poll.given l.poll ≡ g.P.Poll.given l.fn.poll;
  asked : IsAskedSoFar l.fn.machine.standing.charges l.machine.standing.charges (g.P.Poll.asked l.fn.poll) (g.P.Poll.asked l.poll);
  later : g.P.Poll.asked l.fn.poll ≤ g.P.Poll.asked l.poll;
  kept : g.P.Poll.kept l.poll ≡ g.P.Poll.kept l.fn.poll;
}

-- the charges that are still to be made
abbrev pub decreases-slices : goal.decreases-slices
decreases-slices g l = charges l.machine.standing.segment - l.machine.standing.charges
