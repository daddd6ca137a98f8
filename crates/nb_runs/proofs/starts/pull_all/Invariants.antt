use Rattle.std.proofs.Common.{◌≡◌, ◌≤◌, ◌<◌, length}
use Rattle.nb_runs.specs.Starts.{pulled_first}
use Rattle.nb_runs.proofs.starts.pull_all.Given as goal

abbrev pub invariant-loop-k : goal.invariant-loop-k
invariant-loop-k l = (l.starts.items ≡ pulled_first l.sheet.sheet l.k 1 l.fn.starts.items) × (length l.starts.items ≡ length l.fn.starts.items)
