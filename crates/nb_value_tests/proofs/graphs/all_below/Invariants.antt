use Rattle.std.proofs.Common.{ℕ, ◌<◌, ◌≡◌, true, take}
use Rattle.nb_graph.specs.Needs.{has}
use Rattle.nb_value_tests.proofs.graphs.all_below.Given as goal

abbrev pub invariant-loop-u : goal.invariant-loop-u
invariant-loop-u l = (u : ℕ) → has (take l.u-index l.nodes) u ≡ true → u < l.n
