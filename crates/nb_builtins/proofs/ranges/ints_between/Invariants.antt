use Rattle.std.proofs.Common.{◌≡◌, ◌++◌}
use Rattle.nb_builtins.specs.Ranges.{count_between, ints_from}
use Rattle.nb_builtins.proofs.ranges.ints_between.Given as goal

abbrev pub invariant-loop-n : goal.invariant-loop-n
invariant-loop-n l = l.items ++ ints_from l.n (count_between l.n l.end) ≡ ints_from l.first (count_between l.first l.end)
