use Rattle.std.proofs.Common.{◌≡◌, pos, drop}
use Rattle.nb_builtins.specs.Sums.{sum_from}
use Rattle.nb_builtins.proofs.sums.total.Given as goal

abbrev pub invariant-loop-item : goal.invariant-loop-item
invariant-loop-item l = sum_from (pos 0) l.items ≡ sum_from l.total (drop l.item-index l.items)
