use Rattle.std.proofs.Common.{◌≡◌, ◌-◌, ◌^◌, ◌+◌, min, sum_by, take}
use Rattle.nb_value.specs.Value.{size}
use Rattle.nb_log.proofs.size.list_size.Given as goal

abbrev pub invariant-loop-value : goal.invariant-loop-value
invariant-loop-value l = l.total ≡ min (1 + sum_by size (take l.value-index l.values)) (2 ^ 64 - 1)
