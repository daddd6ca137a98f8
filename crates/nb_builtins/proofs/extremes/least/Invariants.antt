use Rattle.std.proofs.Common.{◌≡◌, take}
use Rattle.std.specs.List.{best_of}
use Rattle.nb_builtins.specs.Extremes.{is_below}
use Rattle.nb_builtins.proofs.extremes.least.Given as goal

abbrev pub invariant-loop-item : goal.invariant-loop-item
invariant-loop-item l = l.best ≡ best_of is_below l.first (take l.item-index l.others)
