use Rattle.std.proofs.Common.{◌≡◌, take}
use Rattle.nb_value.proofs.tree.ItemsTree.copy.Given as goal

abbrev pub invariant-loop-item : goal.invariant-loop-item
invariant-loop-item g l = l.copies ≡ take l.item-index l.item-items
