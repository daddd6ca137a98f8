use Rattle.std.proofs.Common.{◌≡◌, take}
use Rattle.nb_value.proofs.tree.PairsTree.copy.Given as goal

abbrev pub invariant-loop-field : goal.invariant-loop-field
invariant-loop-field g l = l.copies ≡ take l.field-index l.field-items
