-- What is written, with the values that are left, is the whole.
use Rattle.std.proofs.Common.{◌≡◌, ◌++◌, drop}
use Rattle.nb_log.specs.Pieces.{items_after}
use Rattle.nb_log.proofs.piece.push_values.Given as goal

abbrev pub invariant-loop-value : goal.invariant-loop-value
invariant-loop-value l = l.out ++ items_after (drop l.value-index l.values) ≡ l.fn.out ++ items_after l.values
