-- What is written, with the specifiers that are left, is the whole.
use Rattle.std.proofs.Common.{◌≡◌, ◌++◌, drop, map}
use Rattle.nb_log.specs.Pieces.{items_after}
use Rattle.nb_log.specs.Printing.{specifier_object}
use Rattle.nb_log.proofs.object.push_further.Given as goal

abbrev pub invariant-loop-specifier : goal.invariant-loop-specifier
invariant-loop-specifier l = l.out ++ items_after (map specifier_object (drop l.specifier-index l.specifiers)) ≡ l.fn.out ++ items_after (map specifier_object l.specifiers)
