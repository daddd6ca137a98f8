-- The name is no earlier one.
use Rattle.std.proofs.Common.{◌≡◌, drop}
use Rattle.nb_syntax.specs.FreeNames.{has_name}
use Rattle.nb_syntax.proofs.free_expr.has_name.Given as goal

abbrev pub invariant-loop-known : goal.invariant-loop-known
invariant-loop-known l = has_name l.name (drop l.known-index l.names) ≡ has_name l.name l.names
