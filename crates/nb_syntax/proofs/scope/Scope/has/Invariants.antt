-- The name is no earlier one.
use Rattle.std.proofs.Common.{◌≡◌, drop, map}
use Rattle.nb_syntax.specs.FreeNames.{has_name}
use Rattle.nb_syntax.proofs.scope.Scope.has.Given as goal

abbrev pub invariant-loop-known : goal.invariant-loop-known
invariant-loop-known l = has_name l.name (map (λ t. t.now) (drop l.known-index l.known-items)) ≡ has_name l.name (map (λ t. t.now) l.known-items)
