-- What stands before this place yields nothing.
use Rattle.std.proofs.Common.{◌≡◌, map, drop}
use Rattle.nb_syntax.specs.Generator.{some_yield, stmt_yields, arm_yields}
use Rattle.nb_syntax.proofs.generator.+yields.Given as goal

abbrev pub invariant-block_yields-loop-stmt : goal.invariant-block_yields-loop-stmt
invariant-block_yields-loop-stmt l = some_yield (map stmt_yields (drop l.stmt-index l.stmt-items)) ≡ some_yield (map stmt_yields l.stmt-items)

abbrev pub invariant-arms_yield-loop-arm : goal.invariant-arms_yield-loop-arm
invariant-arms_yield-loop-arm l = some_yield (map arm_yields (drop l.arm-index l.arm-items)) ≡ some_yield (map arm_yields l.arm-items)
