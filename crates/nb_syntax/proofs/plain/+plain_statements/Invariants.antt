-- What stands before this place is plain.
use Rattle.std.proofs.Common.{◌≡◌, map, drop}
use Rattle.nb_syntax.specs.Plain.{all_plain, stmt_plain, arm_plain}
use Rattle.nb_syntax.proofs.plain.+plain_statements.Given as goal

abbrev pub invariant-block_plain-loop-stmt : goal.invariant-block_plain-loop-stmt
invariant-block_plain-loop-stmt l = all_plain (map stmt_plain (drop l.stmt-index l.stmt-items)) ≡ all_plain (map stmt_plain l.stmt-items)

abbrev pub invariant-arms_plain-loop-arm : goal.invariant-arms_plain-loop-arm
invariant-arms_plain-loop-arm l = all_plain (map arm_plain (drop l.arm-index l.arm-items)) ≡ all_plain (map arm_plain l.arm-items)
