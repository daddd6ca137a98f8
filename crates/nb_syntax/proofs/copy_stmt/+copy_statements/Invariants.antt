-- What was copied is the first of what is to be copied.
use Rattle.std.proofs.Common.{◌≡◌, take}
use Rattle.nb_syntax.proofs.copy_stmt.+copy_statements.Given as goal

abbrev pub invariant-copy_stmts-loop-stmt : goal.invariant-copy_stmts-loop-stmt
invariant-copy_stmts-loop-stmt l = l.copies ≡ take l.stmt-index l.stmt-items

abbrev pub invariant-copy_arms-loop-arm : goal.invariant-copy_arms-loop-arm
invariant-copy_arms-loop-arm l = l.copies ≡ take l.arm-index l.arm-items
