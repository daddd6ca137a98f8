-- What stands in front is the code of the last parts.
use Rattle.std.proofs.Common.{◌≡◌, ◌∷◌, ◌++◌, [], map, take, drop}
use Rattle.nb_machine.specs.declared.instr.Instr.TheVariants as i
use Rattle.nb_machine.specs.Code.{stmt_code, arm_code, in_order, arms_code}
use Rattle.nb_machine.proofs.compile_stmt.+compile_statements.Given as goal

abbrev pub invariant-compile_block-loop-i : goal.invariant-compile_block-loop-i
invariant-compile_block-loop-i l = l.code ≡ in_order (map stmt_code (drop l.i l.stmts)) ++ i.Leave ∷ l.fn.code

abbrev pub invariant-compile_arms-loop-i : goal.invariant-compile_arms-loop-i
invariant-compile_arms-loop-i l = l.code ≡ arms_code (map arm_code (drop l.i l.arms)) (take l.others l.fn.code) ++ drop l.others l.fn.code
