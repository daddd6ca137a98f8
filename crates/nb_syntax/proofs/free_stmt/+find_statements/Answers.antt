use Rattle.std.proofs.Common.{rules, arith, sym, ◌∙◌}
use Rattle.nb_syntax.specs.FreeNames.{occurrences, arm_uses, block_uses}
use Rattle.nb_syntax.proofs.FreeLemmas.{found_append, without_inner, of_else, of_while, of_for, of_arm, of_block, next_part, next_stmt, no_more_stmts, still_begins}
use Rattle.nb_syntax.proofs.free_stmt.+find_statements.Goals as goal

pub find_stmt-returns-in_ok-find_expr-in-While-clause-names : goal.find_stmt-returns-in_ok-find_expr-in-While-clause-names
find_stmt-returns-in_ok-find_expr-in-While-clause-names t c = rw (c.in-While.is, of_while, found_append) (search rules)

pub find_stmt-returns-in_ok-find_expr-in-For-clause-names : goal.find_stmt-returns-in_ok-find_expr-in-For-clause-names
find_stmt-returns-in_ok-find_expr-in-For-clause-names t c = rw (c.in-For.is, of_for, found_append) (search rules)

pub find_for_body-returns-clause-names : goal.find_for_body-returns-clause-names
find_for_body-returns-clause-names t c = rw without_inner (search rules)

pub find_block-returns-clause-names : goal.find_block-returns-clause-names
find_block-returns-clause-names t c =
    let ended = no_more_stmts c.loop-stmt.scope c.loop-stmt.names c.as_slice-stmt-items.result.now c.loop-stmt.stmt-index (omega arith) in
    rw (of_block, ← c.as_slice-stmt-items.ensures) (sym ended ∙ c.loop-stmt.invariant.names)

pub find_block-loop-stmt-preserved : goal.find_block-loop-stmt-preserved
find_block-loop-stmt-preserved t c =
    let next = next_stmt c.loop-stmt.scope c.loop-stmt.names c.as_slice-stmt-items.result.now c.loop-stmt.stmt-index c.stmt-item.result (omega arith) c.stmt-item.is in
    record {
      names = rw (c.in_ok-find_stmt.ensures.names, c.in_ok-find_stmt.ensures.scope) (sym next ∙ c.loop-stmt.invariant.names);
      scope = rw c.in_ok-find_stmt.ensures.scope (still_begins _ _ _ c.loop-stmt.invariant.scope);
    }

pub find_arms-loop-arm-preserved : goal.find_arms-loop-arm-preserved
find_arms-loop-arm-preserved t c =
    let next = next_part arm_uses c.args.scope.now c.loop-arm.names c.as_slice-arm-items.result.now c.loop-arm.arm-index c.arm-item.result (omega arith) c.arm-item.is in
    let parts = of_arm c.arm-item.result in
    let found = found_append c.args.scope.now c.loop-arm.names (occurrences c.arm-item.result.test) (block_uses c.arm-item.result.body) in
    record {
      names = rw (c.in_ok-find_block.ensures.names, c.in_ok-find_expr.ensures, c.loop-arm.invariant.scope, ← found, ← parts) (sym next ∙ c.loop-arm.invariant.names);
      scope = c.in_ok-find_block.ensures.scope ∙ c.loop-arm.invariant.scope;
    }

pub find_stmt-returns-in-Some-clause-names : goal.find_stmt-returns-in-Some-clause-names
find_stmt-returns-in-Some-clause-names t c = rw (c.in-If.is, c.in-Some.is, of_else, found_append) (search rules)
