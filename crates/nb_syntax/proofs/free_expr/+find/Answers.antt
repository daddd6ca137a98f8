use Rattle.std.proofs.Common.{rules, arith, sym, ◌∙◌}
use Rattle.nb_syntax.specs.FreeNames.{occurrences, step_occurrences, member_occurrences, operand_occurrences}
use Rattle.nb_syntax.proofs.FreeLemmas.{found_append, of_path, of_operator, of_compare, of_choose, of_member, of_operand, next_part}
use Rattle.nb_syntax.proofs.free_expr.+find.Goals as goal

pub find_expr-returns-in_ok-find_expr-in-Path : goal.find_expr-returns-in_ok-find_expr-in-Path
find_expr-returns-in_ok-find_expr-in-Path t c = rw (c.in-Path.is, of_path, found_append) (search rules)

pub find_expr-returns-in_ok-find_expr-in-Product : goal.find_expr-returns-in_ok-find_expr-in-Product
find_expr-returns-in_ok-find_expr-in-Product t c = rw (of_operator _ _ _ c.in-Product.is, found_append) (search rules)

pub find_expr-returns-in_ok-find_expr-in-Compare : goal.find_expr-returns-in_ok-find_expr-in-Compare
find_expr-returns-in_ok-find_expr-in-Compare t c = rw (c.in-Compare.is, of_compare, found_append) (search rules)

pub find_expr-returns-in_ok-find_expr-in-Choose-2 : goal.find_expr-returns-in_ok-find_expr-in-Choose-2
find_expr-returns-in_ok-find_expr-in-Choose-2 t c = rw (c.in-Choose.is, of_choose, found_append, found_append) (search rules)

pub find_exprs-loop-expr-preserved : goal.find_exprs-loop-expr-preserved
find_exprs-loop-expr-preserved t c =
    let next = next_part occurrences c.args.scope.now c.loop-expr.names c.as_slice-expr-items.result.now c.loop-expr.expr-index c.expr-item.result (omega arith) c.expr-item.is in
    rw c.in_ok-find_expr.ensures (sym next ∙ c.loop-expr.invariant)

pub find_members-loop-member-preserved : goal.find_members-loop-member-preserved
find_members-loop-member-preserved t c =
    let next = next_part member_occurrences c.args.scope.now c.loop-member.names c.as_slice-member-items.result.now c.loop-member.member-index c.member-item.result (omega arith) c.member-item.is in
    rw (c.in_ok-find_expr.ensures, ← of_member c.member-item.result) (sym next ∙ c.loop-member.invariant)

pub find_operands-loop-operand-preserved : goal.find_operands-loop-operand-preserved
find_operands-loop-operand-preserved t c =
    let next = next_part operand_occurrences c.args.scope.now c.loop-operand.names c.as_slice-operand-items.result.now c.loop-operand.operand-index c.operand-item.result (omega arith) c.operand-item.is in
    rw (c.in_ok-find_expr.ensures, ← of_operand c.operand-item.result) (sym next ∙ c.loop-operand.invariant)

pub find_steps-loop-step-preserved : goal.find_steps-loop-step-preserved
find_steps-loop-step-preserved t c =
    let next = next_part step_occurrences c.args.scope.now c.loop-step.names c.as_slice-step-items.result.now c.loop-step.step-index c.step-item.result (omega arith) c.step-item.is in
    rw c.in_ok-find_step.ensures (sym next ∙ c.loop-step.invariant)
