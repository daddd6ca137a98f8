-- What stands before this place is plain.
use Rattle.std.proofs.Common.{◌≡◌, map, drop}
use Rattle.nb_syntax.specs.Plain.{all_plain, expr_plain, member_plain, path_step_plain, operand_plain}
use Rattle.nb_syntax.proofs.plain.+plain.Given as goal

abbrev pub invariant-exprs_plain-loop-expr : goal.invariant-exprs_plain-loop-expr
invariant-exprs_plain-loop-expr l = all_plain (map expr_plain (drop l.expr-index l.expr-items)) ≡ all_plain (map expr_plain l.expr-items)

abbrev pub invariant-members_plain-loop-member : goal.invariant-members_plain-loop-member
invariant-members_plain-loop-member l = all_plain (map member_plain (drop l.member-index l.member-items)) ≡ all_plain (map member_plain l.member-items)

abbrev pub invariant-steps_plain-loop-step : goal.invariant-steps_plain-loop-step
invariant-steps_plain-loop-step l = all_plain (map path_step_plain (drop l.step-index l.step-items)) ≡ all_plain (map path_step_plain l.step-items)

abbrev pub invariant-operands_plain-loop-operand : goal.invariant-operands_plain-loop-operand
invariant-operands_plain-loop-operand l = all_plain (map operand_plain (drop l.operand-index l.operand-items)) ≡ all_plain (map operand_plain l.operand-items)
