-- What is found, with what is left, is the whole.
use Rattle.std.proofs.Common.{◌≡◌, map, drop}
use Rattle.nb_syntax.specs.FreeNames.{first_occurrences, without, joined, occurrences, member_occurrences, step_occurrences, operand_occurrences}
use Rattle.nb_syntax.proofs.free_expr.+find.Given as goal

abbrev pub invariant-find_exprs-loop-expr : goal.invariant-find_exprs-loop-expr
invariant-find_exprs-loop-expr l =
    first_occurrences l.names (without l.scope (joined (map occurrences (drop l.expr-index l.expr-items))))
    ≡ first_occurrences l.fn.names (without l.scope (joined (map occurrences l.expr-items)))

abbrev pub invariant-find_members-loop-member : goal.invariant-find_members-loop-member
invariant-find_members-loop-member l =
    first_occurrences l.names (without l.scope (joined (map member_occurrences (drop l.member-index l.member-items))))
    ≡ first_occurrences l.fn.names (without l.scope (joined (map member_occurrences l.member-items)))

abbrev pub invariant-find_steps-loop-step : goal.invariant-find_steps-loop-step
invariant-find_steps-loop-step l =
    first_occurrences l.names (without l.scope (joined (map step_occurrences (drop l.step-index l.step-items))))
    ≡ first_occurrences l.fn.names (without l.scope (joined (map step_occurrences l.step-items)))

abbrev pub invariant-find_operands-loop-operand : goal.invariant-find_operands-loop-operand
invariant-find_operands-loop-operand l =
    first_occurrences l.names (without l.scope (joined (map operand_occurrences (drop l.operand-index l.operand-items))))
    ≡ first_occurrences l.fn.names (without l.scope (joined (map operand_occurrences l.operand-items)))
