-- What is written, with what is left, is the whole.
use Rattle.std.proofs.Common.{◌≡◌, ◌++◌, map, drop}
use Rattle.std.specs.Prelude.{codes}
use Rattle.nb_syntax.specs.Print.{bare, placed, operand, operands_text, separated, member_text, path_step_text, steps_text}
use Rattle.nb_syntax.proofs.Places.{from_place}
use Rattle.nb_syntax.proofs.print_expr.+print.Given as goal

abbrev pub invariant-push_parts-loop-place : goal.invariant-push_parts-loop-place
invariant-push_parts-loop-place l =
    l.out ++ from_place l.place l.separator (map (λ p. placed p l.asked) (map bare (drop l.place l.part-items)))
    ≡ l.fn.out ++ separated l.separator (map (λ p. placed p l.asked) (map bare l.part-items))

abbrev pub invariant-push_record-loop-place : goal.invariant-push_record-loop-place
invariant-push_record-loop-place l =
    l.out ++ from_place l.place (codes ", ") (map member_text (drop l.place l.member-items))
    ≡ (l.fn.out ++ codes "{") ++ separated (codes ", ") (map member_text l.member-items)

abbrev pub invariant-push_steps-loop-step : goal.invariant-push_steps-loop-step
invariant-push_steps-loop-step l =
    l.out ++ steps_text (map path_step_text (drop l.step-index l.step-items)) ≡ l.fn.out ++ steps_text (map path_step_text l.step-items)

abbrev pub invariant-push_operands-loop-operand : goal.invariant-push_operands-loop-operand
invariant-push_operands-loop-operand l =
    l.out ++ operands_text l.asked (map operand (drop l.operand-index l.operand-items)) ≡ l.fn.out ++ operands_text l.asked (map operand l.operand-items)
