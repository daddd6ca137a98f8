-- What was counted, with what is left, is the whole.
use Rattle.std.proofs.Common.{◌≡◌, ◌≤◌, ◌+◌, ◌-◌, ◌^◌, min, length, map, drop}
use Rattle.std.specs.Prelude.{codes}
use Rattle.nb_syntax.specs.Print.{bare, placed, operand, operands_text, separated, member_text, path_step_text, steps_text}
use Rattle.nb_syntax.proofs.Places.{from_place}
use Rattle.nb_syntax.proofs.length_expr.+length.Given as goal

abbrev pub invariant-parts_len-loop-place : goal.invariant-parts_len-loop-place
invariant-parts_len-loop-place l =
    (l.total ≤ 2 ^ 64 - 1)
    × (min (l.total + length (from_place l.place l.separator (map (λ p. placed p l.asked) (map bare (drop l.place l.part-items))))) (2 ^ 64 - 1)
    ≡ min (length (separated l.separator (map (λ p. placed p l.asked) (map bare l.part-items)))) (2 ^ 64 - 1))

abbrev pub invariant-members_len-loop-place : goal.invariant-members_len-loop-place
invariant-members_len-loop-place l =
    (l.total ≤ 2 ^ 64 - 1)
    × (min (l.total + length (from_place l.place (codes ", ") (map member_text (drop l.place l.member-items)))) (2 ^ 64 - 1)
    ≡ min (length (separated (codes ", ") (map member_text l.member-items))) (2 ^ 64 - 1))

abbrev pub invariant-steps_len-loop-step : goal.invariant-steps_len-loop-step
invariant-steps_len-loop-step l =
    (l.total ≤ 2 ^ 64 - 1)
    × (min (l.total + length (steps_text (map path_step_text (drop l.step-index l.step-items)))) (2 ^ 64 - 1)
    ≡ min (length (steps_text (map path_step_text l.step-items))) (2 ^ 64 - 1))

abbrev pub invariant-operands_len-loop-operand : goal.invariant-operands_len-loop-operand
invariant-operands_len-loop-operand l =
    (l.total ≤ 2 ^ 64 - 1)
    × (min (l.total + length (operands_text l.asked (map operand (drop l.operand-index l.operand-items)))) (2 ^ 64 - 1)
    ≡ min (length (operands_text l.asked (map operand l.operand-items))) (2 ^ 64 - 1))
