-- What was counted, with what is left, is the whole.
use Rattle.std.proofs.Common.{◌≡◌, ◌≤◌, ◌+◌, ◌-◌, ◌^◌, min, length, map, drop}
use Rattle.std.specs.Prelude.{codes}
use Rattle.nb_syntax.specs.Print.{each_after, separated, stmt_text, arm_text}
use Rattle.nb_syntax.proofs.Places.{from_place}
use Rattle.nb_syntax.proofs.length_stmt.+length_statements.Given as goal

abbrev pub invariant-block_len-loop-stmt : goal.invariant-block_len-loop-stmt
invariant-block_len-loop-stmt l =
    (l.total ≤ 2 ^ 64 - 1)
    × (min (l.total + length (each_after (codes " ") (map stmt_text (drop l.stmt-index l.stmt-items)))) (2 ^ 64 - 1)
    ≡ min (3 + length (each_after (codes " ") (map stmt_text l.stmt-items))) (2 ^ 64 - 1))

abbrev pub invariant-arms_len-loop-place : goal.invariant-arms_len-loop-place
invariant-arms_len-loop-place l =
    (l.total ≤ 2 ^ 64 - 1)
    × (min (l.total + length (from_place l.place (codes " else ") (map arm_text (drop l.place l.arm-items)))) (2 ^ 64 - 1)
    ≡ min (length (separated (codes " else ") (map arm_text l.arm-items))) (2 ^ 64 - 1))
