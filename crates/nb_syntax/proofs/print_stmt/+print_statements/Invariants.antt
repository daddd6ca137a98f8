-- What is written, with what is left, is the whole.
use Rattle.std.proofs.Common.{◌≡◌, ◌++◌, map, drop}
use Rattle.std.specs.Prelude.{codes}
use Rattle.nb_syntax.specs.Print.{each_after, separated, stmt_text, arm_text}
use Rattle.nb_syntax.proofs.Places.{from_place}
use Rattle.nb_syntax.proofs.print_stmt.+print_statements.Given as goal

abbrev pub invariant-push_block-loop-stmt : goal.invariant-push_block-loop-stmt
invariant-push_block-loop-stmt l =
    l.out ++ each_after (codes " ") (map stmt_text (drop l.stmt-index l.stmt-items))
    ≡ (l.fn.out ++ codes "{") ++ each_after (codes " ") (map stmt_text l.stmt-items)

abbrev pub invariant-push_arms-loop-place : goal.invariant-push_arms-loop-place
invariant-push_arms-loop-place l =
    l.out ++ from_place l.place (codes " else ") (map arm_text (drop l.place l.arm-items))
    ≡ l.fn.out ++ separated (codes " else ") (map arm_text l.arm-items)
