use Rattle.std.proofs.Common.{◌≡◌, ◌+◌, drop, nat_eq}
use Rattle.std.specs.List.{position_or_len}
use Rattle.nb_lines.proofs.lines.line_end.Given as goal

abbrev pub invariant-loop-i : goal.invariant-loop-i
invariant-loop-i l = position_or_len (λ b. nat_eq b 10) l.bytes ≡ l.i + position_or_len (λ b. nat_eq b 10) (drop l.i l.bytes)
