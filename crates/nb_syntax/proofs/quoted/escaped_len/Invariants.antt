-- What was counted, with what is left, is the whole.
use Rattle.std.proofs.Common.{◌≡◌, ◌≤◌, ◌+◌, ◌-◌, ◌^◌, min, length, drop}
use Rattle.nb_syntax.specs.Print.{escaped}
use Rattle.nb_syntax.proofs.quoted.escaped_len.Given as goal

abbrev pub invariant-loop-byte : goal.invariant-loop-byte
invariant-loop-byte l =
    (l.total ≤ 2 ^ 64 - 1) × (min (l.total + length (escaped (drop l.byte-index l.bytes))) (2 ^ 64 - 1) ≡ min (length (escaped l.bytes)) (2 ^ 64 - 1))
