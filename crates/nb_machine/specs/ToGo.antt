-- How far a machine is from its ending.
use Rattle.std.specs.Prelude.{ℕ, Option, Some, None}
use Rattle.nb_machine.specs.declared.ended.Ended.{Ended}
use Rattle.nb_machine.specs.declared.machine.Machine.{Machine}
use Rattle.nb_machine.specs.Standing.{left_of}

abbrev pub left_unless : Option Ended → ℕ → ℕ
left_unless None n = n
left_unless (Some x) n = 0

-- the number of instructions that are left, of a machine that hasn't ended
abbrev pub to_go : Machine → ℕ
to_go m = left_unless m.ended (left_of m.standing)
