-- What is written, with the numbers that are left, is the whole.
use Rattle.std.proofs.Common.{◌≡◌, ◌++◌, drop}
use Rattle.nb_print.specs.Summary.{numbers_text}
use Rattle.nb_print.proofs.summary.push_numbers.Given as goal

abbrev pub invariant-loop-number : goal.invariant-loop-number
invariant-loop-number l = l.out ++ numbers_text (drop l.number-index l.numbers) ≡ l.fn.out ++ numbers_text l.numbers
