use Rattle.std.proofs.Common.{◌≡◌, map}
use Rattle.std.specs.List.{range_with_len}
use Rattle.nb_closing.specs.Tables.{unmarked_ties}
use Rattle.nb_closing.proofs.ties.each_unmarked.Given as goal

abbrev pub invariant-loop-i : goal.invariant-loop-i
invariant-loop-i l = l.ties.items ≡ map (unmarked_ties l.sheet.sheet) (range_with_len 1 l.i)
