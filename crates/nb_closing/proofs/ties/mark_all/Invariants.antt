use Rattle.std.proofs.Common.{◌≡◌}
use Rattle.nb_closing.specs.Ties.{ties_of}
use Rattle.nb_closing.specs.Tables.{all_unmarked}
use Rattle.nb_closing.proofs.Tables.{partly}
use Rattle.nb_closing.proofs.ties.mark_all.Given as goal

abbrev pub invariant-loop-i : goal.invariant-loop-i
invariant-loop-i l = l.ties ≡ partly (ties_of l.sheet.sheet) l.i (all_unmarked l.sheet.sheet)
