use Rattle.std.proofs.Common.{◌≡◌, ◌+◌, drop}
use Rattle.nb_sheet.specs.Derive.{copy_of}
use Rattle.nb_doc.proofs.count.copy_of.Given as goal

abbrev pub invariant-loop-i : goal.invariant-loop-i
invariant-loop-i l = copy_of (l.next + l.i) (drop l.i l.copied) l.k ≡ copy_of l.next l.copied l.k
