use Rattle.std.proofs.Common.{◌≡◌, take}
use Rattle.nb_sheet.specs.Scan.{one_in}
use Rattle.nb_sheet.proofs.names.the_one.Given as goal

-- what was found so far
abbrev pub invariant-loop-i : goal.invariant-loop-i
invariant-loop-i l = l.found ≡ one_in l.within l.name (take l.i l.rows)
