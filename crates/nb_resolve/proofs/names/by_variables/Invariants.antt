use Rattle.std.proofs.Common.{◌≡◌, take}
use Rattle.nb_resolve.specs.Scan.{found_in}
use Rattle.nb_resolve.proofs.names.by_variables.Given as goal

-- what was found so far
abbrev pub invariant-loop-i : goal.invariant-loop-i
invariant-loop-i l = l.found ≡ found_in l.within l.name (take l.i l.rows)
