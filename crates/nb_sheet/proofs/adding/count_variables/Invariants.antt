use Rattle.std.proofs.Common.{◌≡◌, ◌+◌, drop}
use Rattle.nb_sheet.specs.Derive.{variables_of}
use Rattle.nb_sheet.proofs.adding.count_variables.Given as goal

abbrev pub invariant-loop-copy : goal.invariant-loop-copy
invariant-loop-copy l = l.count + variables_of (drop l.copy-index l.copies) ≡ variables_of l.copies
