use Rattle.std.proofs.Common.{◌≡◌, false, take}
use Rattle.std.specs.List.{list_any}
use Rattle.nb_wave.specs.Marks.{marked}
use Rattle.nb_wave.proofs.due.any_marked.Given as goal

abbrev pub invariant-loop-u : goal.invariant-loop-u
invariant-loop-u l = list_any (marked l.marks) (take l.u-index l.vars) ≡ false
