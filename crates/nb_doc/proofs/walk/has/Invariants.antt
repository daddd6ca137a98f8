use Rattle.std.proofs.Common.{◌≡◌, drop}
use Rattle.nb_sheet.specs.Derive.{has_number}
use Rattle.nb_doc.proofs.walk.has.Given as goal

abbrev pub invariant-loop-n : goal.invariant-loop-n
invariant-loop-n l = has_number l.k (drop l.n-index l.list) ≡ has_number l.k l.list
