use Rattle.std.proofs.Common.{◌≡◌, drop}
use Rattle.nb_sheet.specs.Derive.{add_modules, copied_of}
use Rattle.nb_doc.proofs.walk.go_through.Given as goal

abbrev pub invariant-loop-row : goal.invariant-loop-row
invariant-loop-row l = add_modules l.marks l.list.items (copied_of l.within l.specifiers (drop l.row-index l.rows) l.k) ≡ add_modules l.marks l.fn.list.items (copied_of l.within l.specifiers l.rows l.k)
