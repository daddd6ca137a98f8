use Rattle.std.proofs.Common.{◌≡◌, ◌-◌, length}
use Rattle.nb_sheet.specs.Derive.{walk, copied_of, copied_modules}
use Rattle.nb_doc.proofs.walk.copied_modules.Given as goal

abbrev pub invariant-loop-place : goal.invariant-loop-place
invariant-loop-place l = walk l.marks (copied_of l.within l.specifiers l.rows) (length l.marks - l.place) l.place l.list.items ≡ copied_modules l.marks l.rows l.within l.specifiers
