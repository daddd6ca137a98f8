use Rattle.std.proofs.Common.{◌≡◌, ◌-◌, length}
use Rattle.nb_sheet.specs.Derive.{AreModules, walk, copied_of, copied_modules}
use Rattle.nb_sheet.proofs.copied.copied_modules.Given as goal

abbrev pub invariant-loop-place : goal.invariant-loop-place
invariant-loop-place l =
    record {
      value : walk l.sheet.sheet.modules (copied_of l.within l.specifiers l.sheet.sheet.rows) (length l.sheet.sheet.modules - l.place) l.place l.list ≡ copied_modules l.sheet.sheet.modules l.sheet.sheet.rows l.within l.specifiers;
      kept : AreModules (length l.sheet.sheet.modules) l.list;
    }
