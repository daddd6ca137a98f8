use Rattle.std.proofs.Common.{◌≡◌, drop, length}
use Rattle.nb_sheet.specs.Derive.{AreModules, add_modules, copied_of}
use Rattle.nb_sheet.proofs.copied.go_through.Given as goal

abbrev pub invariant-loop-row : goal.invariant-loop-row
invariant-loop-row l =
    record {
      value : add_modules l.sheet.sheet.modules l.list (copied_of l.within l.specifiers (drop l.row-index l.sheet.sheet.rows) l.k) ≡ add_modules l.sheet.sheet.modules l.fn.list (copied_of l.within l.specifiers l.sheet.sheet.rows l.k);
      kept : AreModules (length l.sheet.sheet.modules) l.list;
    }
