use Rattle.std.proofs.Common.{◌≡◌, [], drop}
use Rattle.nb_sheet.specs.Sheet.{empty_sheet}
use Rattle.nb_doc.specs.Numbers.{places_from, sheet_in}
use Rattle.nb_doc.proofs.count.places_of.Given as goal

abbrev pub invariant-loop-module : goal.invariant-loop-module
invariant-loop-module l = places_from (sheet_in l.sheet) l.places.items (drop l.module-index l.modules) ≡ places_from (empty_sheet []) [] l.modules
