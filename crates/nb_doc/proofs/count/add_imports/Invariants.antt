use Rattle.std.proofs.Common.{◌≡◌, ◌++◌, map, drop}
use Rattle.nb_sheet.specs.Derive.{new_row, import_of}
use Rattle.nb_doc.proofs.count.add_imports.Given as goal

abbrev pub invariant-loop-s : goal.invariant-loop-s
invariant-loop-s l = l.rows.items ++ map (new_row l.number 0) (map (import_of l.source) (drop l.s-index l.specifiers)) ≡ l.fn.rows.items ++ map (new_row l.number 0) (map (import_of l.source) l.specifiers)
