use Rattle.std.proofs.Common.{◌≡◌, map, take}
use Rattle.nb_sheet.specs.Derive.{import_of}
use Rattle.nb_derive.proofs.copying.imports.Given as goal

abbrev pub invariant-loop-s : goal.invariant-loop-s
invariant-loop-s l = l.vars.items ≡ map (import_of l.source) (take l.s-index l.specifiers)
