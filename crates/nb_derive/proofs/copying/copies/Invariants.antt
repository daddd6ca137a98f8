use Rattle.std.proofs.Common.{◌≡◌, map, take}
use Rattle.nb_sheet.specs.Derive.{module_copy}
use Rattle.nb_derive.proofs.copying.copies.Given as goal

abbrev pub invariant-loop-k : goal.invariant-loop-k
invariant-loop-k l = l.modules.items ≡ map (module_copy l.plan.next l.plan.rows.now l.plan.within l.plan.specifiers.now l.plan.source l.plan.copied.now) (take l.k-index l.plan.copied.now)
