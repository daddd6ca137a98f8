use Rattle.std.proofs.Common.{◌∙◌, sym, ap, subst, length, arith, ◌<◌}
use Rattle.nb_sheet.specs.Derive.{AreModules, has_number}
use Rattle.nb_sheet.proofs.Walk.{modules_push, modules_few}
use Rattle.nb_sheet.proofs.copied.add_module.Goals as goal

pub push-requires : goal.push-requires
push-requires c =
    let n = length c.args.sheet.now.sheet.modules in
    let less : c.in-Some-Import.from < n = omega (arith, c.if-from-modules.true, c.modules.ensures.value) in
    modules_few n c.in-Some-Import.from c.args.list.now c.requires less (sym (ap (has_number c.in-Some-Import.from) c.as_slice.ensures.value) ∙ sym c.has.ensures ∙ c.if-not-has.true) (omega (arith, c.modules.ensures.value, c.modules.ensures.few))

pub returns-then-not-has-clause-kept : goal.returns-then-not-has-clause-kept
returns-then-not-has-clause-kept c =
    let n = length c.args.sheet.now.sheet.modules in
    let less : c.in-Some-Import.from < n = omega (arith, c.if-from-modules.true, c.modules.ensures.value) in
    subst (AreModules n) (sym c.push.ensures)
    (modules_push n c.in-Some-Import.from c.args.list.now c.requires less (sym (ap (has_number c.in-Some-Import.from) c.as_slice.ensures.value) ∙ sym c.has.ensures ∙ c.if-not-has.true))
