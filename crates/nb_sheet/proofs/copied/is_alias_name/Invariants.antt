use Rattle.std.proofs.Common.{◌≡◌, drop, Some}
use Rattle.nb_sheet.specs.Derive.{is_alias}
use Rattle.nb_sheet.proofs.copied.is_alias_name.Given as goal

abbrev pub invariant-loop-s : goal.invariant-loop-s
invariant-loop-s l = is_alias (drop l.s-index l.specifiers) (Some l.name) ≡ is_alias l.specifiers (Some l.name)
