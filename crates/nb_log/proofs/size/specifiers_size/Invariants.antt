use Rattle.std.proofs.Common.{◌≡◌, ◌-◌, ◌^◌, ◌+◌, min, sum_by, take}
use Rattle.nb_sheet.specs.declared.edit.Specifier.{Specifier}
use Rattle.nb_value.specs.Value.{size}
use Rattle.nb_log.specs.Printing.{specifier_object}
use Rattle.nb_log.proofs.size.specifiers_size.Given as goal

abbrev pub invariant-loop-specifier : goal.invariant-loop-specifier
invariant-loop-specifier l = l.sum ≡ min (1 + sum_by (λ (s : Specifier). size (specifier_object s)) (take l.specifier-index l.specifiers)) (2 ^ 64 - 1)
