use Rattle.std.proofs.Common.{◌≡◌, map, take}
use Rattle.nb_builtins.specs.Records.{value_in}
use Rattle.nb_builtins.proofs.records.copies.Given as goal

abbrev pub invariant-loop-field : goal.invariant-loop-field
invariant-loop-field l = l.items ≡ map value_in (take l.field-index l.fields)
