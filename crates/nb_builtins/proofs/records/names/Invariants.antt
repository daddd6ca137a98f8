use Rattle.std.proofs.Common.{◌≡◌, map, take}
use Rattle.nb_builtins.specs.Records.{name_of}
use Rattle.nb_builtins.proofs.records.names.Given as goal

abbrev pub invariant-loop-field : goal.invariant-loop-field
invariant-loop-field l = l.items ≡ map name_of (take l.field-index l.fields)
