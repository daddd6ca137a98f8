use Rattle.std.proofs.Common.{◌≡◌, drop}
use Rattle.std.specs.List.{position_from}
use Rattle.std.specs.Str.{bytes_eq}
use Rattle.nb_value.specs.declared.value.Value.{Value}
use Rattle.nb_value.specs.declared.pairs.Field.{Field}
use Rattle.nb_resolve.specs.Scan.{builtin_place}
use Rattle.nb_closing.proofs.names.builtin.Given as goal

-- not found so far
abbrev pub invariant-loop-i : goal.invariant-loop-i
invariant-loop-i l = position_from (λ (b : Field Value). bytes_eq b.name l.name) l.i (drop l.i l.builtins) ≡ builtin_place l.name l.builtins
