-- `keys`, `values` and `has`: the fields of a record, in the order of their names.
use Rattle.std.specs.Prelude.{map, is_some, Ok}
use Rattle.nb_value.specs.declared.value.Value.{Value, out-Value}
use Rattle.nb_value.specs.declared.value.Value.TheOpen.{Value-F}
use Rattle.nb_value.specs.declared.value.Value.TheVariants as V
use Rattle.nb_value.specs.declared.pairs.Field.{Field}
use Rattle.nb_value.specs.declared.function.Function.TheVariants.{Keys, Values, Has}
use Rattle.nb_value.specs.Fields.{value_at}
use Rattle.nb_builtins.specs.Calls.{Called, wrong_kind}

abbrev pub name_of : Field Value → Value
name_of f = V.Text f.name

abbrev pub keys_in : Value-F Value → Called Value
keys_in (Value-F.Rec fs) = Ok (V.List (map name_of fs))
keys_in _ = wrong_kind Keys

abbrev pub keys_of : Value → Called Value
keys_of v = keys_in (out-Value v)

abbrev pub value_in : Field Value → Value
value_in f = f.value

abbrev pub values_in : Value-F Value → Called Value
values_in (Value-F.Rec fs) = Ok (V.List (map value_in fs))
values_in _ = wrong_kind Values

abbrev pub values_of : Value → Called Value
values_of v = values_in (out-Value v)

abbrev pub has_in : Value-F Value → Value-F Value → Called Value
has_in (Value-F.Rec fs) (Value-F.Text name) = Ok (V.Bool (is_some (value_at name fs)))
has_in _ _ = wrong_kind Has

abbrev pub has_of : Value → Value → Called Value
has_of v name = has_in (out-Value v) (out-Value name)
