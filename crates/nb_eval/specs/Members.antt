-- The fields of a map of names.
use Rattle.std.specs.Prelude.{List, String, string_bytes, map}
use Rattle.std.specs.Global.{Global}
use Rattle.nb_value.specs.declared.pairs.Field.{Field}
use Rattle.nb_value.specs.declared.value.Value.{Value}

abbrev pub member_of : String Global × Value → Field Value
member_of e = record { name = string_bytes e.0; value = e.1 }

abbrev pub members_of : List (String Global × Value) → List (Field Value)
members_of es = map member_of es
