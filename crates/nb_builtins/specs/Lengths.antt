-- `len`: the characters of a text, the items of a list, the fields of a record.
use Rattle.std.specs.Prelude.{ℕ, pos, length, chars, Ok}
use Rattle.nb_value.specs.declared.value.Value.{Value, out-Value}
use Rattle.nb_value.specs.declared.value.Value.TheOpen.{Value-F}
use Rattle.nb_value.specs.declared.value.Value.TheVariants as V
use Rattle.nb_value.specs.declared.function.Function.TheVariants.{Len}
use Rattle.nb_builtins.specs.Calls.{Called, wrong_kind}

abbrev pub count : ℕ → Called Value
count n = Ok (V.Int (pos n))

abbrev pub len_in : Value-F Value → Called Value
len_in (Value-F.Text t) = count (length (chars t))
len_in (Value-F.List vs) = count (length vs)
len_in (Value-F.Rec fs) = count (length fs)
len_in _ = wrong_kind Len

abbrev pub len : Value → Called Value
len v = len_in (out-Value v)
