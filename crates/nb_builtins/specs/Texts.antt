-- `text`: a text itself, and another value's JSON.
use Rattle.std.specs.Prelude.{ℕ, List, Ok}
use Rattle.nb_value.specs.declared.value.Value.{Value, out-Value}
use Rattle.nb_value.specs.declared.value.Value.TheOpen.{Value-F}
use Rattle.nb_value.specs.declared.value.Value.TheVariants as V
use Rattle.nb_value.specs.Json.{json_text}
use Rattle.nb_builtins.specs.Calls.{Called}

abbrev pub own_text : Value-F Value → List ℕ → List ℕ
own_text (Value-F.Text t) json = t
own_text _ json = json

-- the text of a value
abbrev pub text_of : Value → List ℕ
text_of v = own_text (out-Value v) (json_text v)

abbrev pub as_text : Value → Called Value
as_text v = Ok (V.Text (text_of v))
