-- The pieces of a line, from its front to its end.
use Rattle.std.specs.Prelude.{ℕ, List, [], ◌∷◌, ◌++◌}
use Rattle.nb_value.specs.declared.value.Value.{Value}
use Rattle.nb_value.specs.declared.value.Value.TheVariants as V
use Rattle.nb_value.specs.declared.pairs.Field.{Field}
use Rattle.nb_value.specs.Json.{json_text}

-- each value behind a comma
abbrev pub items_after : List Value → List ℕ
items_after [] = []
items_after (v ∷ vs) = 44 ∷ (json_text v ++ items_after vs)

-- an array with these items that is not closed
abbrev pub open_array : Value → List Value → List ℕ
open_array v vs = 91 ∷ (json_text v ++ items_after vs)

-- a name, a colon and a value
abbrev pub field_text : Field Value → List ℕ
field_text f = json_text (V.Text f.name) ++ 58 ∷ json_text f.value

-- each field behind a comma, and the end of the object
abbrev pub closed_fields : List (Field Value) → List ℕ
closed_fields [] = 125 ∷ []
closed_fields (f ∷ fs) = 44 ∷ (field_text f ++ closed_fields fs)

-- the ends of an array that is a line
abbrev pub line_end : List ℕ
line_end = 93 ∷ 10 ∷ []
