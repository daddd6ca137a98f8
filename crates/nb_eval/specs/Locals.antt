-- Where a name stands among the locals.
use Rattle.std.specs.Prelude.{◌≡◌, ◌⊎◌, ℕ, ◌+◌, List, [], ◌∷◌, length, Option, Some, None, if◌then◌else◌, slice_get}
use Rattle.std.specs.Str.{bytes_eq}
use Rattle.nb_value.specs.declared.pairs.Field.{Field}
use Rattle.nb_value.specs.declared.value.Value.{Value}
use Rattle.nb_value.specs.Fields.{names}

abbrev pub name_value : List ℕ → Value → Field Value
name_value name v = record { name = name; value = v }

-- the last place from this one on, or else the best so far
abbrev pub place_from : ℕ → Option ℕ → List ℕ → List (Field Value) → Option ℕ
place_from at best name [] = best
place_from at best name (l ∷ ls) = place_from (at + 1) (if bytes_eq l.name name then Some at else best) name ls

-- the innermost local of a name is the last
abbrev pub place : List ℕ → List (Field Value) → Option ℕ
place name ls = place_from 0 None name ls

abbrev pub at_place : List (Field Value) → Option ℕ → Option (Field Value)
at_place ls None = None
at_place ls (Some at) = slice_get ls at

abbrev pub local_of : List ℕ → List (Field Value) → Option (Field Value)
local_of name ls = at_place ls (place name ls)

-- there are so many locals, or one more, which has the name
abbrev pub HasNext : List ℕ → ℕ → List (Field Value) → Type 0
HasNext name at ls = (length ls ≡ at) ⊎ ((length ls ≡ at + 1) × (slice_get (names ls) at ≡ Some name))
