-- `min` and `max`: the least and the greatest of a list of numbers or of a list of texts.
use Rattle.std.specs.Prelude.{◌≡◌, All, Contains, Bool, true, false, ◌||◌, List, [], ◌∷◌, Ok, if◌then◌else◌}
use Rattle.std.specs.List.{list_all, best_of}
use Rattle.std.specs.Ordering.{is_lt, is_gt}
use Rattle.nb_value.specs.declared.value.Value.{Value, out-Value}
use Rattle.nb_value.specs.declared.value.Value.TheOpen.{Value-F}
use Rattle.nb_value.specs.declared.function.Function.{Function}
use Rattle.nb_value.specs.declared.function.Function.TheVariants.{Min, Max}
use Rattle.nb_value.specs.Value.{value_cmp}
use Rattle.nb_builtins.specs.Calls.{Called, wrong_kind, out_of_range}

abbrev pub int_layer : Value-F Value → Bool
int_layer (Value-F.Int n) = true
int_layer _ = false

abbrev pub text_layer : Value-F Value → Bool
text_layer (Value-F.Text t) = true
text_layer _ = false

abbrev pub is_int : Value → Bool
is_int v = int_layer (out-Value v)

abbrev pub is_text : Value → Bool
is_text v = text_layer (out-Value v)

abbrev pub is_below : Value → Value → Bool
is_below v w = is_lt (value_cmp v w)

abbrev pub is_above : Value → Value → Bool
is_above v w = is_gt (value_cmp v w)

-- numbers alone, or texts alone
abbrev pub are_alike : List Value → Bool
are_alike vs = list_all is_int vs || list_all is_text vs

-- the item that no other beats
abbrev pub extreme_of : Function → (Value → Value → Bool) → List Value → Called Value
extreme_of f beats [] = out_of_range f
extreme_of f beats (v ∷ vs) = if are_alike (v ∷ vs) then Ok (best_of beats v vs) else wrong_kind f

-- it is an item, and no item beats it
abbrev pub IsExtreme : (Value → Value → Bool) → List Value → Value → Type 0
IsExtreme beats vs v = Contains vs v × All (λ w. beats w v ≡ false) vs

abbrev pub extreme_in : Function → (Value → Value → Bool) → Value-F Value → Called Value
extreme_in f beats (Value-F.List vs) = extreme_of f beats vs
extreme_in f beats _ = wrong_kind f

abbrev pub min_of : Value → Called Value
min_of v = extreme_in Min is_below (out-Value v)

abbrev pub max_of : Value → Called Value
max_of v = extreme_in Max is_above (out-Value v)
