-- `slice` and `reverse`: characters of a text, or items of a list.
use Rattle.std.specs.Prelude.{ℕ, ℤ, pos, nat_le, ◌&&◌, List, length, reverse, slice_range, chars, encode_utf8_all, Option, Some, None, Ok, if◌then◌else◌}
use Rattle.nb_value.specs.declared.value.Value.{Value, out-Value}
use Rattle.nb_value.specs.declared.value.Value.TheOpen.{Value-F}
use Rattle.nb_value.specs.declared.value.Value.TheVariants as V
use Rattle.nb_value.specs.declared.function.Function.TheVariants.{Slice, Reverse}
use Rattle.nb_builtins.specs.Calls.{Called, wrong_kind, out_of_range}

-- the text of some characters
abbrev pub text_of_chars : List ℕ → Value
text_of_chars cs = V.Text (encode_utf8_all cs)

-- the elements from the first place up to below the second, if 0 <= first <= second <= length
abbrev pub part_of : {X : Type 0} → List X → ℤ → ℤ → Option (List X)
part_of xs (pos i) (pos j) = if nat_le i j && nat_le j (length xs) then Some (slice_range xs i j) else None
part_of xs first second = None

abbrev pub sliced : {X : Type 0} → (List X → Value) → Option (List X) → Called Value
sliced make None = out_of_range Slice
sliced make (Some xs) = Ok (make xs)

abbrev pub slice_in : Value-F Value → Value-F Value → Value-F Value → Called Value
slice_in (Value-F.Text t) (Value-F.Int first) (Value-F.Int second) = sliced text_of_chars (part_of (chars t) first second)
slice_in (Value-F.List vs) (Value-F.Int first) (Value-F.Int second) = sliced V.List (part_of vs first second)
slice_in _ _ _ = wrong_kind Slice

abbrev pub slice_of : Value → Value → Value → Called Value
slice_of v first second = slice_in (out-Value v) (out-Value first) (out-Value second)

abbrev pub reverse_in : Value-F Value → Called Value
reverse_in (Value-F.Text t) = Ok (text_of_chars (reverse (chars t)))
reverse_in (Value-F.List vs) = Ok (V.List (reverse vs))
reverse_in _ = wrong_kind Reverse

abbrev pub reverse_of : Value → Called Value
reverse_of v = reverse_in (out-Value v)
