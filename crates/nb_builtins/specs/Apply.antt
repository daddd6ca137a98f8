-- A call of any function, and its fuel.
use Rattle.std.specs.Prelude.{ℕ, ◌+◌, nat_lt, List, [], ◌∷◌, Ok, if◌then◌else◌}
use Rattle.nb_value.specs.declared.value.Value.{Value}
use Rattle.nb_value.specs.declared.function.Function.{Function}
use Rattle.nb_value.specs.declared.function.Function.TheVariants as f
use Rattle.nb_value.specs.declared.outcome.ErrorKind.TheVariants.{OutOfFuel}
use Rattle.nb_value.specs.Value.{size}
use Rattle.nb_builtins.specs.Calls.{Called, and_then, failed, wrong_kind}
use Rattle.nb_builtins.specs.Lengths.{len}
use Rattle.nb_builtins.specs.Sums.{sum_of, abs_of}
use Rattle.nb_builtins.specs.Extremes.{min_of, max_of}
use Rattle.nb_builtins.specs.Ranges.{range_of}
use Rattle.nb_builtins.specs.Slices.{slice_of, reverse_of}
use Rattle.nb_builtins.specs.Orders.{sort_of}
use Rattle.nb_builtins.specs.Records.{keys_of, values_of, has_of}
use Rattle.nb_builtins.specs.Texts.{as_text}
use Rattle.nb_builtins.specs.Numerals.{int_of_text}
use Rattle.nb_builtins.specs.Parts.{split_of, join_of}

-- the value of a call or its error; a call with another number of arguments has an error too
unfoldable pub called : Function → List Value → Called Value
called f.Len (v ∷ []) = len v
called f.Sum (v ∷ []) = sum_of v
called f.Min (v ∷ []) = min_of v
called f.Max (v ∷ []) = max_of v
called f.Abs (v ∷ []) = abs_of v
called f.Range (first ∷ end ∷ []) = range_of first end
called f.Slice (v ∷ first ∷ second ∷ []) = slice_of v first second
called f.Reverse (v ∷ []) = reverse_of v
called f.Sort (v ∷ []) = sort_of v
called f.Keys (v ∷ []) = keys_of v
called f.Values (v ∷ []) = values_of v
called f.Has (v ∷ name ∷ []) = has_of v name
called f.Text (v ∷ []) = as_text v
called f.Int (v ∷ []) = int_of_text v
called f.Split (v ∷ separator ∷ []) = split_of v separator
called f.Join (v ∷ separator ∷ []) = join_of v separator
called function arguments = wrong_kind function

-- a value whose size and 1 more is within the fuel
abbrev pub afforded : ℕ → Value → Called Value
afforded fuel v = if nat_lt fuel (1 + size v) then failed OutOfFuel [] else Ok v

-- a call with this much fuel: its value, its error, or the want of fuel
abbrev pub applied : Function → List Value → ℕ → Called Value
applied function arguments fuel = and_then (called function arguments) (afforded fuel)
