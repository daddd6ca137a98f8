-- `range`: the numbers from one up to below another.
use Rattle.std.specs.Prelude.{ℕ, zero, suc, ℤ, pos, negsuc, ◌+ℤ◌, ◌-ℤ◌, List, [], ◌∷◌, Ok}
use Rattle.nb_value.specs.declared.value.Value.{Value, out-Value}
use Rattle.nb_value.specs.declared.value.Value.TheOpen.{Value-F}
use Rattle.nb_value.specs.declared.value.Value.TheVariants as V
use Rattle.nb_value.specs.declared.function.Function.TheVariants.{Range}
use Rattle.nb_builtins.specs.Calls.{Called, wrong_kind}

-- a number and those after it, this many in all
unfoldable pub ints_from : ℤ → ℕ → List Value
ints_from first zero = []
ints_from first (suc n) = V.Int first ∷ ints_from (first +ℤ pos 1) n

-- the number, or 0 below 0
abbrev pub at_least_zero : ℤ → ℕ
at_least_zero (pos n) = n
at_least_zero (negsuc n) = 0

-- how many numbers there are from one up to below another
abbrev pub count_between : ℤ → ℤ → ℕ
count_between first end = at_least_zero (end -ℤ first)

abbrev pub range_in : Value-F Value → Value-F Value → Called Value
range_in (Value-F.Int first) (Value-F.Int end) = Ok (V.List (ints_from first (count_between first end)))
range_in _ _ = wrong_kind Range

abbrev pub range_of : Value → Value → Called Value
range_of first end = range_in (out-Value first) (out-Value end)
