-- `sum` and `abs`: whole numbers within 64 bits.
use Rattle.std.specs.Prelude.{Bool, nat_lt, ℤ, pos, negsuc, ◌+ℤ◌, nat_abs, List, [], ◌∷◌, Option, Some, None, Ok, if◌then◌else◌}
use Rattle.nb_value.specs.declared.value.Value.{Value, out-Value}
use Rattle.nb_value.specs.declared.value.Value.TheOpen.{Value-F}
use Rattle.nb_value.specs.declared.value.Value.TheVariants as V
use Rattle.nb_value.specs.declared.function.Function.{Function}
use Rattle.nb_value.specs.declared.function.Function.TheVariants.{Sum, Abs}
use Rattle.nb_builtins.specs.Calls.{Called, and_then, wrong_kind, overflow}

-- from -2 ^ 63 to 2 ^ 63 - 1
abbrev pub in_range : ℤ → Bool
in_range (pos n) = nat_lt n 0x8000_0000_0000_0000
in_range (negsuc n) = nat_lt n 0x8000_0000_0000_0000

abbrev pub int_in : Value-F Value → Option ℤ
int_in (Value-F.Int n) = Some n
int_in _ = None

-- the number that a value is
abbrev pub int_of : Value → Option ℤ
int_of v = int_in (out-Value v)

-- a result within 64 bits
abbrev pub whole : Function → ℤ → Called ℤ
whole f n = if in_range n then Ok n else overflow f

-- the total with one more item
abbrev pub with_item : ℤ → Option ℤ → Called ℤ
with_item total None = wrong_kind Sum
with_item total (Some n) = whole Sum (total +ℤ n)

-- the sum of items after others that give the total; the first item that fails decides
abbrev pub sum_from : ℤ → List Value → Called ℤ
sum_from total [] = Ok total
sum_from total (v ∷ vs) = and_then (with_item total (int_of v)) (λ t. sum_from t vs)

abbrev pub int_value : Called ℤ → Called Value
int_value called = and_then called (λ n. Ok (V.Int n))

abbrev pub sum_in : Value-F Value → Called Value
sum_in (Value-F.List vs) = int_value (sum_from (pos 0) vs)
sum_in _ = wrong_kind Sum

abbrev pub sum_of : Value → Called Value
sum_of v = sum_in (out-Value v)

abbrev pub abs_in : Value-F Value → Called Value
abs_in (Value-F.Int n) = int_value (whole Abs (pos (nat_abs n)))
abs_in _ = wrong_kind Abs

abbrev pub abs_of : Value → Called Value
abs_of v = abs_in (out-Value v)
