-- What operators and paths give, from the values of their parts.
use Rattle.std.specs.Prelude.{ℕ, ◌++◌, Bool, true, false, not, List, nat_eq, nat_lt, slice_get, codes, Option, Some, None, Ok, if◌then◌else◌, ℤ, pos, negsuc, ◌+ℤ◌, ◌-ℤ◌, ◌*ℤ◌, neg_ℤ, int_div, int_rem}
use Rattle.std.specs.declared.cmp.Ordering.{Ordering}
use Rattle.std.specs.declared.cmp.Ordering.TheVariants as order
use Rattle.nb_value.specs.declared.value.Value.{Value, out-Value}
use Rattle.nb_value.specs.declared.value.Value.TheOpen as value
use Rattle.nb_value.specs.declared.value.Value.TheVariants as V
use Rattle.nb_value.specs.declared.outcome.ErrorKind.TheVariants.{WrongKind, Overflow, ZeroDivisor, OutOfRange, NoField}
use Rattle.nb_value.specs.Value.{value_cmp}
use Rattle.nb_value.specs.Fields.{value_at}
use Rattle.nb_syntax.specs.declared.tree.Sign.{Sign}
use Rattle.nb_syntax.specs.declared.tree.Sign.TheVariants.{Plus, Minus, Times, Divide, Remainder, Equal, NotEqual, Less, LessOrEqual, Greater, GreaterOrEqual, Not}
use Rattle.nb_syntax.specs.Print.{sign_text}
use Rattle.nb_eval.specs.Run.{Run, Called, ◌>>=◌, lift, failed, failed_with, done}

-- an operator that its place in the grammar doesn't have, or values of kinds that it doesn't take
abbrev pub wrong_kind : Sign → Called Value
wrong_kind sign = failed WrongKind (sign_text sign)

-- ---- whole numbers of 64 bits

abbrev pub in_range : ℤ → Bool
in_range (pos n) = nat_lt n 0x8000_0000_0000_0000
in_range (negsuc n) = nat_lt n 0x8000_0000_0000_0000

abbrev pub checked : ℤ → Option ℤ
checked n = if in_range n then Some n else None

abbrev pub int_or : Sign → Option ℤ → Called Value
int_or sign (Some n) = Ok (V.Int n)
int_or sign None = failed Overflow (sign_text sign)

abbrev pub int_of : Sign → ℤ → Called Value
int_of sign n = int_or sign (checked n)

abbrev pub is_zero : ℤ → Bool
is_zero (pos n) = nat_eq n 0
is_zero (negsuc n) = false

-- by the quotient, which is cut towards zero: the quotient itself, or the remainder, which has the dividend's sign
abbrev pub divided : Sign → (ℤ → ℤ → ℤ) → ℤ → ℤ → Called Value
divided sign part a b =
    if is_zero b then failed ZeroDivisor (sign_text sign)
    else int_or sign (if in_range (int_div a b) then Some (part a b) else None)

abbrev pub on_ints : Sign → (ℤ → ℤ → Called Value) → value.Value-F Value → value.Value-F Value → Called Value
on_ints sign f (value.Int a) (value.Int b) = f a b
on_ints sign f _ _ = wrong_kind sign

-- ---- sums and products

-- a sum of whole numbers; texts and lists are joined
abbrev pub add : value.Value-F Value → value.Value-F Value → Called Value
add (value.Int a) (value.Int b) = int_of Plus (a +ℤ b)
add (value.Text a) (value.Text b) = Ok (V.Text (a ++ b))
add (value.List a) (value.List b) = Ok (V.List (a ++ b))
add _ _ = wrong_kind Plus

abbrev pub summed : Sign → Value → Value → Called Value
summed Plus a b = add (out-Value a) (out-Value b)
summed Minus a b = on_ints Minus (λ m n. int_of Minus (m -ℤ n)) (out-Value a) (out-Value b)
summed sign a b = wrong_kind sign

abbrev pub multiplied : Sign → Value → Value → Called Value
multiplied Times a b = on_ints Times (λ m n. int_of Times (m *ℤ n)) (out-Value a) (out-Value b)
multiplied Divide a b = on_ints Divide (divided Divide int_div) (out-Value a) (out-Value b)
multiplied Remainder a b = on_ints Remainder (divided Remainder int_rem) (out-Value a) (out-Value b)
multiplied sign a b = wrong_kind sign

-- an applied operator, with its charge
abbrev pub sum_step : Sign → Value → Value → Run Value
sum_step sign a b = lift (summed sign a b) >>= done

abbrev pub product_step : Sign → Value → Value → Run Value
product_step sign a b = lift (multiplied sign a b) >>= done

-- ---- comparisons

abbrev pub is_equal : Ordering → Bool
is_equal order.Less = false
is_equal order.Equal = true
is_equal order.Greater = false

abbrev pub is_less : Ordering → Bool
is_less order.Less = true
is_less order.Equal = false
is_less order.Greater = false

abbrev pub is_greater : Ordering → Bool
is_greater order.Less = false
is_greater order.Equal = false
is_greater order.Greater = true

-- numbers and texts have an order in cells
abbrev pub if_ordered : Sign → Bool → value.Value-F Value → value.Value-F Value → Called Value
if_ordered sign holds (value.Int a) (value.Int b) = Ok (V.Bool holds)
if_ordered sign holds (value.Text a) (value.Text b) = Ok (V.Bool holds)
if_ordered sign holds _ _ = wrong_kind sign

abbrev pub ordered : Sign → Bool → Value → Value → Called Value
ordered sign holds a b = if_ordered sign holds (out-Value a) (out-Value b)

abbrev pub compared : Sign → Value → Value → Called Value
compared Equal a b = Ok (V.Bool (is_equal (value_cmp a b)))
compared NotEqual a b = Ok (V.Bool (not (is_equal (value_cmp a b))))
compared Less a b = ordered Less (is_less (value_cmp a b)) a b
compared LessOrEqual a b = ordered LessOrEqual (not (is_greater (value_cmp a b))) a b
compared Greater a b = ordered Greater (is_greater (value_cmp a b)) a b
compared GreaterOrEqual a b = ordered GreaterOrEqual (not (is_less (value_cmp a b))) a b
compared sign a b = wrong_kind sign

-- ---- operators of one part

abbrev pub negate : value.Value-F Value → Called Value
negate (value.Int n) = int_of Minus (neg_ℤ n)
negate _ = wrong_kind Minus

abbrev pub invert : value.Value-F Value → Called Value
invert (value.Bool b) = Ok (V.Bool (not b))
invert _ = wrong_kind Not

abbrev pub signed : Sign → Value → Called Value
signed Minus v = negate (out-Value v)
signed Not v = invert (out-Value v)
signed sign v = wrong_kind sign

-- ---- paths

abbrev pub found : List ℕ → Option Value → Called Value
found name None = failed_with NoField name
found name (Some v) = Ok v

abbrev pub field_in : List ℕ → value.Value-F Value → Called Value
field_in name (value.Rec fs) = found name (value_at name fs)
field_in name _ = failed WrongKind (codes ".")

-- `.name`
abbrev pub field_of : List ℕ → Value → Called Value
field_of name v = field_in name (out-Value v)

-- the item at an index from 0
abbrev pub item_at : ℤ → List Value → Option Value
item_at (pos n) vs = slice_get vs n
item_at (negsuc n) vs = None

abbrev pub item_or : Option Value → Called Value
item_or None = failed OutOfRange (codes "[")
item_or (Some v) = Ok v

abbrev pub indexed : value.Value-F Value → value.Value-F Value → Called Value
indexed (value.List vs) (value.Int n) = item_or (item_at n vs)
indexed (value.Rec fs) (value.Text name) = found name (value_at name fs)
indexed _ _ = failed WrongKind (codes "[")

-- `[index]`
abbrev pub part_of : Value → Value → Called Value
part_of v index = indexed (out-Value v) (out-Value index)
