-- `int`: the number that a text spells.
use Rattle.std.specs.Prelude.{ℕ, Bool, false, nat_le, ◌&&◌, ◌==◌, ℤ, pos, neg_ℤ, List, [], ◌∷◌, Option, Some, None, option_map, is_some, bytes_eq, codes, Ok, if◌then◌else◌}
use Rattle.std.specs.Char.{is_ascii_digit}
use Rattle.std.specs.List.{list_all}
use Rattle.std.specs.Str.Parse.{digits_value}
use Rattle.nb_value.specs.declared.value.Value.{Value, out-Value}
use Rattle.nb_value.specs.declared.value.Value.TheOpen.{Value-F}
use Rattle.nb_value.specs.declared.value.Value.TheVariants as V
use Rattle.nb_value.specs.declared.function.Function.TheVariants.{Int}
use Rattle.nb_builtins.specs.Calls.{Called, wrong_kind, out_of_range}
use Rattle.nb_builtins.specs.Sums.{in_range}

-- a digit 1 to 9 and digits after it
abbrev pub is_positive_numeral : List ℕ → Bool
is_positive_numeral [] = false
is_positive_numeral (d ∷ ds) = nat_le 49 d && nat_le d 57 && list_all is_ascii_digit ds

-- the number of such digits
abbrev pub positive : List ℕ → Option ℕ
positive ds = if is_positive_numeral ds then Some (digits_value 10 ds) else None

-- `0`, or such digits
abbrev pub natural : List ℕ → Option ℕ
natural ds = if bytes_eq ds (codes "0") then Some 0 else positive ds

-- a natural number, or `-` and a positive one
abbrev pub spelled : List ℕ → Option ℤ
spelled [] = None
spelled (c ∷ ds) = if c == 45 then option_map (λ n. neg_ℤ (pos n)) (positive ds) else option_map pos (natural (c ∷ ds))

-- whether a text spells a number
abbrev pub is_numeral : List ℕ → Bool
is_numeral ds = is_some (spelled ds)

-- the number that a text spells, if it is within 64 bits
abbrev pub int_within : Option ℤ → Option ℤ
int_within None = None
int_within (Some n) = if in_range n then Some n else None

abbrev pub int_value : Option ℤ → Called Value
int_value None = out_of_range Int
int_value (Some n) = Ok (V.Int n)

abbrev pub int_in_text : Value-F Value → Called Value
int_in_text (Value-F.Text t) = int_value (int_within (spelled t))
int_in_text _ = wrong_kind Int

abbrev pub int_of_text : Value → Called Value
int_of_text v = int_in_text (out-Value v)
