-- `sort`: a list in the order of its values.
use Rattle.std.specs.Prelude.{List, [], ◌∷◌, Ok, if◌then◌else◌, IsPermutation, IsSorted}
use Rattle.std.specs.Ordering.{is_lt}
use Rattle.nb_value.specs.declared.value.Value.{Value, out-Value}
use Rattle.nb_value.specs.declared.value.Value.TheOpen.{Value-F}
use Rattle.nb_value.specs.declared.value.Value.TheVariants as V
use Rattle.nb_value.specs.declared.function.Function.TheVariants.{Sort}
use Rattle.nb_value.specs.Value.{value_cmp}
use Rattle.nb_builtins.specs.Calls.{Called, wrong_kind}

-- the same items, each not below the one before it
pub record Sorts (before after : List Value) : Type 0 where
  pub same : IsPermutation before after
  pub sorted : IsSorted value_cmp after

-- one value more among values in order, behind those that are below it
abbrev pub placed : Value → List Value → List Value
placed v [] = v ∷ []
placed v (w ∷ ws) = if is_lt (value_cmp w v) then w ∷ placed v ws else v ∷ w ∷ ws

-- the one list that sorts the items
abbrev pub sorted : List Value → List Value
sorted [] = []
sorted (v ∷ vs) = placed v (sorted vs)

abbrev pub sort_in : Value-F Value → Called Value
sort_in (Value-F.List vs) = Ok (V.List (sorted vs))
sort_in _ = wrong_kind Sort

abbrev pub sort_of : Value → Called Value
sort_of v = sort_in (out-Value v)
