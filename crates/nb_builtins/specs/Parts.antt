-- `split` and `join`: a text as parts with a separator between them.
use Rattle.std.specs.Prelude.{◌≡◌, ◌<◌, ℕ, zero, suc, ◌-◌, ◌==◌, nat_eq, List, [], ◌∷◌, ◌++◌, length, map, Ok, if◌then◌else◌}
use Rattle.std.specs.List.{starts_with, onto_first}
use Rattle.std.specs.Str.Pattern.{LacksTextAt}
use Rattle.nb_value.specs.declared.value.Value.{Value, out-Value}
use Rattle.nb_value.specs.declared.value.Value.TheOpen.{Value-F}
use Rattle.nb_value.specs.declared.value.Value.TheVariants as V
use Rattle.nb_value.specs.declared.function.Function.TheVariants.{Split, Join}
use Rattle.nb_builtins.specs.Calls.{Called, and_then, wrong_kind, out_of_range}

-- The parts of a text that is read from the left, where so many bytes still belong to a separator: where a separator
-- begins, a part has ended.
unfoldable pub parts_after : List ℕ → ℕ → List ℕ → List (List ℕ)
parts_after separator n [] = [] ∷ []
parts_after separator zero (b ∷ bs) = if starts_with nat_eq (b ∷ bs) separator then [] ∷ parts_after separator (length separator - 1) bs else onto_first b (parts_after separator zero bs)
parts_after separator (suc n) (b ∷ bs) = parts_after separator n bs

-- the parts between the occurrences of a separator that isn't empty
abbrev pub parts : List ℕ → List ℕ → List (List ℕ)
parts separator text = parts_after separator 0 text

-- the parts that a text is cut into: each ends where the separator stands first in what is left, and the last has none
abbrev pub IsSplit : List ℕ → List ℕ → List (List ℕ) → Type 0
IsSplit separator text [] = ⊥
IsSplit separator text (t ∷ []) = (t ≡ text) × ((k : ℕ) → LacksTextAt separator text k)
IsSplit separator text (t ∷ u ∷ ts) = (rest : List ℕ) × (text ≡ t ++ (separator ++ rest)) × ((k : ℕ) → k < length t → LacksTextAt separator text k) × IsSplit separator rest (u ∷ ts)

-- texts with a separator before each
abbrev pub behind : List ℕ → List (List ℕ) → List ℕ
behind separator [] = []
behind separator (t ∷ ts) = separator ++ t ++ behind separator ts

-- texts with a separator between each two
abbrev pub joined : List ℕ → List (List ℕ) → List ℕ
joined separator [] = []
joined separator (t ∷ ts) = t ++ behind separator ts

abbrev pub texts_value : List (List ℕ) → Value
texts_value ts = V.List (map V.Text ts)

abbrev pub split_in : Value-F Value → Value-F Value → Called Value
split_in (Value-F.Text t) (Value-F.Text separator) = if length separator == 0 then out_of_range Split else Ok (texts_value (parts separator t))
split_in _ _ = wrong_kind Split

abbrev pub split_of : Value → Value → Called Value
split_of v separator = split_in (out-Value v) (out-Value separator)

abbrev pub text_in : Value-F Value → Called (List ℕ)
text_in (Value-F.Text t) = Ok t
text_in _ = wrong_kind Join

-- the texts that values are, if all of them are texts
abbrev pub texts_of : List Value → Called (List (List ℕ))
texts_of [] = Ok []
texts_of (v ∷ vs) = and_then (text_in (out-Value v)) (λ t. and_then (texts_of vs) (λ ts. Ok (t ∷ ts)))

abbrev pub join_in : Value-F Value → Value-F Value → Called Value
join_in (Value-F.List vs) (Value-F.Text separator) = and_then (texts_of vs) (λ ts. Ok (V.Text (joined separator ts)))
join_in _ _ = wrong_kind Join

abbrev pub join_of : Value → Value → Called Value
join_of v separator = join_in (out-Value v) (out-Value separator)
