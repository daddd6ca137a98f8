-- Lists of numbers, as sets: whether a number is in one, and whether they ascend.
use Rattle.std.specs.Prelude.{ℕ, ◌==◌, ◌<◌, Bool, List, length, slice_index}
use Rattle.std.specs.List.{list_any}

-- whether a number is in the list
abbrev pub has : List ℕ → ℕ → Bool
has xs x = list_any (λ y. y == x) xs

-- each number is below all that come after it, so none comes twice
abbrev pub Ascends : List ℕ → Type 0
Ascends xs = (i j : ℕ) → i < j → j < length xs → slice_index xs i < slice_index xs j
