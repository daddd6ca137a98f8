-- What ties the names of the locals to their places: each name that a local has had has a number, under which stands the
-- name's last place; and each local has the number of its name, and the place that it shadows.
use Rattle.std.specs.Prelude.{◌≡◌, ◌<◌, ℕ, ◌+◌, Bool, List, [], ◌∷◌, ◌++◌, length, map, get_or, Option, Some, None, if◌then◌else◌}
use Rattle.std.specs.Str.{bytes_eq}

-- a later place, else 0 where the first name is the same
abbrev pub later_or : Option ℕ → Bool → Option ℕ
later_or (Some at) same = Some (at + 1)
later_or None same = if same then Some 0 else None

-- the last place of a name
abbrev pub last_place : List ℕ → List (List ℕ) → Option ℕ
last_place name [] = None
last_place name (n ∷ ns) = later_or (last_place name ns) (bytes_eq n name)

-- for each name the last place of the same name before it, where some stand before all
abbrev pub shadowed_after : List (List ℕ) → List (List ℕ) → List (Option ℕ)
shadowed_after seen [] = []
shadowed_after seen (n ∷ ns) = last_place n seen ∷ shadowed_after (seen ++ n ∷ []) ns

-- what stands under a number, where there is one
abbrev pub under : List (Option ℕ) → Option ℕ → Option ℕ
under tops None = None
under tops (Some k) = get_or tops k None

-- the names of the locals, the number of each and what each shadows, beside the numbers of all names that there have been
-- and what stands under them
pub record IsIndexed (names : List (List ℕ)) (numbers : List ℕ) (outers : List (Option ℕ)) (number : List ℕ → Option ℕ) (tops : List (Option ℕ)) : Type 0 where
  pub places : (name : List ℕ) → under tops (number name) ≡ last_place name names
  pub shadows : outers ≡ shadowed_after [] names
  pub numbered : map number names ≡ map Some numbers
  pub below : (name : List ℕ) (k : ℕ) → number name ≡ Some k → k < length tops
  pub apart : (a b : List ℕ) (k : ℕ) → number a ≡ Some k → number b ≡ Some k → a ≡ b

-- a name has a number, and other names what they had
abbrev pub Sets : (List ℕ → Option ℕ) → (List ℕ → Option ℕ) → List ℕ → ℕ → Type 0
Sets old new name k = (other : List ℕ) → new other ≡ (if bytes_eq name other then Some k else old other)
