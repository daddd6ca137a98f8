-- Who needs whom, over numbers, where each has a list of direct needs.
use Rattle.std.specs.Prelude.{ℕ, zero, suc, ◌==◌, ◌≡◌, Bool, true, ◌||◌, List, length}
use Rattle.std.specs.List.{filter, list_any}

-- whether a number is in the list
abbrev pub has : List ℕ → ℕ → Bool
has xs x = list_any (λ y. y == x) xs

-- v needs u if u is a direct need of v, or of one that v needs
pub data Needs (direct : ℕ → List ℕ) : ℕ → ℕ → Type 0 where
  at_once : {v u : ℕ} → has (direct v) u ≡ true → Needs direct v u
  through : {v w u : ℕ} → Needs direct v w → has (direct w) u ≡ true → Needs direct v u

-- those of all that are in the list or are a direct need of one in it
abbrev pub grown : (ℕ → List ℕ) → List ℕ → List ℕ → List ℕ
grown direct all vs = filter (λ u. has vs u || list_any (λ w. has (direct w) u) vs) all

abbrev pub rounds : (ℕ → List ℕ) → List ℕ → ℕ → List ℕ → List ℕ
rounds direct all zero vs = vs
rounds direct all (suc k) vs = grown direct all (rounds direct all k vs)

-- all that v needs: its direct needs, and theirs, in as many rounds as there are numbers
abbrev pub all_needed : (ℕ → List ℕ) → List ℕ → ℕ → List ℕ
all_needed direct all v = rounds direct all (length all) (direct v)
