-- The numbers that are drawn from a seed.
use Rattle.std.specs.Prelude.{ℕ, zero, suc, ◌+◌, ◌*◌, ◌/◌, ◌%◌, ◌^◌}

-- the state behind this one
unfoldable pub next : ℕ → ℕ
next s = (s * 6364136223846793005 + 1442695040888963407) % 2 ^ 64

-- the state after so many draws, which is the seed before the first
abbrev pub state : ℕ → ℕ → ℕ
state seed zero = seed
state seed (suc i) = next (state seed i)

-- the number that a draw gives which leaves this state: its upper 31 bits
abbrev pub drawn : ℕ → ℕ
drawn s = s / 2 ^ 33

-- the draw at this place, where the first is at 0
abbrev pub draw : ℕ → ℕ → ℕ
draw seed i = drawn (state seed (i + 1))
