-- What is asked, time and again, for a newer number.
use Rattle.std.specs.Prelude.{ℕ, ◌≤◌, ◌<◌}
use Rattle.nb_io.specs.Causes.{Rose}

-- A count of calls does not fall, and has risen.
abbrev pub Rises : ℕ → ℕ → Type 0
Rises before now = (before ≤ now) × Rose before now

-- A call with this number is answered where the calls from the first one on are; where that is 0, none is.
abbrev pub IsAnswered : ℕ → ℕ → Type 0
IsAnswered first call = (0 < first) × (first ≤ call)
