-- The charges that were made, and the fuel that is left for the pulls to come.
use Rattle.std.specs.Prelude.{◌≤◌, ℕ, ◌+◌, ◌-◌, ◌*◌}
use Rattle.nb_eval.specs.Run.{full_fuel}
use Rattle.nb_machine.specs.Held.{Held}

-- each pull has its fuel, and each charge takes some of it
abbrev pub Room : ℕ → Held → Type 0
Room pulls h = h.state.charges + h.state.fuel + (pulls - h.made) * full_fuel ≤ full_fuel + pulls * full_fuel
