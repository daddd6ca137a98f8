-- What holds of pulling and held variables after every legal log.
use Rattle.std.specs.Prelude.{ℕ, ◌≡◌, true, false, List}
use Rattle.nb_value.specs.declared.value.Value.{Value}
use Rattle.nb_value.specs.declared.pairs.Field.{Field}
use Rattle.nb_log.specs.declared.entry.Entry.{Entry}
use Rattle.nb_graph.specs.Needs.{has}
use Rattle.nb_history.specs.Needs.{needed}
use Rattle.nb_history.specs.Rules.{wanted, is_behind, is_pulling, is_held, due, ready}
use Rattle.nb_history.specs.Log.{reading, IsLegal, RestsAfter}

-- what is pulling is ready, because its inputs keep their starts and renewals
abbrev pub PullingIsReady : Type 0
PullingIsReady = (builtins : List (Field Value)) (log : List Entry) → IsLegal builtins log → (v : ℕ) → is_pulling (reading builtins log) v ≡ true → ready (reading builtins log) v ≡ true

-- at a rest nothing is pulling or held, and no wanted variable is behind
abbrev pub RestHoldsNothing : Type 0
RestHoldsNothing =
    (builtins : List (Field Value)) (log : List Entry) → IsLegal builtins log → RestsAfter builtins log → (v : ℕ)
    → (is_pulling (reading builtins log) v ≡ false) × (is_held (reading builtins log) v ≡ false)
    × (wanted (reading builtins log) v ≡ true → is_behind (reading builtins log) v ≡ false)

-- a due variable needs nothing that is held
abbrev pub DueNeedsNothingHeld : Type 0
DueNeedsNothingHeld =
    (builtins : List (Field Value)) (log : List Entry) (v w : ℕ) → due (reading builtins log) v ≡ true → has (needed (reading builtins log).sheet v) w ≡ true
    → is_held (reading builtins log) w ≡ false

-- so what it needs is behind exactly where it is due
abbrev pub DueWhereBehind : Type 0
DueWhereBehind =
    (builtins : List (Field Value)) (log : List Entry) (v w : ℕ) → due (reading builtins log) v ≡ true → has (needed (reading builtins log).sheet v) w ≡ true
    → due (reading builtins log) w ≡ is_behind (reading builtins log) w
