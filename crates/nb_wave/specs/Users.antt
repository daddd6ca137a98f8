-- Who needs whom, the other way round.
use Rattle.std.specs.Prelude.{ℕ, ◌+◌, ◌≡◌, ◌<◌, ◌++◌, Bool, true, List, [], ◌∷◌, length, set}
use Rattle.nb_graph.specs.Needs.{has}
use Rattle.nb_graph.specs.Graph.{needs_of as list_of}
use Rattle.nb_wave.specs.declared.row.Row.{Row}
use Rattle.nb_wave.specs.declared.users.Users.{Users}
use Rattle.nb_wave.specs.Rules.{needs_of}
use Rattle.nb_wave.specs.Marks.{marked}

-- v is added to the lists of these
abbrev pub added : ℕ → List ℕ → List (List ℕ) → List (List ℕ)
added v [] lists = lists
added v (u ∷ us) lists = added v us (set lists u (list_of lists u ++ v ∷ []))

-- each row, from number v on, is added to the lists of what it needs
abbrev pub added_all : ℕ → List Row → List (List ℕ) → List (List ℕ)
added_all v [] lists = lists
added_all v (r ∷ rows) lists = added_all (v + 1) rows (added v r.needs lists)

-- v needs u in the rows where u needs v in the graph
pub record IsReversed (rows : List Row) (graph : List (List ℕ)) : Type 0 where
  pub size : length graph ≡ length rows
  pub only : (u v : ℕ) → has (list_of graph u) v ≡ true → has (needs_of rows v) u ≡ true
  pub each : (u v : ℕ) → has (needs_of rows v) u ≡ true → has (list_of graph u) v ≡ true

pub record Reverse (rows : List Row) (users : Users) : Type 0 where
  pub lists : IsReversed rows users.lists.items
  pub graph : IsReversed rows users.graph

-- these need v directly
pub record AreUsers (rows : List Row) (v : ℕ) (users : List ℕ) : Type 0 where
  pub each : (w : ℕ) → has (needs_of rows w) v ≡ true → has users w ≡ true
  pub only : (w : ℕ) → has users w ≡ true → has (needs_of rows w) v ≡ true

-- these are the marked ones of the first i
pub record AreMarked (marks : List Bool) (i : ℕ) (vars : List ℕ) : Type 0 where
  pub each : (v : ℕ) → v < i → marked marks v ≡ true → has vars v ≡ true
  pub only : (v : ℕ) → has vars v ≡ true → (v < i) × (marked marks v ≡ true)
