-- What is read off a graph: a list, by node from 0, of the nodes that each needs directly.
use Rattle.std.specs.Prelude.{ℕ, zero, suc, ◌+◌, ◌^◌, ◌≡◌, ◌<◌, Bool, true, List, [], ◌∷◌, map, length, slice_get, Option, Some, None, ◌⊎◌, max}
use Rattle.nb_graph.specs.Needs.{has, Needs}

-- what v needs directly, and nothing where v is no node
abbrev pub or_nothing : Option (List ℕ) → List ℕ
or_nothing None = []
or_nothing (Some ns) = ns

abbrev pub needs_of : List (List ℕ) → ℕ → List ℕ
needs_of graph v = or_nothing (slice_get graph v)

-- there are fewer nodes than 2^32, and each need is one of them
pub record IsGraph (graph : List (List ℕ)) : Type 0 where
  pub few : length graph < 2 ^ 32
  pub nodes : (v u : ℕ) → has (needs_of graph v) u ≡ true → u < length graph

-- the graph where v needs these
abbrev pub with_needs : List (List ℕ) → ℕ → List ℕ → List (List ℕ)
with_needs [] v ns = []
with_needs (old ∷ graph) zero ns = ns ∷ graph
with_needs (old ∷ graph) (suc v) ns = old ∷ with_needs graph v ns

-- a root, or needed by one
abbrev pub IsReached : List (List ℕ) → List ℕ → ℕ → Type 0
IsReached graph roots u = (has roots u ≡ true) ⊎ ((r : ℕ) × (has roots r ≡ true) × Needs (needs_of graph) r u)

abbrev pub needs_itself : List (List ℕ) → ℕ → Type 0
needs_itself graph v = Needs (needs_of graph) v v

-- a mark for each node, true exactly for those of which this holds
pub record IsMarks (graph : List (List ℕ)) (holds : ℕ → Type 0) (marks : List Bool) : Type 0 where
  pub all : length marks ≡ length graph
  pub only : (v : ℕ) → slice_get marks v ≡ Some true → holds v
  pub each : (v : ℕ) → v < length graph → holds v → slice_get marks v ≡ Some true

-- the greatest of the numbers, and 0 of none
abbrev pub greatest : List ℕ → ℕ
greatest [] = 0
greatest (x ∷ xs) = max x (greatest xs)

abbrev pub or_zero : Option ℕ → ℕ
or_zero None = 0
or_zero (Some x) = x

abbrev pub rank_in : List ℕ → ℕ → ℕ
rank_in ranks v = or_zero (slice_get ranks v)

-- a rank for each node: 0 of one that needs itself, and else 1 more than the greatest among its direct needs
pub record IsRanks (graph : List (List ℕ)) (ranks : List ℕ) : Type 0 where
  pub all : length ranks ≡ length graph
  pub circular : (v : ℕ) → v < length graph → needs_itself graph v → rank_in ranks v ≡ 0
  pub others : (v : ℕ) → v < length graph → (needs_itself graph v → ⊥) → rank_in ranks v ≡ 1 + greatest (map (rank_in ranks) (needs_of graph v))
