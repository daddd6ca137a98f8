-- Waves where no row has a mark and each needs rows before it: so none needs itself.
use Rattle.std.specs.Prelude.{ℕ, ◌≡◌, ◌<◌, true, List, Some, slice_get}
use Rattle.nb_graph.specs.Needs.{has}
use Rattle.nb_wave.specs.declared.footing.Footing.{Footing}
use Rattle.nb_wave.specs.declared.row.Row.{Row}
use Rattle.nb_wave.specs.Wave.{Wave}

abbrev pub AllBelow : List ℕ → ℕ → Type 0
AllBelow us v = (u : ℕ) → has us u ≡ true → u < v

abbrev pub Ascends : List Row → Type 0
Ascends rows = (v : ℕ) (r : Row) → slice_get rows v ≡ Some r → (Footing.mark r.present ≡ 0) × AllBelow r.needs v

-- now, and after an undo
pub record IsReady (wave : Wave) : Type 0 where
  pub present : Ascends wave.rows
  pub marked : Ascends wave.marked
