-- Which variables a wave has to be told of.
use Rattle.std.specs.Prelude.{ℕ, ◌+◌, ◌≡◌, ◌≤◌, ◌⊎◌, Bool, true, List, ◌∷◌, map, length}
use Rattle.nb_graph.specs.Needs.{has, Needs}
use Rattle.nb_sheet.specs.Sheet.{Sheet}
use Rattle.nb_resolve.specs.Names.{direct}
use Rattle.nb_wave.specs.declared.row.Row.{Row}
use Rattle.nb_wave.specs.Marks.{marked}
use Rattle.nb_wave.specs.Wave.{unput}
use Rattle.nb_closing.specs.Ties.{Ties}

-- it is loud, or needs a variable that is
abbrev pub IsTouched : Sheet → List ℕ → ℕ → Type 0
IsTouched s loud v = (has loud v ≡ true) ⊎ ((w : ℕ) × (has loud w ≡ true) × Needs (direct s) v w)

-- a mark for the number 0 and each variable, true exactly for those that are touched
pub record AreTouched (s : Sheet) (loud : List ℕ) (marks : List Bool) : Type 0 where
  pub size : length marks ≡ length s.rows + 1
  pub only : (v : ℕ) → marked marks v ≡ true → IsTouched s loud v
  pub each : (v : ℕ) → v ≤ length s.rows → IsTouched s loud v → marked marks v ≡ true

-- a row of a wave that needs what these ties name
abbrev pub naming : Ties → Row
naming t = record unput { needs = t.direct }

-- such rows, after one for the number 0
abbrev pub needing : List Ties → List Row
needing ties = unput ∷ map naming ties
