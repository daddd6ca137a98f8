-- What is left of a row of texts.
use Rattle.std.specs.Prelude.{ℕ, List, ◌==◌, if◌then◌else◌}
use Rattle.nb_syntax.specs.Print.{each_after, separated}

-- the texts from this place of a row on
abbrev pub from_place : ℕ → List ℕ → List (List ℕ) → List ℕ
from_place place separator ts = if place == 0 then separated separator ts else each_after separator ts
