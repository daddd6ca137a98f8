-- Rows that others took the place of.
use Rattle.std.specs.Prelude.{◌≡◌, ◌++◌, List, [], ◌∷◌, set}
use Rattle.nb_wave.specs.declared.row.Row.{Row}
use Rattle.nb_wave.specs.declared.table.Change.{Change}

-- the rows with those that were replaced put back, the last first
abbrev pub put_back : List Change → List Row → List Row
put_back [] rows = rows
put_back (c ∷ more) rows = set (put_back more rows) c.var c.row

-- what was done since: the changes that were added, put back, give the old rows
abbrev pub IsSince : List Change → List Row → List Change → List Row → Type 0
IsSince old_changes old new_changes new = (added : List Change) × (new_changes ≡ old_changes ++ added) × (put_back added new ≡ old)
