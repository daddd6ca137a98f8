-- The reading that a sheet and starts are parts of.
use Rattle.std.specs.Prelude.{◌≡◌, List, Option}
use Rattle.nb_sheet.specs.Sheet.{Sheet}
use Rattle.nb_history.specs.Reading.{Reading, Start}

pub record IsOver (r : Reading) (s : Sheet) (all : List (Option Start)) : Type 0 where
  pub sheet : r.sheet ≡ s
  pub starts : r.starts ≡ all
