-- A sheet with what an undo makes of it.
use Rattle.std.specs.Prelude.{ℕ, ◌≤◌, List, length, take}
use Rattle.nb_value.specs.declared.pairs.Field.{Field}
use Rattle.nb_value.specs.declared.value.Value.{Value}
use Rattle.nb_sheet.specs.Derive.{Modules}
use Rattle.nb_sheet.specs.Sheet.{Sheet, IsSheet}
use Rattle.nb_sheet.specs.Changes.{put_back}
use Rattle.nb_sheet.specs.declared.row.VarRow.{VarRow}
use Rattle.nb_sheet.specs.declared.rows.Change.{Change}

-- the sheet now, and as it was at the last mark or as it was made
pub record Kept : Type 0 where
  pub sheet : Sheet
  pub marked : Sheet

-- the changes since the mark, when there were so many modules and rows
abbrev pub kept : List (Field Value) → Modules → List VarRow → List Change → ℕ → ℕ → Kept
kept builtins modules rows changes some_modules some_rows = record {
  sheet = record { builtins = builtins; modules = modules; rows = rows };
  marked = record { builtins = builtins; modules = take some_modules modules; rows = put_back changes (take some_rows rows) };
}

pub record IsKept (k : Kept) (some_modules some_rows : ℕ) : Type 0 where
  pub sheet : IsSheet k.sheet
  pub marked : IsSheet k.marked
  pub modules : some_modules ≤ length k.sheet.modules
  pub rows : some_rows ≤ length k.sheet.rows
