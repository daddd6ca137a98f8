-- The lines of a made notebook.
use Rattle.std.specs.Prelude.{ℕ, ◌+◌, ◌*◌, List, [], ◌∷◌, ◌++◌, map, true}
use Rattle.std.specs.List.{range_with_len}
use Rattle.nb_syntax.specs.declared.tree.Cell.{Cell}
use Rattle.nb_sheet.specs.declared.edit.Edit.TheVariants.{AddCell, Redefine}
use Rattle.nb_log.specs.declared.event.Event.{Event}
use Rattle.nb_log.specs.declared.event.Event.TheVariants.{Edit, Frame, Rest}
use Rattle.nb_lines.specs.declared.script.ScriptLine.{ScriptLine}
use Rattle.nb_make.specs.Draws.{draw}
use Rattle.nb_make.specs.Cells.{cell_of, number_cell}

-- a line of editor 0
abbrev pub line : Event → ScriptLine
line e = record { editor = 0; event = e }

-- the line of a cell of module 0, which is observed
abbrev pub cell_line : Cell → ScriptLine
cell_line c = line (Edit (AddCell 0 c true))

-- the cell behind k others, with its three draws
abbrev pub cell_at : ℕ → ℕ → Cell
cell_at seed k = cell_of (k + 1) (draw seed (3 * k)) (draw seed (3 * k + 1)) (draw seed (3 * k + 2))

-- the lines of the first n cells
abbrev pub cell_lines : ℕ → ℕ → List ScriptLine
cell_lines n seed = map (λ k. cell_line (cell_at seed k)) (range_with_len 0 n)

-- three frames, the redefine `c1 = n`, and a rest
abbrev pub last_lines : ℕ → List ScriptLine
last_lines n = line Frame ∷ line Frame ∷ line Frame ∷ line (Edit (Redefine 0 (number_cell 1 n))) ∷ line Rest ∷ []

-- n cells, and then the lines that end every made notebook
unfoldable pub made : ℕ → ℕ → List ScriptLine
made n seed = cell_lines n seed ++ last_lines n
