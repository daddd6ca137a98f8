use Rattle.std.proofs.Common.{◌≡◌, ◌*◌}
use Rattle.nb_make.specs.Draws.{state}
use Rattle.nb_make.specs.Made.{cell_lines}
use Rattle.nb_make.proofs.lines.cell_lines.Given as goal

abbrev pub invariant-loop-k : goal.invariant-loop-k
invariant-loop-k l = record { so_far : l.lines ≡ cell_lines l.k l.seed; drawn : l.state ≡ state l.seed (3 * l.k) }
