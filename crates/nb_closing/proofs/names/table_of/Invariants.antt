use Rattle.std.proofs.Common.{take}
use Rattle.nb_closing.specs.Names.{IsTable}
use Rattle.nb_closing.proofs.names.table_of.Given as goal

-- the table of the rows so far
abbrev pub invariant-loop-i : goal.invariant-loop-i
invariant-loop-i l = IsTable (take l.i l.rows) l.table
