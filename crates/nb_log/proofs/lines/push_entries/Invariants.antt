-- What is written, with the lines that are left, is the whole.
use Rattle.std.proofs.Common.{◌≡◌, ◌++◌, drop}
use Rattle.nb_log.specs.Printing.{entries_text}
use Rattle.nb_log.proofs.lines.push_entries.Given as goal

abbrev pub invariant-loop-entry : goal.invariant-loop-entry
invariant-loop-entry l = l.out ++ entries_text (drop l.entry-index l.entries) ≡ l.fn.out ++ entries_text l.entries
