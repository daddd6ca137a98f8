-- A cell without a name.
use Rattle.std.proofs.Common.{sym, ◌∙◌}
use Rattle.nb_lines.proofs.FaultLemmas.{unnamed_fails}
use Rattle.nb_lines.proofs.edits.named_cell.Goals as goal

pub returns-else-is_some-clause-bad : goal.returns-else-is_some-clause-bad
returns-else-is_some-clause-bad c = unnamed_fails c.args.text.now c.in_ok-cell.cell c.in_ok-cell.ensures.said (sym c.is_some.ensures ∙ c.if-is_some.false)
