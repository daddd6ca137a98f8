-- Why a text is no cell.
use Rattle.nb_doc.proofs.FailLemmas.{cell_fails}
use Rattle.nb_doc.proofs.contents.cell_of_text.Goals as goal

pub returns-in-Err-clause-bad : goal.returns-in-Err-clause-bad
returns-in-Err-clause-bad c = rw c.cell_fail.ensures (cell_fails c.args.text.now c.in-Err.fault c.in-Err.ensures.none c.in-Err.ensures.refused)
