use Rattle.std.proofs.Common.{◌∙◌}
use Rattle.nb_main.proofs.NoteLemmas.{line_told}
use Rattle.nb_main.proofs.notes.tell_bad_line.Goals as goal

pub returns-in-BadCell-clause-writes : goal.returns-in-BadCell-clause-writes
returns-in-BadCell-clause-writes g c =
    rw c.in-BadCell.is (rw (c.as_bytes-line.ensures.value ∙ c.format.ensures.text) at c.tell_bad_cell.ensures.writes)

pub returns-in_default : goal.returns-in_default
returns-in_default g c =
    rw (line_told c.args.line c.args.reason.now c.in_default.not-BadCell)
    (rw (c.as_bytes-line.ensures.value ∙ c.format.ensures.text, c.reason_word-word.ensures, c.reason_key.ensures) at c.write_reason.ensures)
