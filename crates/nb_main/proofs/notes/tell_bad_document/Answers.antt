use Rattle.std.proofs.Common.{◌∙◌}
use Rattle.nb_main.proofs.NoteLemmas.{document_told}
use Rattle.nb_main.proofs.notes.tell_bad_document.Goals as goal

pub returns-in-BadCell-clause-writes : goal.returns-in-BadCell-clause-writes
returns-in-BadCell-clause-writes g c =
    rw c.in-BadCell.is (rw (c.as_bytes-path.ensures.value ∙ c.as_str.ensures.value) at c.tell_bad_cell.ensures.writes)

pub returns-in_default : goal.returns-in_default
returns-in_default g c =
    rw (document_told c.args.path.now c.args.reason.now c.in_default.not-BadCell)
    (rw (c.as_bytes-path.ensures.value ∙ c.as_str.ensures.value, c.document_word-word.ensures) at c.write_reason.ensures)
