use Rattle.std.proofs.Common.{◌∙◌}
use Rattle.nb_main.proofs.NoteLemmas.{fault_told}
use Rattle.nb_main.proofs.notes.tell_bad_cell.Goals as goal

pub returns-in_default : goal.returns-in_default
returns-in_default g c =
    rw (fault_told c.args.what.now c.args.place.now c.args.fault.now c.in_default.not-Unexpected)
    (rw (c.fault_word.ensures, c.as_bytes-at.ensures.value ∙ c.format.ensures.text, c.fault_place.ensures) at c.write_fault.ensures)
