use Rattle.std.proofs.Common.{◌∙◌, sym}
use Rattle.nb_wave.specs.Rules.{is_overtaken}
use Rattle.nb_wave.proofs.Dues.{held_marks}
use Rattle.nb_wave.proofs.Reversed.{marks_of}
use Rattle.nb_wave.proofs.users.held.Goals as goal

pub returns-clause-marks : goal.returns-clause-marks
returns-clause-marks c =
    held_marks c.args.rows.now c.requires.needs c.deref.result.now c.in_ok-new.new.items (sym c.if-not-pulls.false ∙ c.pulls.ensures)
    (marks_of is_overtaken c.args.rows.now c.deref.result.now (c.deref.ensures.value ∙ c.in_ok-marks.ensures)) c.in_ok-new.ensures.marks
