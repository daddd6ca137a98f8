use Rattle.std.proofs.Common.{◌∙◌, sym}
use Rattle.nb_wave.proofs.Dues.{held_marks}
use Rattle.nb_wave.proofs.due.mark_held.Goals as goal

pub returns-then-pulls : goal.returns-then-pulls
returns-then-pulls c =
    held_marks c.args.rows.now c.requires.needs c.mark_overtaken.new.marks c.spread.new.marks (sym c.if-pulls.true ∙ c.pulls.ensures) c.mark_overtaken.ensures c.spread.ensures
