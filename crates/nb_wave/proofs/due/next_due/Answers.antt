use Rattle.std.proofs.Common.{◌∙◌}
use Rattle.nb_wave.specs.Rules.{due}
use Rattle.nb_wave.specs.Marks.{marked}
use Rattle.nb_wave.proofs.Dues.{rests_agree}
use Rattle.nb_wave.proofs.due.next_due.Goals as goal

pub least_start-requires-clause-near : goal.least_start-requires-clause-near
least_start-requires-clause-near c =
    λ v inside. c.spread.ensures v inside
    ∙ rests_agree (marked c.mark_due-2.new.marks) (due c.args.rows.now) c.args.rows.now c.requires.needs c.mark_due-2.ensures v inside
