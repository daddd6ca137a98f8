use Rattle.std.proofs.Common.{◌∙◌, ap, List, Bool}
use Rattle.nb_wave.specs.Rules.{due}
use Rattle.nb_wave.specs.Marks.{marked}
use Rattle.nb_wave.proofs.Dues.{rests_agree}
use Rattle.nb_wave.proofs.users.near.Goals as goal

pub returns-clause-marks : goal.returns-clause-marks
returns-clause-marks c =
    λ v inside.
    c.in_ok-new.ensures.marks v inside
    ∙ rests_agree (marked c.deref-2.result.now) (due c.args.rows.now) c.args.rows.now c.requires.needs
    (λ x k. ap (λ (l : List Bool). marked l x) c.deref-2.ensures.value ∙ c.in_ok-due.ensures.marks x k) v inside
