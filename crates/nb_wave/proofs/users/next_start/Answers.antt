use Rattle.std.proofs.Common.{◌∙◌, ap, List, Bool}
use Rattle.nb_wave.specs.Rules.{due}
use Rattle.nb_wave.specs.Marks.{marked}
use Rattle.nb_wave.proofs.Dues.{rests_agree}
use Rattle.nb_wave.proofs.users.next_start.Goals as goal

pub least_start-requires-clause-near : goal.least_start-requires-clause-near
least_start-requires-clause-near c =
    λ v inside.
    ap (λ (l : List Bool). marked l v) c.deref-4.ensures.value
    ∙ c.in_ok-near.ensures.marks v inside
    ∙ rests_agree (marked c.deref-2.result.now) (due c.args.rows.now) c.args.rows.now c.requires.needs
    (λ x k. ap (λ (l : List Bool). marked l x) c.deref-2.ensures.value ∙ c.in_ok-due.ensures.marks x k) v inside
