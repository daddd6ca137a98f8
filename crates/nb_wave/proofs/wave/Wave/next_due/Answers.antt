use Rattle.std.proofs.Common.{ℕ, ◌≡◌, ◌≤◌, ◌∙◌, ap, subst, false, None}
use Rattle.nb_wave.specs.Rules.{due, may_start, NeedsVariables}
use Rattle.nb_wave.specs.Wave.{Wave}
use Rattle.nb_wave.proofs.Runs.{none_due}
use Rattle.nb_wave.proofs.Closings.{found, if_none}
use Rattle.nb_wave.proofs.wave.Wave.next_due.Goals as goal

pub returns-clause-none : goal.returns-clause-none
returns-clause-none c =
    let rows = c.args.self.now.rows in
    let needs : NeedsVariables rows = subst (λ (w : Wave). NeedsVariables w.rows) c.self.view_is c.self.invariant.present.needs in
    if_none c.next_due.result ((v : ℕ) → 1 ≤ v → due rows v ≡ false)
    (λ e. none_due rows needs c.requires (found may_start c.deref.result.now rows c.next_due.result None c.next_due.ensures (c.deref.ensures.value ∙ ap (λ (w : Wave). w.rows) c.self.view_is) e))
