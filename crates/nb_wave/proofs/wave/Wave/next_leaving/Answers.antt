use Rattle.std.proofs.Common.{ℕ, ◌≡◌, ◌≤◌, ◌∙◌, ap, false, None}
use Rattle.nb_wave.specs.Rules.{leaving}
use Rattle.nb_wave.specs.Wave.{Wave}
use Rattle.nb_wave.proofs.Runs.{none_leaving}
use Rattle.nb_wave.proofs.Closings.{found, if_none}
use Rattle.nb_wave.proofs.wave.Wave.next_leaving.Goals as goal

pub returns-clause-none : goal.returns-clause-none
returns-clause-none c =
    let rows = c.args.self.now.rows in
    if_none c.next_leaving.result ((v : ℕ) → 1 ≤ v → leaving rows v ≡ false)
    (λ e. none_leaving rows (found leaving c.deref.result.now rows c.next_leaving.result None c.next_leaving.ensures (c.deref.ensures.value ∙ ap (λ (w : Wave). w.rows) c.self.view_is) e))
