use Rattle.std.proofs.Common.{◌∙◌, ap}
use Rattle.nb_wave.specs.Wave.{Wave}
use Rattle.nb_wave.proofs.Back.{since_back}
use Rattle.nb_wave.proofs.Rows.{wave_since}
use Rattle.nb_wave.proofs.wave.Wave.close.Goals as goal

pub invariant_of-self : goal.invariant_of-self
invariant_of-self c =
    wave_since c.self.inside.changes.items c.close_all.new.changes.items c.self.inside.rows.items c.close_all.new.rows.items c.self.invariant c.in-Ok.ensures.since c.in-Ok.ensures.rows

pub returns-in-Ok-clause-marked : goal.returns-in-Ok-clause-marked
returns-in-Ok-clause-marked c =
    since_back c.self.inside.changes.items c.close_all.new.changes.items c.self.inside.rows.items c.close_all.new.rows.items c.in-Ok.ensures.since
    ∙ ap (λ (w : Wave). w.marked) c.self.view_is
