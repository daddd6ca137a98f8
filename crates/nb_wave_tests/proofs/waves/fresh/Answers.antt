use Rattle.nb_wave_tests.proofs.Ascending.{ready_new}
use Rattle.nb_wave_tests.proofs.waves.fresh.Goals as goal

pub returns : goal.returns
returns c = ready_new c.in_ok-new.field-0 c.in_ok-new.ensures.rows c.in_ok-new.ensures.marked
