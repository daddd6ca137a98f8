use Rattle.nb_wave_tests.proofs.Ascending.{sound_from}
use Rattle.nb_wave_tests.proofs.waves.next.Goals as goal

pub next_due-requires : goal.next_due-requires
next_due-requires c = sound_from c.args.wave.now.rows c.requires.present
