use Rattle.std.proofs.Common.{sym, subst}
use Rattle.nb_wave_tests.specs.Ready.{Ascends}
use Rattle.nb_wave_tests.proofs.Ascending.{sound_from, ascends_runs}
use Rattle.nb_wave_tests.proofs.waves.closes.Goals as goal

pub close-requires-clause-sound : goal.close-requires-clause-sound
close-requires-clause-sound c = sound_from c.args.wave.now.rows c.requires.ready.present

pub returns : goal.returns
returns c =
    record {
      present = ascends_runs c.args.wave.now.rows c.args.place c.in_ok-found.found.items c.close.new.self.rows c.in_ok-found.ensures.closes.runs c.requires.ready.present;
      marked = subst Ascends (sym c.in_ok-found.ensures.marked) c.requires.ready.marked;
    }
