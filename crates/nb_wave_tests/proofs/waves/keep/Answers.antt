use Rattle.std.proofs.Common.{sym, subst}
use Rattle.nb_wave.specs.Wave.{kept_row}
use Rattle.nb_wave_tests.specs.Ready.{Ascends}
use Rattle.nb_wave_tests.proofs.Ascending.{ascends_changed}
use Rattle.nb_wave_tests.proofs.waves.keep.Goals as goal

pub returns : goal.returns
returns c =
    let rows = c.args.wave.now.rows in
    let v = c.args.var in
    record {
      present = subst Ascends (sym c.in_ok-keep.ensures.ok)
          (ascends_changed (kept_row c.in_ok-kept.kept) v rows (λ r at. c.requires.ready.present v r at) c.requires.ready.present);
      marked = subst Ascends (sym c.in_ok-keep.ensures.marked) c.requires.ready.marked;
    }
