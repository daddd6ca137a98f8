use Rattle.std.proofs.Common.{sym, subst, true}
use Rattle.nb_wave.specs.Wave.{put_row}
use Rattle.nb_wave_tests.specs.Ready.{Ascends}
use Rattle.nb_wave_tests.proofs.Ascending.{ascends_changed}
use Rattle.nb_wave_tests.proofs.waves.put_later.Goals as goal

pub returns : goal.returns
returns c =
    let rows = c.args.wave.now.rows in
    let v = c.args.var in
    let needs = c.args.needs.now in
    record {
      present = subst Ascends (sym c.in_ok-put.ensures.ok)
          (ascends_changed (put_row true c.args.later c.in_ok-now.now needs) v rows (λ r at. (c.in_ok-now.ensures.mark, λ u h. (c.all_before.ensures c.if-not-all_before.false u h).1))
          c.requires.ready.present);
      marked = subst Ascends (sym c.in_ok-put.ensures.marked) c.requires.ready.marked;
    }
