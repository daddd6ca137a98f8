use Rattle.std.proofs.Common.{◌<◌, length, get_or, arith}
use Rattle.nb_graph.proofs.Lists.{index_has}
use Rattle.nb_wave.proofs.due.any_marked.Goals as goal

pub bounds-marks-u : goal.bounds-marks-u
bounds-marks-u c =
    let inside : c.loop-u.u-index < length c.args.vars.now = omega arith in
    c.requires (get_or c.args.vars.now c.loop-u.u-index 0) (index_has c.args.vars.now c.loop-u.u-index inside)
