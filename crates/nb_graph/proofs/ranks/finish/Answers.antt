use Rattle.std.proofs.Common.{◌<◌, length, get_or, refl, arith}
use Rattle.nb_graph.proofs.Lists.{index_has}
use Rattle.nb_graph.proofs.Finishing.{finished_more}
use Rattle.nb_graph.proofs.ranks.finish.Goals as goal

pub bounds-places-u : goal.bounds-places-u
bounds-places-u c =
    let inside : c.loop-u.u-index < length c.args.nodes.now = omega arith in
    omega (arith, c.requires (get_or c.args.nodes.now c.loop-u.u-index 0) (index_has c.args.nodes.now c.loop-u.u-index inside))

pub loop-u-preserved : goal.loop-u-preserved
loop-u-preserved c =
    let inside : c.loop-u.u-index < length c.args.nodes.now = omega arith in
    let low : get_or c.args.nodes.now c.loop-u.u-index 0 < length c.loop-u.places = omega (arith, c.requires (get_or c.args.nodes.now c.loop-u.u-index 0) (index_has c.args.nodes.now c.loop-u.u-index inside)) in
    finished_more c.args.nodes.now c.loop-u.u-index c.args.places.now c.loop-u.places _ c.loop-u.invariant inside low refl
