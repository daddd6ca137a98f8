use Rattle.std.proofs.Common.{◌<◌, length, get_or, arith}
use Rattle.nb_graph.proofs.Lists.{index_has}
use Rattle.nb_graph.proofs.Finishing.{greatest_more}
use Rattle.nb_graph.proofs.ranks.rank_above.Goals as goal
use Rattle.nb_graph.proofs.ranks.rank_above.Goals.{then-rank-highest, else-rank-highest}

pub bounds-ranks-u : goal.bounds-ranks-u
bounds-ranks-u c =
    let inside : c.loop-u.u-index < length c.args.nodes.now = omega arith in
    omega (arith, c.requires.nodes (get_or c.args.nodes.now c.loop-u.u-index 0) (index_has c.args.nodes.now c.loop-u.u-index inside))

pub loop-u-preserved : goal.loop-u-preserved
loop-u-preserved c =
    let inside : c.loop-u.u-index < length c.args.nodes.now = omega arith in
    let more = greatest_more c.args.ranks.now c.args.nodes.now c.loop-u.u-index inside in
    elim c.if-rank-highest.branch [ then-rank-highest w ↦ omega (arith, more) | else-rank-highest w ↦ omega (arith, more) ]
