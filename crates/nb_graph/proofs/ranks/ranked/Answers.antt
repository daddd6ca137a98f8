use Rattle.std.proofs.Common.{arith}
use Rattle.nb_graph.proofs.Ends.{walk_begun, walk_ended}
use Rattle.nb_graph.proofs.ranks.ranked.Goals as goal

pub loop-v-init : goal.loop-v-init
loop-v-init c =
    let w = c.in_ok-walk.walk in
    let e = c.in_ok-walk.ensures in
    record {
      walks = walk_begun c.args.graph.now c.len.result w.path.items w.bounds.items w.work.items w.places.items w.explored.items w.ranks.items c.len.ensures.value e.path e.bounds e.work e.places e.explored e.ranks;
      path = e.path;
      reached = λ x h. absurd (omega (arith, h));
    }

pub returns : goal.returns
returns c =
    let w = c.loop-v.walk in
    walk_ended c.args.graph.now w.path.items w.bounds.items w.work.items w.places.items w.explored.items w.ranks.items c.loop-v.invariant.walks c.loop-v.invariant.path
    (λ x h. c.loop-v.invariant.reached x (omega (arith, h)))
