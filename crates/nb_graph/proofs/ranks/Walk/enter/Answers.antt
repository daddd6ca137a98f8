use Rattle.std.proofs.Common.{arith}
use Rattle.nb_graph.proofs.Steps.{walk_entered_at}
use Rattle.nb_graph.proofs.ranks.Walk.enter.Goals as goal

pub returns-clause-walks : goal.returns-clause-walks
returns-clause-walks c =
    let s = c.args.self.now in
    walk_entered_at c.args.graph.now s.path.items s.bounds.items s.work.items s.places.items s.explored.items s.ranks.items c.args.v c.len-at.result
    c.push.new.self.items c.push-2.new.self.items c.push-3.new.self.items c.requires.walks c.requires.node c.requires.place c.requires.reached
    (omega arith) c.in_ok-push.ensures.items c.in_ok-push-2.ensures.items c.in_ok-push-3.ensures.items
