use Rattle.std.proofs.Common.{ℕ, List, ◌≡◌, ◌∙◌, ◌<◌, sym, ap, get_or, length, arith}
use Rattle.nb_graph.specs.Needs.{has}
use Rattle.nb_graph.specs.Graph.{needs_of}
use Rattle.nb_graph.proofs.Lists.{index_has}
use Rattle.nb_graph.proofs.Turns.{last_low, node_inside, followed_walks, followed_falls}
use Rattle.nb_graph.proofs.ranks.Walk.follow.Goals as goal

pub lead-requires-clause-node : goal.lead-requires-clause-node
lead-requires-clause-node c =
    let e = c.needs.ensures.value in
    let inside : c.args.k < length c.needs.result.now = omega (arith, c.requires.more, ap (λ (l : List ℕ). length l) e) in
    c.needs.ensures.graph.nodes c.args.v (get_or c.needs.result.now c.args.k 0)
    (sym (ap (λ (l : List ℕ). has l (get_or c.needs.result.now c.args.k 0)) e) ∙ index_has c.needs.result.now c.args.k inside)

pub index_mut-requires : goal.index_mut-requires
index_mut-requires c =
    let s = c.args.self.now in
    let low : c.args.j < length s.path.items = last_low c.args.graph.now s.path.items s.bounds.items s.work.items s.places.items s.explored.items s.ranks.items c.requires.walks c.args.j c.requires.some c.requires.last in
    let need : get_or c.needs.result.now c.args.k 0 ≡ get_or (needs_of c.args.graph.now c.args.v) c.args.k 0 = ap (λ (l : List ℕ). get_or l c.args.k 0) c.needs.ensures.value in
    omega (arith, node_inside c.args.graph.now s c.lead.new.self c.args.j c.args.v c.args.k (get_or c.needs.result.now c.args.k 0) c.requires.walks low c.requires.node c.requires.count c.requires.more need c.in_ok-lead.ensures)

pub returns : goal.returns
returns c =
    let s = c.args.self.now in
    let low : c.args.j < length s.path.items = last_low c.args.graph.now s.path.items s.bounds.items s.work.items s.places.items s.explored.items s.ranks.items c.requires.walks c.args.j c.requires.some c.requires.last in
    let need : get_or c.needs.result.now c.args.k 0 ≡ get_or (needs_of c.args.graph.now c.args.v) c.args.k 0 = ap (λ (l : List ℕ). get_or l c.args.k 0) c.needs.ensures.value in
    record {
      walks = followed_walks c.args.graph.now s c.lead.new.self c.args.j c.args.v c.args.k (get_or c.needs.result.now c.args.k 0) c.requires.walks low c.requires.node c.requires.count c.requires.more need c.in_ok-lead.ensures;
      falls = followed_falls c.args.graph.now s c.lead.new.self c.args.j c.args.v c.args.k (get_or c.needs.result.now c.args.k 0) c.requires.walks low c.requires.node c.requires.count c.requires.more need c.in_ok-lead.ensures;
      stays = c.in_ok-lead.ensures.stays;
    }
