use Rattle.std.proofs.Common.{ℕ, List, ◌≡◌, ◌∙◌, ◌-◌, sym, ap, length, take, arith, length-take}
use Rattle.std.proofs.lemmas.List.{get_or_read}
use Rattle.nb_graph.proofs.Rising.{read_last}
use Rattle.nb_graph.proofs.Turns.{turn, turn_low, left_walks}
use Rattle.nb_graph.proofs.ranks.Walk.step.Goals as goal

pub index-v-requires : goal.index-v-requires
index-v-requires c =
    omega (arith, turn_low c.args.graph.now c.args.self.now c.requires.walks c.requires.some c.len.result c.index-j.result.now (omega arith) c.index-j.ensures)

pub index-k-requires : goal.index-k-requires
index-k-requires c =
    let t = turn c.args.graph.now c.args.self.now c.requires.walks c.requires.some c.len.result c.index-j.result.now (omega arith) c.index-j.ensures c.index-v.result.now c.index-v.ensures in
    omega (arith, t.inside)

pub needs-requires : goal.needs-requires
needs-requires c =
    (turn c.args.graph.now c.args.self.now c.requires.walks c.requires.some c.len.result c.index-j.result.now (omega arith) c.index-j.ensures c.index-v.result.now c.index-v.ensures).node

pub follow-requires-clause-count : goal.follow-requires-clause-count
follow-requires-clause-count c =
    let t = turn c.args.graph.now c.args.self.now c.requires.walks c.requires.some c.len.result c.index-j.result.now (omega arith) c.index-j.ensures c.index-v.result.now c.index-v.ensures in
    get_or_read c.args.self.now.explored.items c.index-v.result.now c.index-k.result.now t.inside c.index-k.ensures 0

pub overflow_sub-len-else-k-needs : goal.overflow_sub-len-else-k-needs
overflow_sub-len-else-k-needs c =
    let t = turn c.args.graph.now c.args.self.now c.requires.walks c.requires.some c.len.result c.index-j.result.now (omega arith) c.index-j.ensures c.index-v.result.now c.index-v.ensures in
    omega (arith, t.some_bounds)

pub index-requires : goal.index-requires
index-requires c =
    let t = turn c.args.graph.now c.args.self.now c.requires.walks c.requires.some c.len.result c.index-j.result.now (omega arith) c.index-j.ensures c.index-v.result.now c.index-v.ensures in
    omega (arith, t.some_bounds)

pub close-requires-clause-bounds : goal.close-requires-clause-bounds
close-requires-clause-bounds c =
    (turn c.args.graph.now c.args.self.now c.requires.walks c.requires.some c.len.result c.index-j.result.now (omega arith) c.index-j.ensures c.index-v.result.now c.index-v.ensures).some_bounds

pub close-requires-clause-bound : goal.close-requires-clause-bound
close-requires-clause-bound c =
    let t = turn c.args.graph.now c.args.self.now c.requires.walks c.requires.some c.len.result c.index-j.result.now (omega arith) c.index-j.ensures c.index-v.result.now c.index-v.ensures in
    sym c.if-index-j.true ∙ read_last c.args.self.now.bounds.items c.len-else-k-needs.result c.index.result.now (omega arith) (omega (arith, t.some_bounds)) c.index.ensures

pub returns-else-index-j : goal.returns-else-index-j
returns-else-index-j c =
    let s = c.args.self.now in
    let t = turn c.args.graph.now s c.requires.walks c.requires.some c.len.result c.index-j.result.now (omega arith) c.index-j.ensures c.index-v.result.now c.index-v.ensures in
    let e : s.work.len ≡ length s.work.items = omega arith in
    record {
      walks = left_walks c.args.graph.now s c.requires.walks c.index-j.result.now c.index-v.result.now c.index-k.result.now c.len-else-k-needs.result c.index.result.now c.pop.new.self.items
          t c.requires.some (get_or_read s.explored.items c.index-v.result.now c.index-k.result.now t.inside c.index-k.ensures 0)
          (omega (arith, c.if-k-needs.false, ap (λ (l : List ℕ). length l) c.needs.ensures.value)) (omega arith) c.index.ensures c.if-index-j.false
          (c.pop.ensures.rest ∙ ap (λ (n : ℕ). take (n - 1) s.work.items) e);
      falls = omega (arith, ap (λ (l : List ℕ). length l) c.pop.ensures.rest, length-take (s.work.len - 1) s.work.items, c.requires.some);
      stays = λ x h. h;
    }
