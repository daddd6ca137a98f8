use Rattle.std.proofs.Common.{ℕ, ◌-◌, ◌∙◌, ap, get_or, arith}
use Rattle.nb_graph.proofs.Rising.{some_there, narrowing_more, narrowed_some}
use Rattle.nb_graph.proofs.ranks.narrow.Goals as goal

pub loop-bounds-preserved : goal.loop-bounds-preserved
loop-bounds-preserved c =
    narrowing_more c.args.bounds.now.items c.args.i c.loop-bounds.bounds.items c.pop.new.self.items c.loop-bounds.bounds.len c.index.result.now c.loop-bounds.invariant
    (omega arith) (some_there c.loop-bounds.bounds.len c.loop-bounds-test.ensures) (c.index.ensures ∙ ap (λ (n : ℕ). get_or c.loop-bounds.bounds.items (n - 1) c.index.result.now) c.len.ensures) (omega arith) c.pop.ensures.rest

pub returns-else-index-i : goal.returns-else-index-i
returns-else-index-i c =
    narrowed_some c.args.bounds.now.items c.args.i c.loop-bounds.bounds.items c.loop-bounds.bounds.len c.index.result.now c.loop-bounds.invariant
    (omega arith) (some_there c.loop-bounds.bounds.len c.loop-bounds-test.ensures) (c.index.ensures ∙ ap (λ (n : ℕ). get_or c.loop-bounds.bounds.items (n - 1) c.index.result.now) c.len.ensures) (omega arith)
