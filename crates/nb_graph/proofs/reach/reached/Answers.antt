use Rattle.std.proofs.Common.{◌≡◌, sym, length, take, drop, ◌++◌, List, Bool, arith, subst}
use Rattle.std.proofs.lemmas.List.{take_at, nil_from_length}
use Rattle.nb_graph.proofs.Marks.{IsReaching, waiting_inside, reaching_more, reaching_end}
use Rattle.nb_graph.proofs.reach.reached.Goals as goal

pub needs-requires : goal.needs-requires
needs-requires c =
    waiting_inside c.args.graph.now c.args.roots.now c.loop-v.marks.items c.loop-v.stack.items c.pop.new.self.items c.in-Some.v c.loop-v.invariant c.in-Some.ensures.items

pub loop-v-preserved : goal.loop-v-preserved
loop-v-preserved c =
    let old = c.loop-v.marks.items in
    let new = c.mark-in-Some.new.marks in
    let e : take c.loop-v.marks.len (new ++ drop (length new) old) ≡ new = take_at new (drop (length new) old) c.loop-v.marks.len (omega arith) in
    subst (λ (l : List Bool). IsReaching c.args.graph.now c.args.roots.now l c.mark-in-Some.new.stack.items) (sym e)
    (reaching_more c.args.graph.now c.args.roots.now c.deref_mut-in-Some.result.now new c.loop-v.stack.items c.pop.new.self.items c.mark-in-Some.new.stack.items c.needs.result.now c.in-Some.v
    (subst (λ (l : List Bool). IsReaching c.args.graph.now c.args.roots.now l c.loop-v.stack.items) (sym c.deref_mut-in-Some.ensures.value) c.loop-v.invariant)
    c.in-Some.ensures.items c.needs.ensures.value c.in_ok-mark-2.ensures)

pub returns : goal.returns
returns c = reaching_end c.args.graph.now c.args.roots.now c.loop-v.marks.items c.loop-v.stack.items c.loop-v.invariant (nil_from_length c.loop-v.stack.items (omega (arith, c.in_default.ensures.cases)))
