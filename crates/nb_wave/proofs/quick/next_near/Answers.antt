use Rattle.std.proofs.Common.{ℕ, ◌<◌, ◌≤◌, ◌∙◌, sym, ap, List, length, arith}
use Rattle.nb_graph.specs.Needs.{has}
use Rattle.nb_wave.specs.QuickRows.{starts_next}
use Rattle.nb_wave.proofs.Places.{none_more, least_found, least_none, needs_read}
use Rattle.nb_wave.proofs.QuickLoops.{next_read}
use Rattle.nb_wave.proofs.quick.next_near.Goals as goal

pub is_next-requires : goal.is_next-requires
is_next-requires c =
    let rows = c.args.rows.now in
    let v = c.loop-v.v in
    λ u h.
    let t : (1 ≤ u) × (u < length rows) = c.requires.needs v u (ap (λ (l : List ℕ). has l u) (needs_read rows v c.index-rows-v.result (omega arith) c.index-rows-v.is) ∙ h) in
    omega (arith, t.1, c.requires.size)

pub returns-then-is_next : goal.returns-then-is_next
returns-then-is_next c =
    sym (least_found (starts_next c.args.near.now c.args.rows.now) c.args.rows.now c.loop-v.v (omega arith) (omega arith)
    (sym (next_read c.args.near.now c.args.rows.now c.loop-v.v c.index-rows-v.result (omega arith) c.index-rows-v.is) ∙ sym c.is_next.ensures ∙ c.if-is_next.true)
    c.loop-v.invariant)

pub loop-v-preserved : goal.loop-v-preserved
loop-v-preserved c =
    none_more (starts_next c.args.near.now c.args.rows.now) c.loop-v.v c.loop-v.invariant
    (sym (next_read c.args.near.now c.args.rows.now c.loop-v.v c.index-rows-v.result (omega arith) c.index-rows-v.is) ∙ sym c.is_next.ensures ∙ c.if-is_next.false)

pub returns : goal.returns
returns c = sym (least_none (starts_next c.args.near.now c.args.rows.now) c.args.rows.now c.loop-v.v (omega arith) c.loop-v.invariant)
