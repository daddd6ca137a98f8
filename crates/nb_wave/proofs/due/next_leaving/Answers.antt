use Rattle.std.proofs.Common.{◌∙◌, sym, arith}
use Rattle.nb_wave.specs.Rules.{leaving, is_leaving}
use Rattle.nb_wave.proofs.Places.{passes_read, none_more, least_found, least_none}
use Rattle.nb_wave.proofs.due.next_leaving.Goals as goal

pub returns-then-is_leaving : goal.returns-then-is_leaving
returns-then-is_leaving c =
    sym (least_found (leaving c.args.rows.now) c.args.rows.now c.loop-v.v (omega arith) (omega arith)
    (passes_read is_leaving c.args.rows.now c.loop-v.v c.index-rows-v.result (omega arith) c.index-rows-v.is ∙ sym c.is_leaving.ensures ∙ c.if-is_leaving.true)
    c.loop-v.invariant)

pub loop-v-preserved : goal.loop-v-preserved
loop-v-preserved c =
    none_more (leaving c.args.rows.now) c.loop-v.v c.loop-v.invariant
    (passes_read is_leaving c.args.rows.now c.loop-v.v c.index-rows-v.result (omega arith) c.index-rows-v.is ∙ sym c.is_leaving.ensures ∙ c.if-is_leaving.false)

pub returns : goal.returns
returns c = sym (least_none (leaving c.args.rows.now) c.args.rows.now c.loop-v.v (omega arith) c.loop-v.invariant)
