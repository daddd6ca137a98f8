use Rattle.std.proofs.Common.{◌∙◌, sym, arith}
use Rattle.nb_wave.specs.Rules.{passes, is_pulling}
use Rattle.nb_wave.proofs.Places.{passes_read, none_more, any_found, any_none}
use Rattle.nb_wave.proofs.due.pulls.Goals as goal

pub returns-then-is_pulling : goal.returns-then-is_pulling
returns-then-is_pulling c =
    sym (any_found (passes is_pulling c.args.rows.now) c.args.rows.now c.loop-v.v (omega arith) (omega arith)
    (passes_read is_pulling c.args.rows.now c.loop-v.v c.index-rows-v.result (omega arith) c.index-rows-v.is ∙ sym c.is_pulling.ensures ∙ c.if-is_pulling.true))

pub loop-v-preserved : goal.loop-v-preserved
loop-v-preserved c =
    none_more (passes is_pulling c.args.rows.now) c.loop-v.v c.loop-v.invariant
    (passes_read is_pulling c.args.rows.now c.loop-v.v c.index-rows-v.result (omega arith) c.index-rows-v.is ∙ sym c.is_pulling.ensures ∙ c.if-is_pulling.false)

pub returns : goal.returns
returns c = sym (any_none (passes is_pulling c.args.rows.now) c.args.rows.now c.loop-v.v (omega arith) c.loop-v.invariant)
