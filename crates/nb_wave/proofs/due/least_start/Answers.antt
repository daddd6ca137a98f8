use Rattle.std.proofs.Common.{◌∙◌, sym, arith}
use Rattle.nb_wave.specs.Rules.{may_start}
use Rattle.nb_wave.proofs.Places.{none_more, least_found, least_none}
use Rattle.nb_wave.proofs.Dues.{starts_is}
use Rattle.nb_wave.proofs.due.least_start.Goals as goal

pub returns-then-starts : goal.returns-then-starts
returns-then-starts c =
    sym (least_found (may_start c.args.rows.now) c.args.rows.now c.loop-v.v (omega arith) (omega arith)
    (sym (starts_is c.args.rows.now c.requires.needs c.args.due.now c.args.near.now c.loop-v.v c.index-rows-v.result (omega arith) c.index-rows-v.is c.requires.due c.requires.near) ∙ sym c.starts.ensures ∙ c.if-starts.true)
    c.loop-v.invariant)

pub loop-v-preserved : goal.loop-v-preserved
loop-v-preserved c =
    none_more (may_start c.args.rows.now) c.loop-v.v c.loop-v.invariant
    (sym (starts_is c.args.rows.now c.requires.needs c.args.due.now c.args.near.now c.loop-v.v c.index-rows-v.result (omega arith) c.index-rows-v.is c.requires.due c.requires.near) ∙ sym c.starts.ensures ∙ c.if-starts.false)

pub returns : goal.returns
returns c = sym (least_none (may_start c.args.rows.now) c.args.rows.now c.loop-v.v (omega arith) c.loop-v.invariant)
