use Rattle.std.proofs.Common.{◌∙◌, sym, arith}
use Rattle.nb_wave.proofs.QuickLoops.{quick_more, quick_all}
use Rattle.nb_wave.proofs.quick.are_quick.Goals as goal

pub loop-v-preserved : goal.loop-v-preserved
loop-v-preserved c =
    quick_more c.args.rows.now c.args.near.now c.args.place c.loop-v.v c.index-rows-v.result (omega arith) c.index-rows-v.is (c.is_quick.ensures c.if-not-is_quick.false) c.loop-v.invariant

pub returns : goal.returns
returns c =
    λ _.
    quick_all c.args.rows.now c.args.near.now c.args.place c.loop-v.v (omega arith) (sym c.pulls.ensures ∙ c.if-pulls.false) c.requires.size c.requires.near c.loop-v.invariant
