use Rattle.std.proofs.Common.{◌∙◌, arith}
use Rattle.nb_wave.proofs.Changing.{renumbered_more, renumbered_end}
use Rattle.nb_wave.proofs.steps.renumber.Goals as goal

pub loop-i-preserved : goal.loop-i-preserved
loop-i-preserved c =
    c.in_ok-push.ensures.items
    ∙ renumbered_more c.args.v c.args.n c.args.vars.now c.args.numbers.now c.loop-i.new.items c.loop-i.i c.renumber_one.result (omega arith) c.renumber_one.ensures c.loop-i.invariant

pub returns : goal.returns
returns c = renumbered_end c.args.v c.args.n c.args.vars.now c.args.numbers.now c.loop-i.new.items c.loop-i.i (omega arith) c.loop-i.invariant
