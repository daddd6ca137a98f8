use Rattle.std.proofs.Common.{subst, Bool}
use Rattle.nb_wave.specs.Marks.{IsWidened}
use Rattle.nb_wave.proofs.Spreads.{spreading_begins, spreading_more, spreading_ends}
use Rattle.nb_wave.proofs.due.spread.Goals as goal

pub loop-init : goal.loop-init
loop-init c = spreading_begins c.args.rows.now c.args.marks.now

pub loop-preserved : goal.loop-preserved
loop-preserved c = spreading_more c.args.rows.now c.args.marks.now c.loop.marks c.widen.new.marks c.widen.result c.loop.invariant c.widen.ensures

pub returns : goal.returns
returns c =
    spreading_ends c.args.rows.now c.requires.needs c.args.marks.now c.loop.marks c.widen.new.marks c.loop.invariant
    (subst (λ (b : Bool). IsWidened c.args.rows.now c.loop.marks b c.widen.new.marks) c.loop-test.false c.widen.ensures)
