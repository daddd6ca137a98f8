use Rattle.std.proofs.Common.{arith}
use Rattle.nb_wave.proofs.Back.{since_trans}
use Rattle.nb_wave.proofs.Runs.{closes_from}
use Rattle.nb_wave.proofs.closing.close_all.Goals as goal

pub returns-in_err-start_each-clause-since : goal.returns-in_err-start_each-clause-since
returns-in_err-start_each-clause-since c =
    since_trans c.args.changes.now.items c.leave_all.new.changes.items c.start_each.new.changes.items c.args.rows.now.items c.leave_all.new.rows.items c.start_each.new.rows.items
    c.leave_all.ensures.since c.start_each.ensures.since

pub returns-clause-since : goal.returns-clause-since
returns-clause-since c =
    since_trans c.args.changes.now.items c.leave_all.new.changes.items c.start_each.new.changes.items c.args.rows.now.items c.leave_all.new.rows.items c.start_each.new.rows.items
    c.leave_all.ensures.since c.start_each.ensures.since

pub returns-clause-closes : goal.returns-clause-closes
returns-clause-closes c =
    closes_from c.args.rows.now.items c.args.place c.start_each.new.steps.items c.start_each.new.rows.items c.requires.rows c.requires.sound
    c.in_ok-start_each.ensures.rows c.in_ok-start_each.ensures.sound
    (c.in_ok-start_each.ensures.runs c.args.rows.now.items c.args.place (omega arith) (c.in_ok-steps.ensures.runs c.args.place))
    c.in_ok-start_each.ensures.ends
