use Rattle.std.proofs.Common.{◌<◌, length, get_or, arith}
use Rattle.nb_graph.proofs.Lists.{index_has}
use Rattle.nb_wave.proofs.Back.{since_refl, since_trans}
use Rattle.nb_wave.proofs.Spreads.{needs_inside}
use Rattle.nb_wave.proofs.Changing.{resting_begins, resting_more, resting_all}
use Rattle.nb_wave.proofs.steps.rest_all.Goals as goal

pub loop-u-init : goal.loop-u-init
loop-u-init c = record {
  rows = resting_begins c.args.v c.args.n c.args.users.now c.args.rows.now.items;
  since = since_refl c.args.changes.now.items c.args.rows.now.items;
}

pub rest_one-requires : goal.rest_one-requires
rest_one-requires c =
    let us = c.args.users.now in
    let i = c.loop-u.u-index in
    let inside : i < length us = omega arith in
    let low : get_or us i 0 < length c.args.rows.now.items = needs_inside c.args.rows.now.items (get_or us i 0) c.args.v (c.requires.only (get_or us i 0) (index_has us i inside)) in
    omega (arith, low, c.loop-u.invariant.rows.size)

pub returns-in_err-rest_one-clause-since : goal.returns-in_err-rest_one-clause-since
returns-in_err-rest_one-clause-since c =
    since_trans c.args.changes.now.items c.loop-u.changes.items c.rest_one.new.changes.items c.args.rows.now.items c.loop-u.rows.items c.rest_one.new.rows.items
    c.loop-u.invariant.since c.rest_one.ensures.since

pub loop-u-preserved : goal.loop-u-preserved
loop-u-preserved c = record {
  rows =
      resting_more c.args.v c.args.n c.args.users.now c.args.rows.now.items c.loop-u.rows.items c.rest_one.new.rows.items c.loop-u.u-index (omega arith) c.in_ok-rest_one.ensures.ok c.loop-u.invariant.rows;
  since =
      since_trans c.args.changes.now.items c.loop-u.changes.items c.rest_one.new.changes.items c.args.rows.now.items c.loop-u.rows.items c.rest_one.new.rows.items
      c.loop-u.invariant.since c.rest_one.ensures.since;
}

pub returns-clause-ok : goal.returns-clause-ok
returns-clause-ok c = resting_all c.args.v c.args.n c.args.users.now c.args.rows.now.items c.loop-u.rows.items c.loop-u.u-index c.requires (omega arith) c.loop-u.invariant.rows
