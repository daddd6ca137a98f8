use Rattle.std.proofs.Common.{refl}
use Rattle.nb_wave.specs.Steps.{begun}
use Rattle.nb_wave.proofs.Back.{since_trans}
use Rattle.nb_wave.proofs.Changing.{stepped_is, users_replaced}
use Rattle.nb_wave.proofs.steps.begin.Goals as goal

pub returns-clause-ok : goal.returns-clause-ok
returns-clause-ok c =
    stepped_is begun c.args.v c.args.place c.args.rows.now.items c.replace.new.rows.items c.rest_all.new.rows.items c.index.result.now c.in_ok-row.row c.requires.row c.index.ensures c.in_ok-row.ensures
    c.in_ok-replace.ensures.ok c.in_ok-rest_all.ensures.ok

pub returns-clause-since : goal.returns-clause-since
returns-clause-since c =
    since_trans c.args.changes.now.items c.replace.new.changes.items c.rest_all.new.changes.items c.args.rows.now.items c.replace.new.rows.items c.rest_all.new.rows.items
    c.replace.ensures.since c.rest_all.ensures.since

pub returns-in_err-rest_all-clause-since : goal.returns-in_err-rest_all-clause-since
returns-in_err-rest_all-clause-since c =
    since_trans c.args.changes.now.items c.replace.new.changes.items c.rest_all.new.changes.items c.args.rows.now.items c.replace.new.rows.items c.rest_all.new.rows.items
    c.replace.ensures.since c.rest_all.ensures.since

pub rest_all-requires : goal.rest_all-requires
rest_all-requires c =
    users_replaced begun (λ r. refl) c.args.v c.args.rows.now.items c.replace.new.rows.items c.args.users.now c.index.result.now c.in_ok-row.row c.requires.row c.index.ensures c.in_ok-row.ensures
    c.in_ok-replace.ensures.ok c.requires.users
