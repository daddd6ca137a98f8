use Rattle.std.proofs.Common.{◌+◌, drop, arith}
use Rattle.std.proofs.lemmas.List.{drop_all}
use Rattle.nb_core.proofs.Replays.{replay_begins, next_left, replay_fits, replay_goes_on, replay_ends}
use Rattle.nb_core.proofs.replaying.reading.Goals as goal

pub loop-entry-init : goal.loop-entry-init
loop-entry-init c =
    replay_begins c.args.builtins.now c.in_ok-copy.field-0 c.args.log.now.entries c.as_slice-entry-items.result.now c.in_ok-machine.machine.history c.new-ties.result.items c.requires.legal
    c.as_slice-entry-items.ensures c.in_ok-copy.ensures c.in_ok-machine.ensures c.new-ties.ensures.items

pub replay_next-requires-clause-ties : goal.replay_next-requires-clause-ties
replay_next-requires-clause-ties c = c.loop-entry.invariant.tied

pub replay_next-requires-clause-fits : goal.replay_next-requires-clause-fits
replay_next-requires-clause-fits c =
    let items = c.as_slice-entry-items.result.now in
    let i = c.loop-entry.entry-index in
    replay_fits c.args.builtins.now c.args.log.now.entries (drop i items) (drop (i + 1) items) c.entry-item.result c.loop-entry.machine.history c.loop-entry.ties.items
    (next_left items i c.entry-item.result c.loop-entry-test.true c.entry-item.is) c.loop-entry.invariant

pub loop-entry-preserved : goal.loop-entry-preserved
loop-entry-preserved c =
    let items = c.as_slice-entry-items.result.now in
    let i = c.loop-entry.entry-index in
    replay_goes_on c.args.builtins.now c.args.log.now.entries (drop i items) (drop (i + 1) items) c.entry-item.result c.loop-entry.machine.history c.replay_next.new.machine.history c.loop-entry.ties.items c.replay_next.new.ties.items
    (next_left items i c.entry-item.result c.loop-entry-test.true c.entry-item.is) c.loop-entry.invariant c.in_ok-replay_next.ensures.entry c.in_ok-replay_next.ensures.ties

pub returns : goal.returns
returns c =
    let items = c.as_slice-entry-items.result.now in
    let i = c.loop-entry.entry-index in
    replay_ends c.args.builtins.now c.args.log.now.entries (drop i items) c.loop-entry.machine.history c.loop-entry.ties.items c.into_reading.result
    (drop_all i items (omega (arith, c.loop-entry-test.false))) c.loop-entry.invariant c.into_reading.ensures
