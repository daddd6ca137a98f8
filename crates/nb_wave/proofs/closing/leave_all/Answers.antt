use Rattle.std.proofs.Common.{◌≡◌, ◌<◌, sym, ap, subst, refl, List, length, Some, arith}
use Rattle.nb_wave.specs.declared.step.Step.{Step}
use Rattle.nb_wave.specs.Rules.{leaving, least}
use Rattle.nb_wave.specs.Steps.{ended, Runs}
use Rattle.nb_wave.proofs.Back.{since_refl, since_trans}
use Rattle.nb_wave.proofs.Runs.{IsLeast, least_some, leaving_few}
use Rattle.nb_wave.proofs.Stepped.{mild_ended}
use Rattle.nb_wave.proofs.Reversed.{users_of, reverse_stepped}
use Rattle.nb_wave.proofs.Closings.{found, left_rows, left_sound, left_runs, left_fewer, left_few}
use Rattle.nb_wave.proofs.closing.leave_all.Goals as goal

pub loop-v-init : goal.loop-v-init
loop-v-init c =
    let rows = c.args.rows.now.items in
    let none : length c.new-steps.result.items ≡ 0 = ap (λ (l : List Step). length l) c.new-steps.ensures.items in
    record {
      rows = c.requires.rows;
      sound = c.requires.sound;
      users = c.requires.users;
      runs = λ place. subst (λ (l : List Step). Runs rows place l rows) (sym c.new-steps.ensures.items) refl;
      few = omega (arith, none, leaving_few rows c.requires.rows.all);
      since = since_refl c.args.changes.now.items rows;
    }

pub leave-requires-clause-row : goal.leave-requires-clause-row
leave-requires-clause-row c =
    IsLeast.inside (least_some leaving c.loop-v.rows.items c.in-Some.v
    (found leaving c.deref.result.now c.loop-v.rows.items c.next_leaving.result (Some c.in-Some.v) c.next_leaving.ensures c.deref.ensures.value c.in-Some.is))

pub returns-in_err-leave-clause-since : goal.returns-in_err-leave-clause-since
returns-in_err-leave-clause-since c =
    since_trans c.args.changes.now.items c.loop-v.changes.items c.leave.new.changes.items c.args.rows.now.items c.loop-v.rows.items c.leave.new.rows.items c.loop-v.invariant.since c.leave.ensures.since

pub returns-in_err-push-clause-since : goal.returns-in_err-push-clause-since
returns-in_err-push-clause-since c =
    since_trans c.args.changes.now.items c.loop-v.changes.items c.leave.new.changes.items c.args.rows.now.items c.loop-v.rows.items c.leave.new.rows.items c.loop-v.invariant.since c.leave.ensures.since

pub loop-v-smaller : goal.loop-v-smaller
loop-v-smaller c =
    left_fewer c.args.rows.now.items c.loop-v.rows.items c.leave.new.rows.items c.loop-v.steps.items c.push.new.self.items c.in-Some.v
    (found leaving c.deref.result.now c.loop-v.rows.items c.next_leaving.result (Some c.in-Some.v) c.next_leaving.ensures c.deref.ensures.value c.in-Some.is)
    c.in_ok-leave.ensures.ok c.in_ok-push.ensures.items

pub loop-v-preserved : goal.loop-v-preserved
loop-v-preserved c =
    let first = c.args.rows.now.items in
    let rows = c.loop-v.rows.items in
    let new = c.leave.new.rows.items in
    let steps = c.loop-v.steps.items in
    let more = c.push.new.self.items in
    let v = c.in-Some.v in
    let h : least leaving rows ≡ Some v = found leaving c.deref.result.now rows c.next_leaving.result (Some v) c.next_leaving.ensures c.deref.ensures.value c.in-Some.is in
    let e = c.in_ok-leave.ensures.ok in
    let f = c.in_ok-push.ensures.items in
    let i = c.loop-v.invariant in
    record {
      rows = left_rows first rows new steps more v h e f i.rows;
      sound = left_sound first rows new steps more v h e f i.sound;
      users = reverse_stepped ended mild_ended v 0 rows new c.args.users.now e i.users;
      runs = λ place. left_runs first rows new steps more v h e f place (i.runs place);
      few = left_few first rows new steps more v h e f i.few;
      since = since_trans c.args.changes.now.items c.loop-v.changes.items c.leave.new.changes.items first rows new i.since c.leave.ensures.since;
    }

pub leave-requires-clause-users : goal.leave-requires-clause-users
leave-requires-clause-users c = users_of c.loop-v.rows.items c.args.users.now.lists.items c.in-Some.v c.of.result.now c.loop-v.invariant.users.lists c.of.ensures

pub of-requires : goal.of-requires
of-requires c =
    let low : c.in-Some.v < length c.loop-v.rows.items =
    IsLeast.inside (least_some leaving c.loop-v.rows.items c.in-Some.v
    (found leaving c.deref.result.now c.loop-v.rows.items c.next_leaving.result (Some c.in-Some.v) c.next_leaving.ensures c.deref.ensures.value c.in-Some.is)) in
    omega (arith, low, c.loop-v.invariant.users.lists.size)
