use Rattle.std.proofs.Common.{◌≡◌, ◌+◌, ◌<◌, refl, false, length, set, Some, None, arith}
use Rattle.nb_wave.specs.Rules.{may_start, least}
use Rattle.nb_wave.specs.Steps.{begun, Runs}
use Rattle.nb_wave.proofs.Back.{since_refl, since_trans}
use Rattle.nb_wave.proofs.Runs.{IsLeast, least_some, next_none, still_starting, starting_few}
use Rattle.nb_wave.proofs.Stepped.{mild_begun}
use Rattle.nb_wave.proofs.Reversed.{users_of, reverse_stepped}
use Rattle.nb_wave.proofs.Closings.{begun_rows, begun_sound, begun_none, begun_runs, begun_at, begun_fewer}
use Rattle.nb_wave.proofs.QuickLoops.{found_next, quick_started}
use Rattle.nb_wave.proofs.quick.start_quickly.Goals as goal

pub loop-v-init : goal.loop-v-init
loop-v-init c =
    let rows = c.args.rows.now.items in
    record {
      rows = c.requires.rows;
      sound = c.requires.sound;
      users = c.requires.users;
      quick = c.requires.quick;
      none = c.requires.none;
      runs = λ first p at runs. (at, runs);
      few = omega (arith, starting_few rows c.requires.rows.all);
      since = since_refl c.args.changes.now.items rows;
    }

pub begin-requires-clause-row : goal.begin-requires-clause-row
begin-requires-clause-row c =
    let i = c.loop-v.invariant in
    IsLeast.inside (least_some may_start c.loop-v.rows.items c.in-Some.v
    (found_next c.deref.result.now c.loop-v.rows.items c.deref-in-loop-v.result.now c.loop-v.near.items c.loop-v.next c.next_near.result (Some c.in-Some.v) i.rows i.sound i.quick c.next_near.ensures c.deref.ensures.value
    c.deref-in-loop-v.ensures.value c.in-Some.is))

pub returns-in_err-begin-clause-since : goal.returns-in_err-begin-clause-since
returns-in_err-begin-clause-since c =
    since_trans c.args.changes.now.items c.loop-v.changes.items c.begin.new.changes.items c.args.rows.now.items c.loop-v.rows.items c.begin.new.rows.items c.loop-v.invariant.since c.begin.ensures.since

pub index_mut-requires : goal.index_mut-requires
index_mut-requires c =
    let i = c.loop-v.invariant in
    let low : c.in-Some.v < length c.loop-v.rows.items =
    IsLeast.inside (least_some may_start c.loop-v.rows.items c.in-Some.v
    (found_next c.deref.result.now c.loop-v.rows.items c.deref-in-loop-v.result.now c.loop-v.near.items c.loop-v.next c.next_near.result (Some c.in-Some.v) i.rows i.sound i.quick c.next_near.ensures c.deref.ensures.value
    c.deref-in-loop-v.ensures.value c.in-Some.is)) in
    omega (arith, low, i.quick.size, c.loop-v.near.ok)

pub returns-in_err-push-clause-since : goal.returns-in_err-push-clause-since
returns-in_err-push-clause-since c =
    since_trans c.args.changes.now.items c.loop-v.changes.items c.begin.new.changes.items c.args.rows.now.items c.loop-v.rows.items c.begin.new.rows.items c.loop-v.invariant.since c.begin.ensures.since

pub loop-v-smaller : goal.loop-v-smaller
loop-v-smaller c =
    let i = c.loop-v.invariant in
    begun_fewer c.args.rows.now.items c.loop-v.rows.items c.begin.new.rows.items c.loop-v.steps.items c.push.new.self.items c.in-Some.v c.loop-v.next i.rows i.sound i.none
    (found_next c.deref.result.now c.loop-v.rows.items c.deref-in-loop-v.result.now c.loop-v.near.items c.loop-v.next c.next_near.result (Some c.in-Some.v) i.rows i.sound i.quick c.next_near.ensures c.deref.ensures.value
    c.deref-in-loop-v.ensures.value c.in-Some.is)
    c.in_ok-begin.ensures.ok c.in_ok-push.ensures.items

pub overflow_add-next : goal.overflow_add-next
overflow_add-next c =
    let i = c.loop-v.invariant in
    let less : still_starting c.begin.new.rows.items < still_starting c.loop-v.rows.items =
    begun_fewer c.args.rows.now.items c.loop-v.rows.items c.begin.new.rows.items c.loop-v.steps.items c.push.new.self.items c.in-Some.v c.loop-v.next i.rows i.sound i.none
    (found_next c.deref.result.now c.loop-v.rows.items c.deref-in-loop-v.result.now c.loop-v.near.items c.loop-v.next c.next_near.result (Some c.in-Some.v) i.rows i.sound i.quick c.next_near.ensures c.deref.ensures.value
    c.deref-in-loop-v.ensures.value c.in-Some.is)
    c.in_ok-begin.ensures.ok c.in_ok-push.ensures.items in
    omega (arith, less, i.few, c.requires.fits)

pub loop-v-preserved : goal.loop-v-preserved
loop-v-preserved c =
    let first = c.args.rows.now.items in
    let rows = c.loop-v.rows.items in
    let new = c.begin.new.rows.items in
    let steps = c.loop-v.steps.items in
    let more = c.push.new.self.items in
    let v = c.in-Some.v in
    let next = c.loop-v.next in
    let i = c.loop-v.invariant in
    let h : least may_start rows ≡ Some v =
    found_next c.deref.result.now rows c.deref-in-loop-v.result.now c.loop-v.near.items next c.next_near.result (Some v) i.rows i.sound i.quick c.next_near.ensures c.deref.ensures.value c.deref-in-loop-v.ensures.value c.in-Some.is in
    let e = c.in_ok-begin.ensures.ok in
    let f = c.in_ok-push.ensures.items in
    let less : still_starting new < still_starting rows = begun_fewer first rows new steps more v next i.rows i.sound i.none h e f in
    record {
      rows = begun_rows first rows new steps more v next i.rows i.sound i.none h e f;
      sound = begun_sound first rows new steps more v next i.rows i.sound i.none h e f;
      users = reverse_stepped begun mild_begun v next rows new c.args.users.now e i.users;
      quick = quick_started rows new c.loop-v.near.items (set c.loop-v.near.items v false) next v i.rows i.sound i.quick i.none h e refl;
      none = begun_none first rows new steps more v next i.rows i.sound i.none h e f;
      runs = λ start p at runs.
          let t : (p + length steps ≡ next) × Runs start p steps rows = i.runs start p at runs in (
            begun_at start rows new steps more v next i.rows i.sound i.none h e f p t.0,
            begun_runs start rows new steps more v next i.rows i.sound i.none h e f p t.0 t.1,
          );
      few = omega (arith, less, i.few);
      since = since_trans c.args.changes.now.items c.loop-v.changes.items c.begin.new.changes.items first rows new i.since c.begin.ensures.since;
    }

pub returns-clause-ends : goal.returns-clause-ends
returns-clause-ends c =
    let i = c.loop-v.invariant in
    next_none c.loop-v.rows.items i.none
    (found_next c.deref.result.now c.loop-v.rows.items c.deref-in-loop-v.result.now c.loop-v.near.items c.loop-v.next c.next_near.result None i.rows i.sound i.quick c.next_near.ensures c.deref.ensures.value
    c.deref-in-loop-v.ensures.value c.in_default.is)

pub begin-requires-clause-users : goal.begin-requires-clause-users
begin-requires-clause-users c = users_of c.loop-v.rows.items c.args.users.now.lists.items c.in-Some.v c.of.result.now c.loop-v.invariant.users.lists c.of.ensures

pub of-requires : goal.of-requires
of-requires c =
    let low : c.in-Some.v < length c.loop-v.rows.items =
    IsLeast.inside (least_some may_start c.loop-v.rows.items c.in-Some.v
    (found_next c.deref.result.now c.loop-v.rows.items c.deref-in-loop-v.result.now c.loop-v.near.items c.loop-v.next c.next_near.result (Some c.in-Some.v) c.loop-v.invariant.rows c.loop-v.invariant.sound c.loop-v.invariant.quick c.next_near.ensures
    c.deref.ensures.value c.deref-in-loop-v.ensures.value c.in-Some.is)) in
    omega (arith, low, c.loop-v.invariant.users.lists.size)
