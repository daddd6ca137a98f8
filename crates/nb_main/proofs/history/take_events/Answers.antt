use Rattle.std.proofs.Common.{◌<◌, ◌≤◌, ◌∷◌, [], length, subst, refl, arith, List}
use Rattle.nb_log.specs.declared.event.Event.{Event}
use Rattle.nb_loader.specs.Loads.{as_loaders}
use Rattle.nb_main.specs.Outcome.{opening_lines}
use Rattle.nb_main.specs.Run.{Goes}
use Rattle.nb_main.proofs.RunLemmas.{takes_next, took_all}
use Rattle.nb_main.proofs.history.take_events.Goals as goal

pub loop-event-preserved : goal.loop-event-preserved
loop-event-preserved g c =
    let all : List Event = c.as_slice-event-items.result.now in
    let inside : c.loop-event.event-index < length all = omega arith in
    takes_next (as_loaders c.args.loaders.now) opening_lines (opening_lines all) all c.loop-event.event-index c.event-item.result (0, c.event-item.result) c.args.core.now c.loop-event.core c.take_line.new.core
    (g.P.Spawner.runs c.args.programs.now) (g.P.Spawner.runs c.loop-event.programs) (g.P.Spawner.runs c.take_line.new.programs) inside c.event-item.is refl c.loop-event.invariant
    (subst (λ (e : Event). Goes (as_loaders c.args.loaders.now) ((0, e) ∷ []) c.loop-event.core c.take_line.new.core (g.P.Spawner.runs c.loop-event.programs) (g.P.Spawner.runs c.take_line.new.programs))
    c.in_ok-event.ensures c.in_ok-take_line.ensures.goes)
    c.in_ok-take_line.ensures.awaits

pub returns-clause-goes : goal.returns-clause-goes
returns-clause-goes g c =
    let all : List Event = c.as_slice-event-items.result.now in
    let over : length all ≤ c.loop-event.event-index = omega arith in
    subst (λ (events : List Event). Goes (as_loaders c.args.loaders.now) (opening_lines events) c.args.core.now c.loop-event.core (g.P.Spawner.runs c.args.programs.now) (g.P.Spawner.runs c.loop-event.programs))
    c.as_slice-event-items.ensures
    (took_all (as_loaders c.args.loaders.now) opening_lines (opening_lines all) all c.loop-event.event-index c.args.core.now c.loop-event.core
    (g.P.Spawner.runs c.args.programs.now) (g.P.Spawner.runs c.loop-event.programs) over refl c.loop-event.invariant)
