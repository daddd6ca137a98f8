use Rattle.std.proofs.Common.{drop}
use Rattle.nb_loader.specs.Loads.{as_loaders}
use Rattle.nb_main.specs.Outcome.{opening_lines}
use Rattle.nb_main.proofs.RunLemmas.{IsBetween}
use Rattle.nb_main.proofs.history.take_events.Given as goal

-- the events that are left are still to be taken
abbrev pub invariant-loop-event : goal.invariant-loop-event
invariant-loop-event g l =
    IsBetween (as_loaders l.loaders) (opening_lines l.event-items) (opening_lines (drop l.event-index l.event-items)) l.fn.core l.core (g.P.Spawner.runs l.fn.programs) (g.P.Spawner.runs l.programs)
