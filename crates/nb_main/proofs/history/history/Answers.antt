use Rattle.nb_loader.specs.Loads.{as_loaders}
use Rattle.nb_main.proofs.RunLemmas.{whole_history}
use Rattle.nb_main.proofs.history.history.Goals as goal

pub returns-clause-history : goal.returns-clause-history
returns-clause-history g c =
    (whole_history c.args.document.builtins (as_loaders c.args.document.loaders) c.args.document.lines c.args.lines.now c.in_ok-core.core c.take_events.new.core c.take_scripts.new.core
    (g.P.Spawner.runs c.args.programs.now) (g.P.Spawner.runs c.take_events.new.programs) (g.P.Spawner.runs c.take_scripts.new.programs) c.in_ok-core.ensures c.requires.low
    c.in_ok-take_events.ensures.goes c.in_ok-take_scripts.ensures.goes c.in_ok-take_scripts.ensures.awaits).1
