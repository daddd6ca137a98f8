use Rattle.nb_loader.specs.Loads.{as_loaders}
use Rattle.nb_main.proofs.RunLemmas.{nothing_ready, line_goes}
use Rattle.nb_main.proofs.history.take_line.Goals as goal

pub add_line-requires-clause-rest : goal.add_line-requires-clause-rest
add_line-requires-clause-rest g c = nothing_ready (as_loaders c.args.loaders.now) c.args.core.now c.requires.awaits

pub returns-clause-goes : goal.returns-clause-goes
returns-clause-goes g c =
    line_goes (as_loaders c.args.loaders.now) c.work.result c.args.line.editor c.args.line.event c.args.core.now c.add_line.new.core c.work.new.core (g.P.Spawner.runs c.args.programs.now) (g.P.Spawner.runs c.work.new.programs)
    c.requires.awaits c.in_ok-add_line.ensures c.work.ensures.goes
