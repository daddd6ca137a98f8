use Rattle.nb_loader.specs.Loads.{as_loaders}
use Rattle.nb_main.proofs.RunLemmas.{goes_settled, loads_of, working_on, working_less, none_ran}
use Rattle.nb_main.proofs.history.work.Goals as goal

pub loop-settler-init : goal.loop-settler-init
loop-settler-init g c = record {
  goes = goes_settled (as_loaders c.args.loaders.now) c.args.core.now c.settle.new.core (g.P.Spawner.runs c.args.programs.now) c.in_ok-settle.ensures.ok;
  closed = c.in_ok-settle.ensures.closed;
  done = c.in_ok-settle.ensures.ok.done;
}

pub loop-settler-smaller : goal.loop-settler-smaller
loop-settler-smaller g c =
    working_less (as_loaders c.args.loaders.now) c.loop-settler.core c.load_one.new.core c.settle-in-Placed.new.core (g.P.Spawner.runs c.loop-settler.programs) (g.P.Spawner.runs c.load_one.new.programs)
    c.in-Placed.field-0 c.loop-settler.invariant.closed
    (loads_of (as_loaders c.args.loaders.now) c.loop-settler.core c.load_one.new.core (g.P.Spawner.runs c.loop-settler.programs) (g.P.Spawner.runs c.load_one.new.programs)
    c.in_ok-load_one.field-0 c.in-Placed.field-0 c.in_ok-load_one.ensures.steps c.in-Placed.is)
    c.in_ok-settle-in-Placed.ensures.ok c.in_ok-settle-in-Placed.ensures.closed

pub loop-settler-preserved : goal.loop-settler-preserved
loop-settler-preserved g c =
    working_on (as_loaders c.args.loaders.now) c.args.core.now c.loop-settler.core c.load_one.new.core c.settle-in-Placed.new.core (g.P.Spawner.runs c.args.programs.now)
    (g.P.Spawner.runs c.loop-settler.programs) (g.P.Spawner.runs c.load_one.new.programs) c.in-Placed.field-0 c.loop-settler.invariant
    (loads_of (as_loaders c.args.loaders.now) c.loop-settler.core c.load_one.new.core (g.P.Spawner.runs c.loop-settler.programs) (g.P.Spawner.runs c.load_one.new.programs)
    c.in_ok-load_one.field-0 c.in-Placed.field-0 c.in_ok-load_one.ensures.steps c.in-Placed.is)
    c.in_ok-settle-in-Placed.ensures.ok c.in_ok-settle-in-Placed.ensures.closed

pub returns-in-Nothing-clause-awaits : goal.returns-in-Nothing-clause-awaits
returns-in-Nothing-clause-awaits g c =
    none_ran (as_loaders c.args.loaders.now) c.loop-settler.core c.load_one.new.core (g.P.Spawner.runs c.loop-settler.programs) (g.P.Spawner.runs c.load_one.new.programs)
    c.in_ok-load_one.field-0 c.in_ok-load_one.ensures.steps c.in-Nothing.is c.loop-settler.invariant.closed c.loop-settler.invariant.done
