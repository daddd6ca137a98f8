use Rattle.std.proofs.Common.{drop}
use Rattle.nb_lines.specs.Lines.{script_lines}
use Rattle.nb_loader.specs.Loads.{as_loaders}
use Rattle.nb_main.proofs.RunLemmas.{IsBetween}
use Rattle.nb_main.proofs.history.take_scripts.Given as goal

-- the lines that are left are still to be taken
abbrev pub invariant-loop-line : goal.invariant-loop-line
invariant-loop-line g l =
    IsBetween (as_loaders l.loaders) (script_lines l.line-items) (script_lines (drop l.line-index l.line-items)) l.fn.core l.core (g.P.Spawner.runs l.fn.programs) (g.P.Spawner.runs l.programs)
