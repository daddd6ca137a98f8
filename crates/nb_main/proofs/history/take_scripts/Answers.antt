use Rattle.std.proofs.Common.{◌<◌, ◌≤◌, ◌∷◌, [], length, subst, refl, arith, List}
use Rattle.nb_log.specs.declared.event.Event.{Event}
use Rattle.nb_lines.specs.declared.script.ScriptLine.{ScriptLine}
use Rattle.nb_lines.specs.Lines.{script_lines}
use Rattle.nb_loader.specs.Loads.{as_loaders}
use Rattle.nb_main.specs.Run.{Goes}
use Rattle.nb_main.proofs.RunLemmas.{takes_next, took_all}
use Rattle.nb_main.proofs.history.take_scripts.Goals as goal

pub loop-line-preserved : goal.loop-line-preserved
loop-line-preserved g c =
    let all : List ScriptLine = c.as_slice-line-items.result.now in
    let inside : c.loop-line.line-index < length all = omega arith in
    takes_next (as_loaders c.args.loaders.now) script_lines (script_lines all) all c.loop-line.line-index c.line-item.result (c.line-item.result.editor, c.line-item.result.event)
    c.args.core.now c.loop-line.core c.take_line.new.core
    (g.P.Spawner.runs c.args.programs.now) (g.P.Spawner.runs c.loop-line.programs) (g.P.Spawner.runs c.take_line.new.programs) inside c.line-item.is refl c.loop-line.invariant
    (subst (λ (e : Event). Goes (as_loaders c.args.loaders.now) ((c.line-item.result.editor, e) ∷ []) c.loop-line.core c.take_line.new.core (g.P.Spawner.runs c.loop-line.programs) (g.P.Spawner.runs c.take_line.new.programs))
    c.in_ok-event.ensures c.in_ok-take_line.ensures.goes)
    c.in_ok-take_line.ensures.awaits

pub returns-clause-goes : goal.returns-clause-goes
returns-clause-goes g c =
    let all : List ScriptLine = c.as_slice-line-items.result.now in
    let over : length all ≤ c.loop-line.line-index = omega arith in
    subst (λ (lines : List ScriptLine). Goes (as_loaders c.args.loaders.now) (script_lines lines) c.args.core.now c.loop-line.core (g.P.Spawner.runs c.args.programs.now) (g.P.Spawner.runs c.loop-line.programs))
    c.as_slice-line-items.ensures
    (took_all (as_loaders c.args.loaders.now) script_lines (script_lines all) all c.loop-line.line-index c.args.core.now c.loop-line.core
    (g.P.Spawner.runs c.args.programs.now) (g.P.Spawner.runs c.loop-line.programs) over refl c.loop-line.invariant)
