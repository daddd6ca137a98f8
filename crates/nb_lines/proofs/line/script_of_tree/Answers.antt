-- JSON of something else than an object.
use Rattle.std.proofs.Common.{sym}
use Rattle.serde_json.specs.View.{view}
use Rattle.nb_lines.proofs.FaultLemmas.{not_object_fails}
use Rattle.nb_lines.proofs.line.script_of_tree.Goals as goal

pub returns-in-None-clause-bad : goal.returns-in-None-clause-bad
returns-in-None-clause-bad c = not_object_fails (view c.args.tree.now) (sym c.in-None.ensures)
