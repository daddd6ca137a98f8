-- A fault of the element.
use Rattle.serde_json.specs.View.{view}
use Rattle.nb_doc.specs.Modules.{module_fault}
use Rattle.nb_doc.proofs.modules.module_at.Goals as goal

pub returns-in-Err-clause-bad : goal.returns-in-Err-clause-bad
returns-in-Err-clause-bad c = c.within_place.ensures (module_fault c.args.around.now (view c.args.tree.now)) c.in-Err.ensures.bad
