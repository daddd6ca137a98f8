-- A fault of the element.
use Rattle.serde_json.specs.View.{view}
use Rattle.nb_doc.specs.Items.{item_fault}
use Rattle.nb_doc.proofs.item.item_at.Goals as goal

pub returns-in-Err-clause-bad : goal.returns-in-Err-clause-bad
returns-in-Err-clause-bad c = c.within_place.ensures (item_fault c.args.around.now (view c.args.tree.now)) c.in-Err.ensures.bad
