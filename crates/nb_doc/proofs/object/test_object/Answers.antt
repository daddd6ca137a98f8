-- What is no object.
use Rattle.std.proofs.Common.{sym}
use Rattle.serde_json.specs.View.{view}
use Rattle.nb_doc.proofs.FailLemmas.{not_object_fails}
use Rattle.nb_doc.proofs.object.test_object.Goals as goal

pub returns-in-None-clause-bad : goal.returns-in-None-clause-bad
returns-in-None-clause-bad c = not_object_fails c.args.known.now (view c.args.tree.now) c.here.result (sym c.in-None.ensures) c.here.ensures
