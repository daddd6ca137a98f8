-- The first unknown field.
use Rattle.std.proofs.Common.{Some, sym}
use Rattle.serde_json.specs.View.{view, members_view}
use Rattle.nb_doc.specs.declared.reason.DocReason.TheVariants.{UnknownField}
use Rattle.nb_doc.specs.Faults.{here}
use Rattle.nb_doc.proofs.FailLemmas.{here_fails, unknown_fails}
use Rattle.nb_doc.proofs.object.test_keys.Goals as goal

pub returns-in-Some-clause-bad : goal.returns-in-Some-clause-bad
returns-in-Some-clause-bad c =
    unknown_fails c.args.known.now (view c.args.tree.now) (members_view c.args.object.now.entries) c.in-Some.key.now c.within.result c.requires (sym c.in-Some.ensures)
    (c.within.ensures (Some (here UnknownField)) (here_fails UnknownField c.here.result c.here.ensures))
