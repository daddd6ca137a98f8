-- A fault of the object at the field's key.
use Rattle.std.proofs.Common.{Some}
use Rattle.nb_doc.specs.Faults.{here}
use Rattle.nb_doc.proofs.FailLemmas.{here_fails}
use Rattle.nb_doc.proofs.fail.at_field.Goals as goal

pub returns : goal.returns
returns c = c.within_field.ensures (Some (here c.args.reason)) (here_fails c.args.reason c.here.result c.here.ensures)
