-- A fault of what stands at the step.
use Rattle.std.proofs.Common.{Some}
use Rattle.nb_doc.specs.declared.reason.DocReason.TheVariants.{WrongField}
use Rattle.nb_doc.specs.Faults.{here}
use Rattle.nb_doc.proofs.fail.wrong_under.Goals as goal

pub returns : goal.returns
returns c = c.within.ensures (Some (here WrongField)) c.wrong.ensures
