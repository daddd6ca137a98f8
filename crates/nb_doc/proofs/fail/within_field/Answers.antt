-- The step is the field's key.
use Rattle.std.proofs.Common.{ℕ, List, subst}
use Rattle.nb_doc.specs.Faults.{Fails, in_part}
use Rattle.nb_doc.proofs.fail.within_field.Goals as goal

pub returns : goal.returns
returns c = λ fault h. subst (λ (s : List ℕ). Fails (in_part s fault) c.within.result) c.name.ensures (c.within.ensures fault h)
