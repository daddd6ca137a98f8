-- The step is the decimal of the position.
use Rattle.std.proofs.Common.{ℕ, List, ◌∙◌, subst}
use Rattle.nb_doc.specs.Faults.{Fails, in_part}
use Rattle.nb_doc.proofs.fail.within_place.Goals as goal

pub returns-in-Ok : goal.returns-in-Ok
returns-in-Ok c = λ fault h. subst (λ (s : List ℕ). Fails (in_part s fault) c.within.result) (c.as_str.ensures.value ∙ c.in-Ok.ensures) (c.within.ensures fault h)
