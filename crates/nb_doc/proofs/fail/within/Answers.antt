-- The path with the step before it.
use Rattle.std.proofs.Common.{ℕ, List, ◌∷◌, ◌++◌, ◌∙◌, ap, subst}
use Rattle.nb_doc.specs.Faults.{Fails}
use Rattle.nb_doc.proofs.FailLemmas.{under_fails}
use Rattle.nb_doc.proofs.fail.within.Goals as goal

pub returns-in-Ok : goal.returns-in-Ok
returns-in-Ok c =
    λ fault h. under_fails c.args.step.now c.in-Bad.path c.in-Ok.path c.in-Bad.reason fault (c.in-Ok.ensures ∙ ap (λ (p : List ℕ). 47 ∷ c.args.step.now ++ p) c.as_str.ensures.value) (subst (Fails fault) c.in-Bad.is h)
