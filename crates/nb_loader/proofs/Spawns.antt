-- Where the failure of a run that didn't start comes into a log.
use Rattle.std.proofs.Common.{ℕ, ◌≡◌, ◌+◌, sym, ◌∙◌, ap, List, ◌∷◌, length, arith, codes}
use Rattle.std.proofs.lemmas.List.{append_cancel_left, length-append}
use Rattle.nb_value.specs.declared.outcome.Answer.{Answer}
use Rattle.nb_value.specs.declared.outcome.Answer.TheVariants.{Failure}
use Rattle.nb_io.specs.Causes.{Rose}
use Rattle.nb_log.specs.declared.entry.Entry.{Entry}
use Rattle.nb_log.specs.declared.entry.Entry.TheVariants.{Loaded}
use Rattle.nb_history.specs.History.{History}
use Rattle.nb_core.specs.Core.{Gains}
use Rattle.nb_loader.specs.Loads.{SpawnHasCause}

answer_in_front : (t u : ℕ) (a b : Answer) (es fs : List Entry) → ◌≡◌ {A = List Entry} (Loaded t a ∷ es) (Loaded u b ∷ fs) → a ≡ b
answer_in_front t u a b es fs h = cc

-- a log that didn't grow
pub none_came : (old new : History) (before now : ℕ) → new ≡ old → SpawnHasCause old new before now
none_came old new before now same t es h =
    let e : Entry = Loaded t (Failure (codes "spawn")) in
    let long : length old.log ≡ length old.log + length (e ∷ es) = ap (λ (g : History). length g.log) (sym same) ∙ ap (λ (log : List Entry). length log) h ∙ length-append old.log (e ∷ es) in
    absurd (omega (arith, long))

-- a log that gained this answer
pub answer_came : (old new : History) (before now t : ℕ) (a : Answer) → Gains old (Loaded t a) new → (a ≡ Failure (codes "spawn") → Rose before now) → SpawnHasCause old new before now
answer_came old new before now t a g cause u es h =
    cause (answer_in_front t u a (Failure (codes "spawn")) g.es es (append_cancel_left old.log (Loaded t a ∷ g.es) (Loaded u (Failure (codes "spawn")) ∷ es) (sym g.longer ∙ h)))
