-- What is kept of an evaluation that is over, and of one that isn't.
use Rattle.std.proofs.Common.{◌≡◌, true, false, Option, Some, None, refl, sym}
use Rattle.std.proofs.lemmas.Bool.{false≢true}
use Rattle.nb_machine.specs.declared.parked.Parked.{Parked}
use Rattle.nb_machine.specs.declared.parked.Parked.TheVariants as parked
use Rattle.nb_machine.specs.Parked.{is_over}
use Rattle.nb_settle.specs.Evaluations.{unless_over}

pub over : (p : Parked) → true ≡ is_over p → None ≡ unless_over p
over (parked.Needs s) is = absurd (false≢true (sym is))
over (parked.Paused s) is = absurd (false≢true (sym is))
over parked.Over is = refl

pub going_on : (p : Parked) → false ≡ is_over p → Some p ≡ unless_over p
going_on (parked.Needs s) is = refl
going_on (parked.Paused s) is = refl
going_on parked.Over is = absurd (false≢true is)

pub ruleset kept_unless_over = (over, going_on)
