-- What is left of an evaluation, as what is parked with its job.
use Rattle.std.proofs.Common.{◌≡◌, Option, Some, None, true, false, refl, sym, ap}
use Rattle.nb_value.specs.declared.outcome.Answer.{Answer}
use Rattle.nb_eval.specs.declared.finished.Finished.{Finished}
use Rattle.nb_eval.specs.declared.given.Ending.{Ending}
use Rattle.nb_eval.specs.declared.given.Ending.TheVariants as ending
use Rattle.nb_eval.specs.declared.given.Segment.{Segment}
use Rattle.nb_eval.specs.declared.work.WorkDone.TheVariants as done
use Rattle.nb_eval.specs.Evaluation.{segment_end}
use Rattle.nb_machine.specs.declared.parked.Parked.{Parked}
use Rattle.nb_machine.specs.declared.parked.Parked.TheVariants as parked
use Rattle.nb_machine.specs.declared.standing.Standing.{Standing}
use Rattle.nb_machine.specs.Parked.{IsLeftAt, IsLeftOf, is_over, needs_answer, waits_for_pull}
use Rattle.nb_machine.specs.Segments.{with_answer, with_pull}
use Rattle.nb_jobs.specs.Jobs.{IsRestOf, unless_over}
use Rattle.nb_jobs.specs.Left.{IsLeftBy}

pub over : (p : Parked) → true ≡ is_over p → None ≡ unless_over p
over (parked.Needs s) is = absurd (cc)
over (parked.Paused s) is = absurd (cc)
over parked.Over is = refl

pub going_on : (p : Parked) → false ≡ is_over p → Some p ≡ unless_over p
going_on (parked.Needs s) is = refl
going_on (parked.Paused s) is = refl
going_on parked.Over is = absurd (cc)

pub ruleset kept_unless_over = (over, going_on)

-- what is kept of what an evaluation leaves is what can be taken up again of it
pub rest_of : (g : Segment) (p : Parked) → IsLeftOf g p → IsRestOf (unless_over p) g
rest_of g (parked.Needs s) left = (left, refl)
rest_of g (parked.Paused s) left = (left, refl)
rest_of g parked.Over left = left

-- and may be parked with the job that was done
pub left_by : (f : Finished) (p : Option Parked) → IsRestOf p f.segment → IsLeftBy p (done.Ran f)
left_by f None rest = tt
left_by f (Some p) rest = rest.0
