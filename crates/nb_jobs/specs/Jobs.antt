-- Jobs: what may be parked with one, how it is done, and how it comes back.
use Rattle.std.specs.Prelude.{◌≡◌, ◌≤◌, ◌<◌, ◌⊎◌, ℕ, ◌+◌, ◌-◌, ◌*◌, ◌^◌, false, min, Option, Some, None}
use Rattle.nb_value.specs.declared.outcome.Answer.{Answer}
use Rattle.nb_eval.specs.declared.given.Segment.{Segment}
use Rattle.nb_eval.specs.declared.work.Work.{Work}
use Rattle.nb_eval.specs.declared.work.Work.TheVariants as work
use Rattle.nb_eval.specs.Evaluation.{charges}
use Rattle.nb_eval.specs.Work.{IsOf}
use Rattle.nb_machine.specs.declared.machine.Machine.{Machine}
use Rattle.nb_machine.specs.declared.parked.Parked.{Parked}
use Rattle.nb_machine.specs.declared.parked.Parked.TheVariants as parked
use Rattle.nb_machine.specs.Parked.{IsLeftOf, is_over}
use Rattle.nb_machine.specs.Segments.{with_answer, with_pull}
use Rattle.nb_poll.specs.Polls.{Rises}
use Rattle.nb_jobs.specs.declared.job.Job.{Job}
use Rattle.nb_jobs.specs.declared.job.JobStop.{JobStop}
use Rattle.nb_jobs.specs.declared.job.JobStop.TheVariants as stop
use Rattle.nb_jobs.specs.declared.done.JobDone.{JobDone}

-- the outcome of the work is known
abbrev pub IsKnown : Work → Type 0
IsKnown (work.Direct o) = Unit {0}
IsKnown (work.Run g) = ⊥

-- ---- what is parked

-- the charges that were made already
abbrev pub made_by : Parked → ℕ
made_by (parked.Needs s) = s.charges
made_by (parked.Paused s) = s.charges
made_by parked.Over = 0

abbrev pub made_before : Option Parked → ℕ
made_before None = 0
made_before (Some p) = made_by p

-- a machine that goes on at so many charges, and hasn't ended
abbrev pub GoesOn : ℕ → Machine → Type 0
GoesOn made m = (m.standing.charges ≡ made) × (m.ended ≡ None)

-- a machine of the segment, begun or at so many charges
abbrev pub TakesUp : Segment → ℕ → Machine → Type 0
TakesUp g made m = (m.standing.segment ≡ g) × (m.standing.charges ≤ made) × (m.ended ≡ None)

-- ---- a job that was done

-- what can be taken up again: nothing of an evaluation that is over
abbrev pub unless_over : Parked → Option Parked
unless_over (parked.Needs s) = Some (parked.Needs s)
unless_over (parked.Paused s) = Some (parked.Paused s)
unless_over parked.Over = None

-- it is what can be taken up again of the evaluation of this segment
abbrev pub IsRestOf : Option Parked → Segment → Type 0
IsRestOf None g = IsLeftOf g parked.Over
IsRestOf (Some p) g = IsLeftOf g p × (is_over p ≡ false)

-- of an outcome that is known nothing is left
abbrev pub IsRestOfWork : Option Parked → Work → Type 0
IsRestOfWork p (work.Direct o) = p ≡ None
IsRestOfWork p (work.Run g) = IsRestOf p g

-- of the job's variable and start; what was done is its work, and what is parked is all that is left of that
pub record IsDone (job : Job) (d : JobDone) : Type 0 where
  pub var : d.var ≡ job.var
  pub start : d.start ≡ job.start
  pub work : IsOf job.work d.done
  pub rest : IsRestOfWork d.parked job.work

-- ---- what a poll was asked and gave

-- a count of calls that has risen by so many, or stands at the last value of u64
abbrev pub RoseBy : ℕ → ℕ → ℕ → Type 0
RoseBy calls before now = min (before + calls) (2 ^ 64 - 1) ≤ now

-- between so many charges and so many there was a call after each 4,096 of them but the last
abbrev pub IsAskedBetween : ℕ → ℕ → ℕ → ℕ → Type 0
IsAskedBetween from to before now = (slices : ℕ) → from + slices * 4096 < to → RoseBy slices before now

-- for an outcome that is known nothing is asked; an evaluation asks between its slices, from the charges that were made
abbrev pub IsAskedOften : Work → ℕ → ℕ → ℕ → Type 0
IsAskedOften (work.Direct o) made before now = now ≡ before
IsAskedOften (work.Run g) made before now = IsAskedBetween made (charges g) before now

-- ---- a job that comes back

-- the job, with nothing parked
abbrev pub anew : Job → Job
anew job = record job { parked = None }

-- nothing is parked with it any more
abbrev pub IsBack : Job → JobStop → Type 0
IsBack job (stop.Cancelled back newer) = back ≡ anew job
IsBack job (stop.Memory back) = back ≡ anew job

-- it was cancelled where the poll gave a number, the last of which is told; else the poll has given none
abbrev pub StopTells : JobStop → ℕ → ℕ → ℕ → Type 0
StopTells (stop.Cancelled back newer) before now last = Rises before now × (newer ≡ last)
StopTells (stop.Memory back) before now last = now ≡ before
