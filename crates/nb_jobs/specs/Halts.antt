-- Evaluations that stopped before their ending.
use Rattle.std.specs.Prelude.{◌≡◌, ◌⊎◌, ℕ, Option, None}
use Rattle.nb_eval.specs.declared.given.Segment.{Segment}
use Rattle.nb_eval.specs.declared.work.Work.TheVariants as work
use Rattle.nb_machine.specs.declared.parked.Parked.{Parked}
use Rattle.nb_poll.specs.Polls.{Rises}
use Rattle.nb_jobs.specs.declared.job.Job.{Job}
use Rattle.nb_jobs.specs.declared.job.JobStop.{JobStop}
use Rattle.nb_jobs.specs.declared.job.JobStop.TheVariants as stop
use Rattle.nb_jobs.specs.declared.halt.Halt.{Halt}
use Rattle.nb_jobs.specs.declared.halt.Halt.TheVariants as halt

-- the segment comes back
abbrev pub IsHaltOf : Segment → Halt → Type 0
IsHaltOf g (halt.Newer h newer) = h ≡ g
IsHaltOf g (halt.Memory h) = h ≡ g

-- a newer number is the last that was given; else none was
abbrev pub Tells : Halt → ℕ → ℕ → ℕ → Type 0
Tells (halt.Newer h newer) before now last = Rises before now × (newer ≡ last)
Tells (halt.Memory h) before now last = now ≡ before

-- the job of an evaluation, with nothing parked
abbrev pub job_of : ℕ → ℕ → Segment → Job
job_of var start g = record { var = var; start = start; work = work.Run g; parked = None }

-- how the job comes back
abbrev pub stop_of : ℕ → ℕ → Halt → JobStop
stop_of var start (halt.Newer g newer) = stop.Cancelled (job_of var start g) newer
stop_of var start (halt.Memory g) = stop.Memory (job_of var start g)
