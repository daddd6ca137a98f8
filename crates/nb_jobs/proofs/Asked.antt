-- How often a poll was asked while charges were made.
use Rattle.std.proofs.Common.{◌≡◌, ◌≤◌, ℕ, ◌+◌, ◌*◌, arith}
use Rattle.nb_poll.specs.Polls.{Rises}
use Rattle.nb_jobs.specs.Jobs.{RoseBy, IsAskedBetween}

-- from so many charges to so many so many slices were made, with a call after each
pub record IsAskedSoFar (from at before now : ℕ) : Type 0 where
  pub slices : ℕ
  pub made : at ≡ from + slices * 4096
  pub asked : RoseBy slices before now

pub no_slice : (from before : ℕ) → IsAskedSoFar from from before before
no_slice from before = record { slices = 0; made = omega arith; asked = omega arith }

pub slice_more : (from at next before now later : ℕ) → IsAskedSoFar from at before now → next ≡ at + 4096 → Rises now later → IsAskedSoFar from next before later
slice_more from at next before now later sofar made rises = record {
  slices = sofar.slices + 1;
  made = omega arith;
  asked = omega arith;
}

-- the last slice makes no more charges than a slice has
pub last_slice : (from at to before now : ℕ) → IsAskedSoFar from at before now → to ≤ at + 4096 → IsAskedBetween from to before now
last_slice from at to before now sofar most = λ slices less.
    let few : slices ≤ sofar.slices = omega arith in
    omega arith

-- what was asked from fewer charges on was asked from more
pub asked_from : (from made to before now : ℕ) → IsAskedBetween from to before now → from ≤ made → IsAskedBetween made to before now
asked_from from made to before now asked low = λ slices less. asked slices (omega (arith, less, low))
