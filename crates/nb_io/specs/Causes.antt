-- When a fault may be answered.
use Rattle.nb_io.specs.declared.reading.ReadFail.{ReadFail}
use Rattle.nb_io.specs.declared.reading.ReadFail.TheVariants as read
use Rattle.nb_io.specs.declared.files.FileFail.{FileFail}
use Rattle.nb_io.specs.declared.files.FileFail.TheVariants as file
use Rattle.nb_io.specs.declared.spawner.SpawnFail.{SpawnFail}
use Rattle.nb_io.specs.declared.spawner.SpawnFail.TheVariants as spawn
use Rattle.std.specs.Prelude.{ℕ, ◌+◌, ◌-◌, ◌^◌, ◌≤◌, min, Result, OnErr, IsErrOf}

-- A count of faults has risen, or stands at the last value of u64.
abbrev pub Rose : ℕ → ℕ → Type 0
Rose before now = min (before + 1) (2 ^ 64 - 1) ≤ now

-- The count does not fall, and an error is answered only where it rose.
pub record HasCause {T E : Type 0} (before now : ℕ) (result : Result T E) : Type 0 where
  pub later : before ≤ now
  pub failed : OnErr result (Rose before now)

-- The same for a call that has other errors too.
pub record HasCauseAt {T E : Type 0} (fault : E) (before now : ℕ) (result : Result T E) : Type 0 where
  pub later : before ≤ now
  pub failed : IsErrOf result fault → Rose before now

-- Why a file, or the output of a child, was not read, by why its bytes were not.
abbrev pub file_fail : ReadFail → FileFail
file_fail read.Fault = file.Failed
file_fail (read.TooLong limit) = file.TooLong
file_fail read.Memory = file.Memory

abbrev pub spawn_fail : ReadFail → SpawnFail
spawn_fail read.Fault = spawn.Failed
spawn_fail (read.TooLong limit) = spawn.TooLong
spawn_fail read.Memory = spawn.Memory
