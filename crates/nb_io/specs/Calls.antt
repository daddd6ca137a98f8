-- The calls of an object in memory, of which some are to fail.
use Rattle.std.specs.Prelude.{ℕ, ◌+◌, ◌-◌, ◌^◌, min, List, Contains}
use Rattle.nb_io.specs.declared.calls.Calls.{Calls}

-- no call was made, and those with these numbers are to fail
abbrev pub uncalled : List ℕ → Calls
uncalled failing = record { failing = failing; made = 0 }

-- the number of the next call, from 1 on, up to the last value of u64
abbrev pub next_number : Calls → ℕ
next_number calls = min (calls.made + 1) (2 ^ 64 - 1)

-- the next call is one of those that are to fail
abbrev pub Fails : Calls → Type 0
Fails calls = Contains calls.failing (next_number calls)

-- one more call was made
abbrev pub counted : Calls → Calls
counted calls = record { failing = calls.failing; made = next_number calls }
