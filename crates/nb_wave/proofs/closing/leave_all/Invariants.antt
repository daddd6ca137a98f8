use Rattle.std.proofs.Common.{ℕ, ◌≤◌, ◌+◌, length}
use Rattle.nb_wave.specs.Rules.{IsSound}
use Rattle.nb_wave.specs.Changes.{IsSince}
use Rattle.nb_wave.specs.Steps.{Runs}
use Rattle.nb_wave.specs.Users.{Reverse}
use Rattle.nb_wave.specs.Wave.{IsRows}
use Rattle.nb_wave.proofs.Runs.{still_leaving}
use Rattle.nb_wave.proofs.closing.leave_all.Given as goal

abbrev pub invariant-loop-v : goal.invariant-loop-v
invariant-loop-v l =
    record {
      rows : IsRows l.rows.items;
      sound : IsSound l.rows.items;
      users : Reverse l.rows.items l.users;
      runs : (place : ℕ) → Runs l.fn.rows.items place l.steps.items l.rows.items;
      few : length l.steps.items + still_leaving l.rows.items ≤ 1024;
      since : IsSince l.fn.changes.items l.fn.rows.items l.changes.items l.rows.items;
    }

abbrev pub decreases-loop-v : goal.decreases-loop-v
decreases-loop-v l = still_leaving l.rows.items
