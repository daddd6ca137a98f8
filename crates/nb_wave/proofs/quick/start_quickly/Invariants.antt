use Rattle.std.proofs.Common.{ℕ, ◌≡◌, ◌≤◌, ◌+◌, List, None, length}
use Rattle.nb_wave.specs.declared.row.Row.{Row}
use Rattle.nb_wave.specs.Rules.{leaving, least, IsSound}
use Rattle.nb_wave.specs.Changes.{IsSince}
use Rattle.nb_wave.specs.QuickRows.{AreQuick}
use Rattle.nb_wave.specs.Steps.{Runs}
use Rattle.nb_wave.specs.Users.{Reverse}
use Rattle.nb_wave.specs.Wave.{IsRows}
use Rattle.nb_wave.proofs.Runs.{still_starting}
use Rattle.nb_wave.proofs.quick.start_quickly.Given as goal

abbrev pub invariant-loop-v : goal.invariant-loop-v
invariant-loop-v l =
    record {
      rows : IsRows l.rows.items;
      sound : IsSound l.rows.items;
      users : Reverse l.rows.items l.users;
      quick : AreQuick l.rows.items l.near.items l.next;
      none : least leaving l.rows.items ≡ None;
      runs : (first : List Row) (p : ℕ) → p + length l.fn.steps.items ≡ l.place → Runs first p l.fn.steps.items l.fn.rows.items
          → (p + length l.steps.items ≡ l.next) × Runs first p l.steps.items l.rows.items;
      few : l.next + still_starting l.rows.items ≤ l.place + 1024;
      since : IsSince l.fn.changes.items l.fn.rows.items l.changes.items l.rows.items;
    }

abbrev pub decreases-loop-v : goal.decreases-loop-v
decreases-loop-v l = still_starting l.rows.items
