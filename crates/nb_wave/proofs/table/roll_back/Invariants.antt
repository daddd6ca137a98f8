use Rattle.std.proofs.Common.{◌≡◌, length, take, drop}
use Rattle.nb_wave.specs.Changes.{put_back}
use Rattle.nb_wave.proofs.table.roll_back.Given as goal

abbrev pub invariant-loop-changes : goal.invariant-loop-changes
invariant-loop-changes l =
    record {
      rows : put_back (drop l.n l.changes.items) l.rows.items ≡ put_back (drop l.n l.fn.changes.items) l.fn.rows.items;
      changes : take l.n l.changes.items ≡ take l.n l.fn.changes.items;
    }

abbrev pub decreases-loop-changes : goal.decreases-loop-changes
decreases-loop-changes l = length l.changes.items
