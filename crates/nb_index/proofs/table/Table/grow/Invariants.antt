use Rattle.std.proofs.Common.{◌≡◌, ◌≤◌, ◌-◌, ◌+◌, ℕ, length, max}
use Rattle.nb_index.specs.Rows.{present_at, marked_at}
use Rattle.nb_index.proofs.table.Table.grow.Given as goal

abbrev pub invariant-loop-self : goal.invariant-loop-self
invariant-loop-self l =
    record {
      few : length l.self.rows.items ≤ max (length l.fn.self.rows.items) (l.r + 1);
      present : (q : ℕ) → present_at l.self.rows.items q ≡ present_at l.fn.self.rows.items q;
      marked : (q : ℕ) → marked_at l.self.rows.items q ≡ marked_at l.fn.self.rows.items q;
    }

abbrev pub decreases-loop-self : goal.decreases-loop-self
decreases-loop-self l = l.r + 1 - length l.self.rows.items
