use Rattle.std.proofs.Common.{◌≡◌, ℕ, length}
use Rattle.nb_index.specs.Rows.{present_at}
use Rattle.nb_index.proofs.table.Table.mark.Given as goal

abbrev pub invariant-loop-r : goal.invariant-loop-r
invariant-loop-r l =
    record {
      present : (q : ℕ) → present_at l.self.rows.items q ≡ present_at l.fn.self.rows.items q;
      len : length l.self.rows.items ≡ length l.fn.self.rows.items;
    }

abbrev pub decreases-loop-r : goal.decreases-loop-r
decreases-loop-r l = length l.self.touched.items
