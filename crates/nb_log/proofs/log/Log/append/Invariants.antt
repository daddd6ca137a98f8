-- The log with the entries that are left is the whole, and has room for them.
use Rattle.std.proofs.Common.{◌≡◌, ◌≤◌, ◌++◌, length}
use Rattle.std.specs.Vec.Iter.{into_iter_items, into_iter_len}
use Rattle.nb_log.proofs.log.Log.append.Given as goal

abbrev pub invariant-loop-entry : goal.invariant-loop-entry
invariant-loop-entry l = (l.self.entries ++ into_iter_items l.entry-iterator ≡ l.fn.self.entries ++ l.fn.entries.items)
    × (into_iter_len l.entry-iterator ≤ l.self.room)
    × (into_iter_len l.entry-iterator ≡ length (into_iter_items l.entry-iterator))
