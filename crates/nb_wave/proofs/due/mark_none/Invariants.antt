use Rattle.std.proofs.Common.{ℕ, ◌≡◌, ◌<◌, ◌≤◌, false, length}
use Rattle.nb_wave.specs.Marks.{marked}
use Rattle.nb_wave.proofs.due.mark_none.Given as goal

abbrev pub invariant-loop-v : goal.invariant-loop-v
invariant-loop-v l = record { size : length l.rows ≤ length l.marks; below : (x : ℕ) → x < l.v → marked l.marks x ≡ false }
