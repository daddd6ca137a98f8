use Rattle.std.proofs.Common.{ℕ, ◌≡◌, ◌<◌, ◌≤◌, length}
use Rattle.nb_wave.specs.Rules.{passes, is_overtaken}
use Rattle.nb_wave.specs.Marks.{marked}
use Rattle.nb_wave.proofs.due.mark_overtaken.Given as goal

abbrev pub invariant-loop-v : goal.invariant-loop-v
invariant-loop-v l = record { size : length l.rows ≤ length l.marks; below : (x : ℕ) → x < l.v → marked l.marks x ≡ passes is_overtaken l.rows x }
