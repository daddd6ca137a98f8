use Rattle.std.proofs.Common.{ℕ, ◌≡◌, ◌<◌, length}
use Rattle.nb_wave.specs.Rules.{due}
use Rattle.nb_wave.specs.Marks.{marked}
use Rattle.nb_wave.proofs.users.due.Given as goal

abbrev pub invariant-loop-v : goal.invariant-loop-v
invariant-loop-v l = record { size : length l.marks.items ≡ l.v; below : (x : ℕ) → x < l.v → marked l.marks.items x ≡ due l.rows x }
