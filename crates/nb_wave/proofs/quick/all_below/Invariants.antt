use Rattle.std.proofs.Common.{ℕ, ◌<◌, ◌≡◌, true, take}
use Rattle.nb_graph.specs.Needs.{has}
use Rattle.nb_wave.proofs.quick.all_below.Given as goal

abbrev pub invariant-loop-number : goal.invariant-loop-number
invariant-loop-number l = (x : ℕ) → has (take l.number-index l.numbers) x ≡ true → x < l.place
