use Rattle.std.proofs.Common.{ℕ, ◌<◌, ◌≡◌, true, take}
use Rattle.nb_graph.specs.Needs.{has}
use Rattle.nb_wave_tests.proofs.waves.all_before.Given as goal

abbrev pub invariant-loop-u : goal.invariant-loop-u
invariant-loop-u l = (x : ℕ) → has (take l.u-index l.vars) x ≡ true → (0 < x) × (x < l.v)
