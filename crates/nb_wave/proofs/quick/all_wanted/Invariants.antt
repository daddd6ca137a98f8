use Rattle.std.proofs.Common.{ℕ, ◌≡◌, true, take}
use Rattle.nb_graph.specs.Needs.{has}
use Rattle.nb_wave.specs.Rules.{is_wanted, passes}
use Rattle.nb_wave.proofs.quick.all_wanted.Given as goal

abbrev pub invariant-loop-u : goal.invariant-loop-u
invariant-loop-u l = (x : ℕ) → has (take l.u-index l.vars) x ≡ true → passes is_wanted l.rows x ≡ true
