use Rattle.std.proofs.Common.{ℕ, ◌≡◌, ◌∙◌, ap, refl}
use Rattle.std.specs.Prelude.{replicate}
use Rattle.nb_runs.specs.RunStates.{idle_state, no_runs}
use Rattle.nb_runs.proofs.runs.Runs.new.Goals as goal

no_runs_is : (n : ℕ) → n ≡ 1024 → replicate n idle_state ≡ no_runs
unfolding no_runs
no_runs_is n e = ap (λ (k : ℕ). replicate k idle_state) e

pub returns : goal.returns
returns c = c.in_ok-states.ensures ∙ no_runs_is 1024 refl
