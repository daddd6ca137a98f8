use Rattle.std.proofs.Common.{◌≡◌, ◌&&◌, ℕ, None}
use Rattle.std.specs.Prelude.{nat_le}
use Rattle.std.specs.List.{range_with_len}
use Rattle.nb_history.specs.Lists.{first_where}
use Rattle.nb_history.specs.Rules.{ready}
use Rattle.nb_work.specs.Tied.{over}
use Rattle.nb_work.proofs.readiness.ready_from.Given as goal

-- none so far
abbrev pub invariant-loop-k : goal.invariant-loop-k
invariant-loop-k l = first_where (λ (v : ℕ). nat_le l.at_least v && ready (over l.sheet.sheet l.starts.items) v) (range_with_len 1 l.k) ≡ None
