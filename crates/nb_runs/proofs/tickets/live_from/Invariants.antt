use Rattle.std.proofs.Common.{◌≡◌, None, nat_le, ◌&&◌}
use Rattle.std.specs.List.{range_with_len}
use Rattle.nb_history.specs.Lists.{first_where}
use Rattle.nb_runs.specs.Tickets.{live_in}
use Rattle.nb_runs.proofs.tickets.live_from.Given as goal

abbrev pub invariant-loop-k : goal.invariant-loop-k
invariant-loop-k l = first_where (λ t. nat_le l.at_least t && live_in l.starts.items l.tickets.items t) (range_with_len 1 l.k) ≡ None
