use Rattle.std.proofs.Common.{◌≡◌, not}
use Rattle.std.specs.List.{filter, range_with_len}
use Rattle.nb_closing.specs.Quiet.{quiet_at}
use Rattle.nb_closing.proofs.quiet.loud.Given as goal

abbrev pub invariant-loop-k : goal.invariant-loop-k
invariant-loop-k l = l.vars.items ≡ filter (λ v. not (quiet_at l.sheet.sheet l.starts.items l.moment v)) (range_with_len 1 l.k)
