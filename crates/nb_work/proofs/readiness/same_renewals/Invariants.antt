use Rattle.std.proofs.Common.{◌≡◌, map, drop}
use Rattle.nb_history.specs.Lists.{same_numbers}
use Rattle.nb_work.specs.Tied.{renewal_of}
use Rattle.nb_work.proofs.readiness.same_renewals.Given as goal

-- the rest is compared
abbrev pub invariant-loop-k : goal.invariant-loop-k
invariant-loop-k l = same_numbers (map (renewal_of l.starts.items) (drop l.k l.direct.items)) (drop l.k l.kept) ≡ same_numbers (map (renewal_of l.starts.items) l.direct.items) l.kept
