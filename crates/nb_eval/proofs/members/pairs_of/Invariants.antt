-- The fields up to here and those to come are all.
use Rattle.std.proofs.Common.{◌≡◌, ◌++◌}
use Rattle.nb_eval.specs.Members.{members_of}
use Rattle.nb_eval.proofs.members.pairs_of.Given as goal

abbrev pub invariant-loop-name : goal.invariant-loop-name
invariant-loop-name l = l.pairs ++ members_of l.name-iterator ≡ members_of l.fn.map.entries
