use Rattle.std.proofs.Common.{◌≡◌, ◌+◌, [], length, drop}
use Rattle.std.specs.Prelude.{replicate}
use Rattle.nb_wave.specs.Users.{added_all}
use Rattle.nb_closing.specs.Touched.{needing}
use Rattle.nb_closing.proofs.touching.user_lists.Given as goal

abbrev pub invariant-loop-k : goal.invariant-loop-k
invariant-loop-k l =
    record {
      size : length l.lists.items ≡ length (needing l.ties.items);
      lists : added_all (l.k + 1) (drop (l.k + 1) (needing l.ties.items)) l.lists.items
          ≡ added_all 0 (needing l.ties.items) (replicate (length (needing l.ties.items)) []);
    }
