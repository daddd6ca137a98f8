use Rattle.std.proofs.Common.{◌≡◌, [], length, drop}
use Rattle.std.specs.Prelude.{replicate}
use Rattle.nb_wave.specs.Users.{added_all}
use Rattle.nb_wave.proofs.users.user_lists.Given as goal

abbrev pub invariant-loop-v : goal.invariant-loop-v
invariant-loop-v l =
    record {
      size : length l.lists.items ≡ length l.rows;
      lists : added_all l.v (drop l.v l.rows) l.lists.items ≡ added_all 0 l.rows (replicate (length l.rows) []);
    }
