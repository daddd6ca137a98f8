use Rattle.std.proofs.Common.{◌≡◌, length, drop}
use Rattle.nb_wave.specs.Users.{added}
use Rattle.nb_closing.proofs.touching.add_user.Given as goal

abbrev pub invariant-loop-u : goal.invariant-loop-u
invariant-loop-u l =
    record {
      size : length l.lists.items ≡ length l.fn.lists.items;
      lists : added l.v (drop l.u-index l.needs) l.lists.items ≡ added l.v l.needs l.fn.lists.items;
    }
