use Rattle.std.proofs.Common.{◌≡◌, map, take}
use Rattle.nb_closing.specs.Sites.{site_of}
use Rattle.nb_closing.proofs.site.sites.Given as goal

abbrev pub invariant-loop-k : goal.invariant-loop-k
invariant-loop-k l = l.all.items ≡ map site_of (take l.k l.starts.items)
