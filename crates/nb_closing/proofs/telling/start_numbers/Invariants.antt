use Rattle.std.proofs.Common.{◌≡◌, take, map}
use Rattle.nb_closing.specs.declared.site.Site.{Site}
use Rattle.nb_closing.specs.Sites.{site_in}
use Rattle.nb_closing.proofs.telling.start_numbers.Given as goal

abbrev pub invariant-loop-u : goal.invariant-loop-u
invariant-loop-u l = l.all.items ≡ map (λ u. Site.number (site_in l.sites.items u)) (take l.u-index l.u-items)
