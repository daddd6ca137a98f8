use Rattle.std.proofs.Common.{◌≡◌, map, drop}
use Rattle.nb_history.specs.Lists.{same_numbers}
use Rattle.nb_closing.specs.declared.site.Site.{Site}
use Rattle.nb_closing.specs.Sites.{site_in}
use Rattle.nb_closing.proofs.quiet.same_renewals.Given as goal

-- the rest is compared
abbrev pub invariant-loop-k : goal.invariant-loop-k
invariant-loop-k l =
    same_numbers (map (λ u. Site.renewal (site_in l.sites.items u)) (drop l.k l.direct.items)) (drop l.k l.kept)
    ≡ same_numbers (map (λ u. Site.renewal (site_in l.sites.items u)) l.direct.items) l.kept
