use Rattle.std.proofs.Common.{◌≢◌, length, arith}
use Rattle.nb_closing.specs.declared.site.Site.{Site}
use Rattle.nb_closing.specs.Sites.{site_in}
use Rattle.nb_closing.proofs.SameFootings.{differ_length}
use Rattle.nb_closing.proofs.quiet.same_starts.Goals as goal

pub returns-then-len-kept : goal.returns-then-len-kept
returns-then-len-kept c =
    let other : length c.args.direct.now.items ≢ length c.args.kept.now = omega (arith, c.len.ensures, c.if-len-kept.true, c.args.direct.now.ok) in
    differ_length (λ u. Site.number (site_in c.args.sites.now.items u)) c.args.direct.now.items c.args.kept.now other
