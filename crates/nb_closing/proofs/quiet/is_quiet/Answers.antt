use Rattle.std.proofs.Common.{◌≡◌, ◌∙◌, sym, ap, not, ◌&&◌, false, true}
use Rattle.nb_closing.specs.declared.site.Site.{Site}
use Rattle.nb_closing.specs.Sites.{site_in}
use Rattle.nb_closing.proofs.Quiets.{quiet_started}
use Rattle.nb_closing.proofs.quiet.is_quiet.Goals as goal

pub returns-then-wanted : goal.returns-then-wanted
returns-then-wanted c =
    let m = c.args.moment.now in
    let later : Site.later (site_in m.sites.items c.args.v) ≡ false = ap (λ (x : Site). x.later) (sym c.site_at.ensures) ∙ c.if-site_at.false in
    let wants : (not m.disposed && c.args.ties.now.is_used) ≡ true = sym c.is_wanted-wanted.ensures ∙ c.if-wanted.true in
    quiet_started c.args.sheet.now.sheet c.args.starts.now.items m c.args.v c.args.ties.now c.in-Some.start.now _ c.place_at-place.result c.rests_on.result c.requires later (sym c.in-Some.ensures) wants c.kept.ensures.value
    c.place_at-place.ensures c.rests_on.ensures
