use Rattle.std.proofs.Common.{◌∙◌}
use Rattle.nb_wave.specs.declared.footing.Footing.{Footing as Numbered}
use Rattle.nb_closing.specs.Sites.{site_in}
use Rattle.nb_closing.proofs.Putting.{footing_made}
use Rattle.nb_closing.proofs.telling.present.Goals as goal

pub returns-clause-footing : goal.returns-clause-footing
returns-clause-footing c =
    let f : Numbered = record { place = c.place_at.result; mark = c.mark.result; inputs = c.from_vec.result; starts = c.in_ok-starts.starts; renewals = c.in_ok-renewals.renewals } in
    footing_made c.args.sheet.now.sheet (site_in c.args.sites.now.items) c.args.v c.args.ties.now f c.requires c.mark.ensures
    (c.from_vec.ensures ∙ c.in_ok-codes.ensures.items ∙ c.deref.ensures.value ∙ c.codes.ensures) c.place_at.ensures c.in_ok-starts.ensures c.in_ok-renewals.ensures
