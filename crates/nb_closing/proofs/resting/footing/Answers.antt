use Rattle.std.proofs.Common.{◌≡◌, ◌∙◌, ◌+◌, ◌-◌, ◌<◌, ℕ, ap, arith, length}
use Rattle.std.proofs.lemmas.Result.{IfOk-weaker}
use Rattle.nb_runs.specs.Footings.{footing_of}
use Rattle.nb_closing.specs.Ties.{ties_of}
use Rattle.nb_closing.proofs.Putting.{ties_length, ties_at}
use Rattle.nb_closing.proofs.StartSites.{rests_on}
use Rattle.nb_closing.proofs.resting.footing.Goals as goal

pub index-requires : goal.index-requires
index-requires c = omega (arith, c.requires.low, c.requires.there, c.args.ties.now.ok, ties_length c.args.sheet.now.sheet c.args.ties.now.items c.requires.ties)

pub present-requires : goal.present-requires
present-requires c =
    let s = c.args.sheet.now.sheet in
    let inside : c.args.var - 1 < length s.rows = omega (arith, c.requires.low, c.requires.there) in
    let one : c.args.var - 1 + 1 ≡ c.args.var = omega (arith, c.requires.low) in
    ties_at s c.args.ties.now.items (c.args.var - 1) c.index.result.now c.requires.ties inside c.index.ensures ∙ ap (ties_of s) one

pub returns-clause-footing : goal.returns-clause-footing
returns-clause-footing c =
    IfOk-weaker c.present.result _ _ (λ f is r sheet starts. rests_on r c.args.sheet.now.sheet c.args.starts.now.items c.in_ok-sites.sites.items c.args.var (footing_of f) c.in_ok-sites.ensures is sheet starts)
    c.present.ensures.footing
