use Rattle.std.proofs.Common.{ℕ, ◌+◌, ◌≡◌, ◌<◌, ◌∙◌, sym, ap, List, arith, not, ◌&&◌}
use Rattle.nb_graph.specs.Needs.{has}
use Rattle.nb_resolve.specs.Names.{direct}
use Rattle.nb_closing.specs.declared.site.Site.{Site}
use Rattle.nb_closing.specs.Ties.{Ties}
use Rattle.nb_closing.proofs.Putting.{need_number, told_more}
use Rattle.nb_closing.proofs.telling.tell_one.Goals as goal

pub put-requires-clause-needs : goal.put-requires-clause-needs
put-requires-clause-needs c =
    let s = c.args.sheet.now.sheet in
    let e : c.deref.result.now ≡ direct s (c.args.k + 1) = c.deref.ensures.value ∙ c.direct.ensures ∙ ap (λ (t : Ties). t.direct) c.requires.ties in
    λ u h. need_number s c.requires.few (c.args.k + 1) u (ap (λ (l : List ℕ). has l u) (sym e) ∙ h)

pub returns-clause-told : goal.returns-clause-told
returns-clause-told c =
    let s = c.args.sheet.now.sheet in
    let m = c.args.moment.now in
    let k = c.args.k in
    let inside : k < 1024 = omega (arith, c.requires.row, c.requires.few) in
    told_more s c.args.starts.now.items m c.args.touched.now k inside c.args.wave.now.rows c.put.new.self.rows c.keep_start.new.wave.rows c.requires.told c.requires.touched
    c.is_wanted-wanted.result (Site.later c.site_at-later.result) c.in_ok-present.present c.deref.result.now
    (c.is_wanted-wanted.ensures ∙ ap (λ (t : Ties). not m.disposed && t.is_used) c.requires.ties)
    (ap (λ (x : Site). x.later) c.site_at-later.ensures) c.in_ok-present.ensures.footing c.in_ok-present.ensures.marked
    (c.deref.ensures.value ∙ c.direct.ensures ∙ ap (λ (t : Ties). t.direct) c.requires.ties) c.in_ok-put.ensures.ok c.in_ok-keep_start.ensures.kept
