use Rattle.std.proofs.Common.{◌≡◌, ◌≤◌, ◌∙◌, sym, ap, List, [], ◌∷◌, ◌++◌, length, take, drop, arith}
use Rattle.std.proofs.lemmas.List.{take-append-le, length_push}
use Rattle.nb_wave.specs.declared.table.Change.{Change}
use Rattle.nb_wave.specs.Changes.{put_back}
use Rattle.nb_wave.proofs.Back.{back_pop}
use Rattle.nb_wave.proofs.table.roll_back.Goals as goal

pub loop-changes-preserved-in-Some : goal.loop-changes-preserved-in-Some
loop-changes-preserved-in-Some c =
    let n = c.args.n in
    let before = c.loop-changes.changes.items in
    let cs = c.pop.new.self.items in
    let change = c.in-Some.change in
    let rows = c.loop-changes.rows.items in
    let e : before ≡ cs ++ change ∷ [] = c.in-Some.ensures.items in
    let less : n ≤ length cs = omega (arith, ap (λ (l : List Change). length l) e ∙ length_push cs change) in
    record {
      rows =
          ap (put_back (drop n cs)) c.put_back_one.ensures
          ∙ sym (back_pop n cs change rows less)
          ∙ ap (λ (l : List Change). put_back (drop n l) rows) (sym e)
          ∙ c.loop-changes.invariant.rows;
      changes = sym (take-append-le n cs (change ∷ []) less) ∙ ap (take n) (sym e) ∙ c.loop-changes.invariant.changes;
    }
