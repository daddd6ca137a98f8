use Rattle.std.proofs.Common.{◌≡◌, ◌<◌, ◌+◌, ◌∙◌, refl, sym, ap, subst, List, length, arith}
use Rattle.nb_sheet.specs.declared.row.VarRow.{VarRow}
use Rattle.nb_wave.specs.Wave.{Wave}
use Rattle.nb_closing.specs.Told.{AreTold}
use Rattle.nb_closing.proofs.Putting.{told_none, told_skips, ties_length, ties_at}
use Rattle.nb_closing.proofs.telling.tell.Goals as goal
use Rattle.nb_closing.proofs.telling.tell.Goals.{then-touched-k+in_ok-tell_one, else-touched-k}

pub loop-k-init : goal.loop-k-init
loop-k-init c =
    record { told = told_none c.args.sheet.now.sheet c.args.starts.now.items c.args.moment.now c.args.touched.now c.args.wave.now.rows c.requires.rows; same = refl }

pub index-requires : goal.index-requires
index-requires c =
    let rows_are : length c.rows-n.result.now ≡ length c.args.sheet.now.sheet.rows = ap (λ (l : List VarRow). length l) c.rows-n.ensures.value in
    omega (arith, c.args.ties.now.ok, rows_are, ties_length c.args.sheet.now.sheet c.args.ties.now.items c.requires.ties)

pub tell_one-requires-clause-ties : goal.tell_one-requires-clause-ties
tell_one-requires-clause-ties c =
    let s = c.args.sheet.now.sheet in
    let rows_are : length c.rows-n.result.now ≡ length s.rows = ap (λ (l : List VarRow). length l) c.rows-n.ensures.value in
    let inside : c.loop-k.k < length s.rows = omega (arith, rows_are) in
    ties_at s c.args.ties.now.items c.loop-k.k c.index.result.now c.requires.ties inside c.index.ensures

pub loop-k-preserved : goal.loop-k-preserved
loop-k-preserved c =
    let s = c.args.sheet.now.sheet in
    let xs = c.args.starts.now.items in
    let m = c.args.moment.now in
    let touched = c.args.touched.now in
    let k = c.loop-k.k in
    elim c.if-touched-k.branch [
      | then-touched-k+in_ok-tell_one w ↦ record {
        told = subst (λ (x : Wave). AreTold s xs m touched (k + 1) x.rows) (sym w.wave-is) w.in_ok-tell_one.ensures.told;
        same = ap (λ (x : Wave). x.marked) w.wave-is ∙ w.tell_one.ensures.marked ∙ c.loop-k.invariant.same;
      }
      | else-touched-k w ↦ record {
        told = subst (λ (x : Wave). AreTold s xs m touched (k + 1) x.rows) (sym w.wave-is) (told_skips s xs m touched k c.loop-k.wave.rows w.if-touched-k.false c.loop-k.invariant.told);
        same = ap (λ (x : Wave). x.marked) w.wave-is ∙ c.loop-k.invariant.same;
      }
    ]
