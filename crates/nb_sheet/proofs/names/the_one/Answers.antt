use Rattle.std.proofs.Common.{◌<◌, ◌∙◌, length, arith}
use Rattle.nb_sheet.proofs.Scans.{found_yes, found_no}
use Rattle.nb_sheet.proofs.names.the_one.Goals as goal
use Rattle.nb_sheet.proofs.names.the_one.Goals.{then-is_of_name, else-is_of_name}

pub loop-i-preserved : goal.loop-i-preserved
loop-i-preserved c =
    let inside : c.loop-i.i < length c.args.rows.now = omega arith in
    let rows = c.args.rows.now in
    let row = c.index-rows-i.result in
    elim c.if-is_of_name.branch [
      | then-is_of_name w ↦ w.found-is ∙ (w.with_one_more-found.ensures ∙ found_yes c.args.within c.args.name.now rows c.loop-i.i row c.is_of_name.result c.loop-i.found inside c.index-rows-i.is c.is_of_name.ensures w.if-is_of_name.true c.loop-i.invariant)
      | else-is_of_name w ↦ w.found-is ∙ found_no c.args.within c.args.name.now rows c.loop-i.i row c.is_of_name.result c.loop-i.found inside c.index-rows-i.is c.is_of_name.ensures w.if-is_of_name.false c.loop-i.invariant
    ]
