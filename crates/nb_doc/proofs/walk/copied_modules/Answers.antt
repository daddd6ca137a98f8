-- One step of the walk.
use Rattle.std.proofs.Common.{◌<◌, length, arith}
use Rattle.nb_sheet.specs.Derive.{copied_of, copied_modules}
use Rattle.nb_doc.proofs.CountingLemmas.{walk_step}
use Rattle.nb_doc.proofs.walk.copied_modules.Goals as goal

pub loop-place-preserved : goal.loop-place-preserved
loop-place-preserved c =
    let inside : c.loop-place.place < length c.args.marks.now = omega arith in
    walk_step c.args.marks.now (copied_of c.args.within c.args.specifiers.now c.args.rows.now) (length c.args.marks.now) c.loop-place.place c.loop-place.list.items c.go_from.new.list.items
    (copied_modules c.args.marks.now c.args.rows.now c.args.within c.args.specifiers.now) inside c.in_ok-go_from.ensures c.loop-place.invariant
