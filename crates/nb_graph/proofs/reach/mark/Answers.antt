use Rattle.std.proofs.Common.{Vec, Global, ◌<◌, ◌∙◌, ap, length, get_or, ℕ, arith}
use Rattle.nb_graph.proofs.Lists.{index_has}
use Rattle.nb_graph.proofs.Marks.{mark_skips, mark_sets}
use Rattle.nb_graph.proofs.reach.mark.Goals as goal
use Rattle.nb_graph.proofs.reach.mark.Goals.{then-not-marks-u+in_ok-push, else-not-marks-u}

pub bounds-marks-u : goal.bounds-marks-u
bounds-marks-u c =
    let inside : c.loop-u.u-index < length c.args.nodes.now = omega arith in
    omega (arith, c.requires (get_or c.args.nodes.now c.loop-u.u-index 0) (index_has c.args.nodes.now c.loop-u.u-index inside))

pub bounds-marks-u-then-not-marks-u : goal.bounds-marks-u-then-not-marks-u
bounds-marks-u-then-not-marks-u c =
    let inside : c.loop-u.u-index < length c.args.nodes.now = omega arith in
    omega (arith, c.requires (get_or c.args.nodes.now c.loop-u.u-index 0) (index_has c.args.nodes.now c.loop-u.u-index inside))

pub loop-u-preserved : goal.loop-u-preserved
loop-u-preserved c =
    let ns = c.args.nodes.now in
    let i = c.loop-u.u-index in
    let inside : i < length ns = omega arith in
    let low : get_or ns i 0 < length c.loop-u.marks = omega (arith, c.requires (get_or ns i 0) (index_has ns i inside)) in
    elim c.if-not-marks-u.branch [
      | then-not-marks-u+in_ok-push w ↦
          mark_sets ns i c.args.marks.now c.args.stack.now.items c.loop-u.marks c.loop-u.stack.items c.if-not-marks-u.marks c.if-not-marks-u.stack.items inside c.loop-u.invariant
          low w.if-not-marks-u.true w.marks-is (ap (λ (s : Vec ℕ Global). s.items) w.stack-is ∙ w.in_ok-push.ensures.items)
      | else-not-marks-u w ↦
          mark_skips ns i c.args.marks.now c.args.stack.now.items c.loop-u.marks c.loop-u.stack.items c.if-not-marks-u.marks c.if-not-marks-u.stack.items inside c.loop-u.invariant
          w.if-not-marks-u.false w.marks-is (ap (λ (s : Vec ℕ Global). s.items) w.stack-is)
    ]
