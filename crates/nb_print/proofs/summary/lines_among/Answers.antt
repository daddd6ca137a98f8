use Rattle.std.proofs.Common.{◌<◌, length, arith}
use Rattle.nb_history.specs.History.{standing}
use Rattle.nb_print.specs.Summary.{lines_of_kind}
use Rattle.nb_print.proofs.SummaryLemmas.{one_more}
use Rattle.nb_print.proofs.summary.lines_among.Goals as goal

pub loop-i-preserved : goal.loop-i-preserved
loop-i-preserved c =
    let inside : c.loop-i.i < length c.args.rows.now = omega arith in (
      one_more c.args.kind (standing c.args.core.now) c.loop-i.i (length c.args.rows.now) c.loop-i.count (lines_of_kind c.args.kind (standing c.args.core.now)) c.lines_for-count.result inside
          c.loop-i.invariant.0 c.lines_for-count.ensures.value,
      omega (arith, c.loop-i.invariant.1, c.lines_for-count.ensures.most),
    )
