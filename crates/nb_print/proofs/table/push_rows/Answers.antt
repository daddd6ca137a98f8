use Rattle.std.proofs.Common.{◌<◌, length, arith}
use Rattle.nb_history.specs.History.{standing}
use Rattle.nb_history.specs.Print.{table_text}
use Rattle.nb_print.proofs.TableLemmas.{one_more}
use Rattle.std.proofs.Common.{◌++◌}
use Rattle.nb_print.proofs.table.push_rows.Goals as goal

pub loop-i-preserved : goal.loop-i-preserved
loop-i-preserved c =
    let inside : c.loop-i.i < length c.args.rows.now = omega arith in
    one_more (standing c.args.core.now) c.loop-i.i (length c.args.rows.now) c.loop-i.out (c.args.out.now ++ table_text (standing c.args.core.now)) c.push_variable.new.out inside
    c.loop-i.invariant c.in_ok-push_variable.ensures
