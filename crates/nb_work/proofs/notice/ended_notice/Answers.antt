use Rattle.std.proofs.Common.{sym}
use Rattle.nb_eval.specs.declared.given.Ending.TheVariants.{Done}
use Rattle.nb_work.proofs.Works.{paused_end, end_is, end_cleanups}
use Rattle.nb_work.proofs.notice.ended_notice.Goals as goal

pub returns-in-Paused : goal.returns-in-Paused
returns-in-Paused c = λ e k. paused_end c.args.end e k c.args.generator c.args.first c.last_or_null.result c.in-Paused.is c.last_or_null.ensures

pub returns-in-Done : goal.returns-in-Done
returns-in-Done c = λ e k.
    c.done_notice.ensures e (end_is c.args.end e k c.args.generator c.args.first (Done c.in-Done.value) c.in-Done.is) (sym (end_cleanups c.args.end e k c.args.generator c.args.first))
