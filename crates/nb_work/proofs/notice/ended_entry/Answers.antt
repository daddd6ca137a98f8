use Rattle.std.proofs.Common.{◌∙◌}
use Rattle.nb_eval.specs.declared.given.Ending.TheVariants.{Done}
use Rattle.nb_work.proofs.Works.{paused_entry, end_entry}
use Rattle.nb_work.proofs.notice.ended_entry.Goals as goal

pub returns-in_ok-last_copied-in-Paused : goal.returns-in_ok-last_copied-in-Paused
returns-in_ok-last_copied-in-Paused c = λ e k.
    paused_entry c.args.end.now e k c.args.generator c.args.first c.args.ticket c.args.var c.in_ok-last_copied-in-Paused.field-0 c.in-Paused.is c.in_ok-last_copied-in-Paused.ensures

pub returns-in_ok-entry-in-Done : goal.returns-in_ok-entry-in-Done
returns-in_ok-entry-in-Done c = λ e k.
    c.in_ok-entry-in-Done.ensures c.args.ticket e ∙ end_entry c.args.end.now e k c.args.generator c.args.first c.args.ticket c.args.var (Done c.in-Done.value) c.in-Done.is
