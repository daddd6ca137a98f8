use Rattle.std.proofs.Common.{ℕ, ◌∙◌, ap, subst}
use Rattle.std.specs.Prelude.{◌==◌}
use Rattle.nb_value.specs.declared.outcome.Outcome.{Outcome}
use Rattle.nb_eval.specs.Work.{IsOf}
use Rattle.nb_eval.specs.declared.work.WorkDone.{WorkDone}
use Rattle.nb_work.specs.Work.{work_of}
use Rattle.nb_work.specs.Notices.{shown_entry}
use Rattle.nb_work.proofs.Works.{direct_entry, ran_entry}
use Rattle.nb_work.proofs.notice.entry_of.Goals as goal

pub returns-in_ok-outcome-in-Direct : goal.returns-in_ok-outcome-in-Direct
returns-in_ok-outcome-in-Direct c = λ r h ticket k.
    c.shown_entry.ensures ∙ ap (λ (x : Outcome). shown_entry c.args.var x) c.in_ok-outcome-in-Direct.ensures
    ∙ direct_entry r c.args.var c.in-Direct.outcome (subst (λ (d : WorkDone). IsOf (work_of r c.args.var) d) c.in-Direct.is k)

pub returns-in_ok-entry-in-Ran : goal.returns-in_ok-entry-in-Ran
returns-in_ok-entry-in-Ran c = λ r h ticket k.
    ran_entry r c.args.var c.args.sheet.now.sheet c.args.starts.now.items h c.generates-generator.result (c.pulls_at-first.result == 1) c.generates-generator.ensures
    (ap (λ (n : ℕ). n == 1) c.pulls_at-first.ensures) c.in-Ran.finished c.args.ticket c.result.result.now c.in_ok-entry-in-Ran.entry ticket c.result.ensures.same c.in_ok-entry-in-Ran.ensures
    (subst (λ (d : WorkDone). IsOf (work_of r c.args.var) d) c.in-Ran.is k)
