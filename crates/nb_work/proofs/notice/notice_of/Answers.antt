use Rattle.std.proofs.Common.{ℕ, ap, subst}
use Rattle.std.specs.Prelude.{◌==◌}
use Rattle.nb_eval.specs.Work.{IsOf}
use Rattle.nb_eval.specs.declared.work.WorkDone.{WorkDone}
use Rattle.nb_work.specs.Work.{work_of}
use Rattle.nb_work.proofs.Works.{direct_notice, ran_notice}
use Rattle.nb_work.proofs.notice.notice_of.Goals as goal

pub returns-in-Direct : goal.returns-in-Direct
returns-in-Direct c = λ r h k.
    direct_notice r c.args.var c.in-Direct.outcome c.new.result c.new.ensures (subst (λ (d : WorkDone). IsOf (work_of r c.args.var) d) c.in-Direct.is k)

pub returns-in-Ran : goal.returns-in-Ran
returns-in-Ran c = λ r h k.
    ran_notice r c.args.var c.args.sheet.now.sheet c.args.starts.now.items h c.generates-generator.result (c.pulls_at-first.result == 1) c.generates-generator.ensures
    (ap (λ (n : ℕ). n == 1) c.pulls_at-first.ensures) c.in-Ran.finished c.into_result.result c.ended_notice.result c.into_result.ensures.same c.ended_notice.ensures
    (subst (λ (d : WorkDone). IsOf (work_of r c.args.var) d) c.in-Ran.is k)
