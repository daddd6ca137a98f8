use Rattle.std.proofs.Common.{ℕ, ◌+◌, refl, sym, ◌∙◌, ap, subst, arith, length}
use Rattle.nb_eval.specs.Work.{IsOf}
use Rattle.nb_history.specs.History.{History, standing}
use Rattle.nb_history.specs.Rules.{ready, next}
use Rattle.nb_work.specs.Work.{work_of}
use Rattle.nb_core.proofs.Completes.{plans_then, gains_now, core_after, core_same}
use Rattle.nb_core.proofs.calls.Core.place.Goals as goal

pub prepare-requires-clause-ready : goal.prepare-requires-clause-ready
prepare-requires-clause-ready c = ap (λ (h : History). ready (standing h) c.args.var) c.self.view_is ∙ c.requires.ready

pub prepare-requires-clause-work : goal.prepare-requires-clause-work
prepare-requires-clause-work c = subst (λ (h : History). IsOf (work_of (standing h) c.args.var) c.args.done) (sym c.self.view_is) c.requires.work

pub enter-requires-clause-room : goal.enter-requires-clause-room
enter-requires-clause-room c = omega (arith, c.in-Ok.ensures.room)

pub enter-requires-clause-next : goal.enter-requires-clause-next
enter-requires-clause-next c = c.in-Ok.ensures.entry ∙ ap (λ (h : History). next (standing h) c.args.var) (sym c.prepare.ensures.history)

pub enter-requires-clause-notice : goal.enter-requires-clause-notice
enter-requires-clause-notice c =
    c.notice_of-notice.ensures (standing c.prepare.new.machine.history) (record { sheet = sym c.sheet.ensures.value; starts = sym c.starts.ensures })
    (subst (λ (h : History). IsOf (work_of (standing h) c.args.var) c.args.done) (sym (c.prepare.ensures.history ∙ c.self.view_is)) c.requires.work)

pub commit-requires-clause-room : goal.commit-requires-clause-room
commit-requires-clause-room c = omega (arith, c.in-Ok.ensures.room, c.enter.ensures.room)

pub commit-requires-clause-plans : goal.commit-requires-clause-plans
commit-requires-clause-plans c =
    plans_then c.self.inside.machine.history c.args.self.now c.prepare.new.machine.history c.enter.new.self.history c.enter.new.self.history c.args.var c.in-Ok.entry c.in-Ok.steps.items
    c.self.view_is c.prepare.ensures.history c.in-Ok.ensures.entry c.in-Ok.ensures.plans c.enter.ensures.entry

pub invariant_of-self : goal.invariant_of-self
invariant_of-self c =
    core_after c.self.inside.machine.history c.args.self.now c.prepare.new.machine.history c.enter.new.self.history c.commit.new.self.history c.args.var c.in-Ok.entry c.in-Ok.steps.items
    c.self.view_is c.prepare.ensures.history c.in-Ok.ensures.entry c.in-Ok.ensures.plans c.enter.ensures.entry c.self.invariant.0 c.requires.ready c.commit.ensures
    c.self.inside.closer c.prepare.new.closer c.self.invariant.1 c.prepare.ensures.closer

pub returns-in-Ok-clause-ok : goal.returns-in-Ok-clause-ok
returns-in-Ok-clause-ok c = (
  ap (λ (n : ℕ). n + 1) (c.len-place.ensures.value ∙ ap (λ (h : History). length h.log) c.self.view_is),
  gains_now c.self.inside.machine.history c.args.self.now c.prepare.new.machine.history c.enter.new.self.history c.commit.new.self.history c.args.var c.in-Ok.entry c.in-Ok.steps.items
      c.self.view_is c.prepare.ensures.history c.in-Ok.ensures.entry c.in-Ok.ensures.plans c.enter.ensures.entry c.self.invariant.0 c.requires.ready c.commit.ensures,
)

pub invariant_of-self-in-Err : goal.invariant_of-self-in-Err
invariant_of-self-in-Err c =
    core_same c.self.inside.machine.history c.prepare.new.machine.history c.self.inside.closer c.prepare.new.closer c.prepare.ensures.history c.prepare.ensures.closer c.self.invariant.0 c.self.invariant.1

pub returns-in-Err-clause-err : goal.returns-in-Err-clause-err
returns-in-Err-clause-err c = (refl, c.prepare.ensures.history ∙ c.self.view_is)
