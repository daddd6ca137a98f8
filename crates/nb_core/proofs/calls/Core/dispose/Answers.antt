use Rattle.std.proofs.Common.{◌∙◌, ap, refl, ℕ, ◌+◌, length}
use Rattle.nb_log.specs.declared.event.Event.TheVariants.{Dispose as DisposeEvent}
use Rattle.nb_log.specs.declared.entry.Entry.TheVariants.{Dispose}
use Rattle.nb_history.specs.History.{History, standing}
use Rattle.nb_core.proofs.Admitted.{taken, plans_left, gains_planned, kept_planned}
use Rattle.nb_core.proofs.calls.Core.dispose.Goals as goal

pub commit-requires-clause-plans : goal.commit-requires-clause-plans
commit-requires-clause-plans c =
    plans_left c.self-2.inside.machine.history c.args.self.now c.reserve.new.self.history c.dispose.new.self.history (c.self-2.view_is ∙ c.leaving_all.ensures.same) c.reserve.ensures.same
    (Dispose c.args.editor) c.in-Ok.steps.items (c.in-Ok.ensures.plans c.args.editor) c.dispose.ensures.entry

pub invariant_of-self-2 : goal.invariant_of-self-2
invariant_of-self-2 c =
    kept_planned c.self-2.inside.machine.history c.args.self.now c.reserve.new.self.history c.dispose.new.self.history (c.self-2.view_is ∙ c.leaving_all.ensures.same) c.reserve.ensures.same
    (Dispose c.args.editor) c.in-Ok.steps.items (c.in-Ok.ensures.plans c.args.editor) c.dispose.ensures.entry
    c.commit.new.self.history c.self-2.inside.closer c.self-2.invariant c.args.editor DisposeEvent c.requires.low (taken (standing c.args.self.now) c.args.editor DisposeEvent c.requires.gate refl)
    tt refl c.commit.ensures

pub returns-clause-ok : goal.returns-clause-ok
returns-clause-ok c = (
  ap (λ (n : ℕ). n + 1) (c.len-place.ensures.value ∙ ap (λ (h : History). length h.log) c.self.view_is),
  gains_planned c.self-2.inside.machine.history c.args.self.now c.reserve.new.self.history c.dispose.new.self.history (c.self-2.view_is ∙ c.leaving_all.ensures.same) c.reserve.ensures.same
      (Dispose c.args.editor) c.in-Ok.steps.items (c.in-Ok.ensures.plans c.args.editor) c.dispose.ensures.entry
      c.commit.new.self.history c.self-2.inside.closer c.self-2.invariant c.args.editor DisposeEvent c.requires.low (taken (standing c.args.self.now) c.args.editor DisposeEvent c.requires.gate refl)
      tt refl c.commit.ensures,
)
