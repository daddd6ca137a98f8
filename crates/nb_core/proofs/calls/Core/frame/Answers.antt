use Rattle.std.proofs.Common.{◌∙◌, ap, sym, subst, refl, ℕ, ◌+◌, ◌<◌, ◌^◌, length}
use Rattle.nb_log.specs.declared.event.Event.TheVariants.{Frame as FrameEvent}
use Rattle.nb_log.specs.declared.entry.Entry.TheVariants.{Frame}
use Rattle.nb_history.specs.History.{History, standing}
use Rattle.nb_core.proofs.Admitted.{taken, few_entries, kept_after, gains_entry}
use Rattle.nb_core.proofs.calls.Core.frame.Goals as goal

pub frame-requires-clause-few : goal.frame-requires-clause-few
frame-requires-clause-few c =
    subst (λ (h : History). length h.log + 1 < 2 ^ 32) (sym (c.reserve.ensures.same ∙ c.self.view_is)) (few_entries c.args.self.now c.requires.gate)

pub invariant_of-self-2 : goal.invariant_of-self-2
invariant_of-self-2 c =
    kept_after c.self.inside.machine.history c.args.self.now c.reserve.new.self.history c.frame.new.self.history c.self.inside.closer c.self.invariant c.self.view_is c.reserve.ensures.same
    c.args.editor FrameEvent (Frame c.args.editor) c.requires.low (taken (standing c.args.self.now) c.args.editor FrameEvent c.requires.gate refl) tt refl c.frame.ensures.entry

pub returns-clause-ok : goal.returns-clause-ok
returns-clause-ok c = (
  ap (λ (n : ℕ). n + 1) (c.len-place.ensures.value ∙ ap (λ (h : History). length h.log) c.self.view_is),
  gains_entry c.self.inside.machine.history c.args.self.now c.reserve.new.self.history c.frame.new.self.history c.self.inside.closer c.self.invariant c.self.view_is c.reserve.ensures.same
      c.args.editor FrameEvent (Frame c.args.editor) c.requires.low (taken (standing c.args.self.now) c.args.editor FrameEvent c.requires.gate refl) tt refl c.frame.ensures.entry,
)
