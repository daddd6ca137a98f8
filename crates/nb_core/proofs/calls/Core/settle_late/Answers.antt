use Rattle.std.proofs.Common.{◌∙◌, ap, refl, ℕ, ◌+◌, length}
use Rattle.nb_log.specs.declared.event.Event.TheVariants.{Settle}
use Rattle.nb_log.specs.declared.event.Target.TheVariants.{Ticket}
use Rattle.nb_log.specs.declared.entry.Entry.TheVariants.{Late}
use Rattle.nb_history.specs.History.{History, standing}
use Rattle.nb_core.proofs.Admitted.{late_taken, kept_after, gains_entry}
use Rattle.nb_core.proofs.calls.Core.settle_late.Goals as goal

pub invariant_of-self-2 : goal.invariant_of-self-2
invariant_of-self-2 c =
    kept_after c.self.inside.machine.history c.args.self.now c.reserve.new.self.history c.late.new.self.history c.self.inside.closer c.self.invariant c.self.view_is c.reserve.ensures.same
    c.args.editor (Settle (Ticket c.args.ticket) c.args.answer) (Late c.args.editor c.args.ticket) c.requires.low
    (late_taken (standing c.args.self.now) c.args.editor c.args.ticket c.args.answer c.requires.gate c.requires.there c.requires.late) tt refl c.late.ensures.entry

pub returns-clause-ok : goal.returns-clause-ok
returns-clause-ok c = (
  ap (λ (n : ℕ). n + 1) (c.len-place.ensures.value ∙ ap (λ (h : History). length h.log) c.self.view_is),
  gains_entry c.self.inside.machine.history c.args.self.now c.reserve.new.self.history c.late.new.self.history c.self.inside.closer c.self.invariant c.self.view_is c.reserve.ensures.same
      c.args.editor (Settle (Ticket c.args.ticket) c.args.answer) (Late c.args.editor c.args.ticket) c.requires.low
      (late_taken (standing c.args.self.now) c.args.editor c.args.ticket c.args.answer c.requires.gate c.requires.there c.requires.late) tt refl c.late.ensures.entry,
)
