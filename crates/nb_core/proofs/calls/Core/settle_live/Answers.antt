use Rattle.std.proofs.Common.{◌∙◌, ap, sym, refl, ℕ, ◌+◌, length}
use Rattle.nb_log.specs.declared.event.Event.TheVariants.{Settle}
use Rattle.nb_log.specs.declared.event.Target.TheVariants.{Ticket}
use Rattle.nb_log.specs.declared.entry.Entry.TheVariants.{Settled}
use Rattle.nb_history.specs.History.{History, standing}
use Rattle.nb_core.proofs.Admitted.{live_taken, keeps_as, kept_after, gains_entry}
use Rattle.nb_core.proofs.calls.Core.settle_live.Goals.{in-Ok, in-Err}
use Rattle.nb_core.proofs.calls.Core.settle_live.Goals as goal

pub invariant_of-self : goal.invariant_of-self
invariant_of-self c =
    let h : History = c.self.inside.machine.history in
    elim c.match-settled.branch [
      | in-Ok w ↦
          kept_after h c.args.self.now h c.settled.new.self.history c.self.inside.closer c.self.invariant c.self.view_is refl
          c.args.editor (Settle (Ticket c.args.ticket) c.args.answer) (Settled c.args.editor c.args.ticket c.args.answer) c.requires.low
          (live_taken (standing c.args.self.now) c.args.editor c.args.ticket c.args.answer c.requires.gate c.requires.there c.requires.live) tt refl w.in-Ok.ensures.ok
      | in-Err w ↦ keeps_as h c.settled.new.self.history c.self.inside.closer (sym w.in-Err.ensures.err.1) c.self.invariant
    ]

pub returns-clause-ok : goal.returns-clause-ok
returns-clause-ok c =
    let h : History = c.self.inside.machine.history in
    elim c.match-settled.branch [
      | in-Ok w ↦
          rw w.result-is (
            ap (λ (n : ℕ). n + 1) (c.len-place.ensures.value ∙ ap (λ (g : History). length g.log) c.self.view_is),
            gains_entry h c.args.self.now h c.settled.new.self.history c.self.inside.closer c.self.invariant c.self.view_is refl
                c.args.editor (Settle (Ticket c.args.ticket) c.args.answer) (Settled c.args.editor c.args.ticket c.args.answer) c.requires.low
                (live_taken (standing c.args.self.now) c.args.editor c.args.ticket c.args.answer c.requires.gate c.requires.there c.requires.live) tt refl w.in-Ok.ensures.ok,
          )
      | in-Err w ↦ rw w.result-is tt
    ]
