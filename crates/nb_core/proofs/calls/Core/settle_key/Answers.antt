use Rattle.std.proofs.Common.{◌∙◌, ap, sym, refl, ℕ, ◌+◌, length}
use Rattle.nb_log.specs.declared.event.Event.TheVariants.{Settle}
use Rattle.nb_log.specs.declared.event.Target.TheVariants.{Key}
use Rattle.nb_log.specs.declared.entry.Entry.TheVariants.{Settled}
use Rattle.nb_history.specs.History.{History, standing}
use Rattle.nb_core.proofs.Admitted.{key_taken, live_key, keeps_as, kept_after, gains_entry}
use Rattle.nb_core.proofs.calls.Core.settle_key.Goals.{in-Ok, in-Err}
use Rattle.nb_core.proofs.calls.Core.settle_key.Goals as goal

pub invariant_of-self : goal.invariant_of-self
invariant_of-self c =
    let h : History = c.self.inside.machine.history in
    elim c.match-settled.branch [
      | in-Ok w ↦
          kept_after h c.args.self.now h c.settled.new.self.history c.self.inside.closer c.self.invariant c.self.view_is refl
          c.args.editor (Settle (Key c.args.key) c.args.answer) (Settled c.args.editor c.in-Some.ticket c.args.answer) c.requires.low
          (key_taken (standing c.args.self.now) c.args.editor c.args.key c.args.answer c.in-Some.ticket c.requires.gate
          (live_key h c.args.self.now c.starts.result.now.items c.tickets.result.now.items c.args.key c.self.view_is c.starts.ensures c.tickets.ensures ∙ sym c.live_of_key.ensures ∙ c.in-Some.is))
          tt refl w.in-Ok.ensures.ok
      | in-Err w ↦ keeps_as h c.settled.new.self.history c.self.inside.closer (sym w.in-Err.ensures.err.1) c.self.invariant
    ]

pub returns-after-settled-clause-ok : goal.returns-after-settled-clause-ok
returns-after-settled-clause-ok c =
    let h : History = c.self.inside.machine.history in
    elim c.match-settled.branch [
      | in-Ok w ↦
          rw w.result-is (
            ap (λ (n : ℕ). n + 1) (c.len-place.ensures.value ∙ ap (λ (g : History). length g.log) c.self.view_is),
            gains_entry h c.args.self.now h c.settled.new.self.history c.self.inside.closer c.self.invariant c.self.view_is refl
                c.args.editor (Settle (Key c.args.key) c.args.answer) (Settled c.args.editor c.in-Some.ticket c.args.answer) c.requires.low
                (key_taken (standing c.args.self.now) c.args.editor c.args.key c.args.answer c.in-Some.ticket c.requires.gate
                (live_key h c.args.self.now c.starts.result.now.items c.tickets.result.now.items c.args.key c.self.view_is c.starts.ensures c.tickets.ensures ∙ sym c.live_of_key.ensures ∙ c.in-Some.is))
                tt refl w.in-Ok.ensures.ok,
          )
      | in-Err w ↦ rw w.result-is tt
    ]
