use Rattle.std.proofs.Common.{ℕ, ◌+◌, refl, ◌∙◌, ap, length}
use Rattle.nb_history.specs.History.{History}
use Rattle.nb_core.proofs.Completes.{core_same}
use Rattle.nb_core.proofs.Loads.{gains_answer, core_answered}
use Rattle.nb_core.proofs.calls.Core.loaded.Goals as goal
use Rattle.nb_core.proofs.calls.Core.loaded.Goals.{in-Ok, in-Err}

pub invariant_of-self : goal.invariant_of-self
invariant_of-self c = elim c.match-loaded.branch [
  | in-Ok w ↦
      core_answered c.self.inside.machine.history c.args.self.now c.loaded.new.self.history c.args.ticket c.args.answer c.self.invariant.0 c.self.view_is c.requires.may c.requires.live w.in-Ok.ensures.ok
      c.self.inside.closer c.self.inside.closer c.self.invariant.1 refl
  | in-Err w ↦
      core_same c.self.inside.machine.history c.loaded.new.self.history c.self.inside.closer c.self.inside.closer w.in-Err.ensures.err.1 refl c.self.invariant.0 c.self.invariant.1
]

pub returns-clause-ok : goal.returns-clause-ok
returns-clause-ok c = elim c.match-loaded.branch [
  | in-Ok w ↦
      rw w.result-is (
        ap (λ (n : ℕ). n + 1) (c.len-place.ensures.value ∙ ap (λ (h : History). length h.log) c.self.view_is),
        gains_answer c.self.inside.machine.history c.args.self.now c.loaded.new.self.history c.args.ticket c.args.answer c.self.invariant.0 c.self.view_is c.requires.may c.requires.live w.in-Ok.ensures.ok,
      )
  | in-Err w ↦ rw w.result-is tt
]
