use Rattle.std.proofs.Common.{◌≡◌, ◌∙◌, ap, sym, subst, ℕ, ◌+◌, length, None}
use Rattle.nb_sheet.specs.Sheet.{Sheet, refusal}
use Rattle.nb_history.specs.History.{History, standing, IsClosedHistory}
use Rattle.nb_core.proofs.Admitted.{closed_edited, gains_edited}
use Rattle.nb_core.proofs.calls.Core.edit.Goals.{in-Ok, in-Err-edit}
use Rattle.nb_core.proofs.calls.Core.edit.Goals as goal

pub invariant_of-self : goal.invariant_of-self
invariant_of-self c =
    let h : History = c.self.inside.machine.history in
    let admits : refusal (standing h).sheet c.args.edit ≡ None = ap (λ (s : Sheet). refusal s c.args.edit) (sym c.sheet.ensures.value) ∙ sym c.in_default.ensures in
    elim c.match-edit.branch [
      | in-Ok w ↦ (
        closed_edited h c.args.self.now c.edit.new.self.history c.args.editor c.args.edit c.requires.low c.self.view_is c.requires.gate admits w.in-Ok.ensures.ok c.self.invariant.0,
        c.edit.ensures.ties,
      )
      | in-Err-edit w ↦ (subst IsClosedHistory (sym w.in-Err-edit.ensures.err.1) c.self.invariant.0, c.edit.ensures.ties)
    ]

pub returns-clause-ok : goal.returns-clause-ok
returns-clause-ok c =
    let h : History = c.self.inside.machine.history in
    let admits : refusal (standing h).sheet c.args.edit ≡ None = ap (λ (s : Sheet). refusal s c.args.edit) (sym c.sheet.ensures.value) ∙ sym c.in_default.ensures in
    elim c.match-edit.branch [
      | in-Ok w ↦
          rw w.result-is (
            ap (λ (n : ℕ). n + 1) (c.len-place.ensures.value ∙ ap (λ (g : History). length g.log) c.self.view_is),
            gains_edited h c.args.self.now c.edit.new.self.history c.args.editor c.args.edit c.requires.low c.self.view_is c.requires.gate admits w.in-Ok.ensures.ok,
          )
      | in-Err-edit w ↦ rw w.result-is tt
    ]
