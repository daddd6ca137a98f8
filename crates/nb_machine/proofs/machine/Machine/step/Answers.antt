use Rattle.std.proofs.Common.{◌≡◌, ◌∙◌, sym, refl, arith, rules, None}
use Rattle.nb_machine.proofs.Steppings.{due_at}
use Rattle.nb_machine.proofs.machine.Machine.step.Goals as goal

pub returns-then-is_due-clause-more : goal.returns-then-is_due-clause-more
returns-then-is_due-clause-more c = λ e.
    let m = c.run.self in
    let due = due_at m.standing _ (sym c.is_due.ensures ∙ c.if-is_due.true) c.run.invariant.most in
    let going : m.ended ≡ None = search rules in
    (omega (arith, due.0), due.1, going)
