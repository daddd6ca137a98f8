use Rattle.std.proofs.Common.{◌≡◌, ◌∙◌, ap, refl, sym}
use Rattle.nb_log.specs.declared.entry.Entry.TheVariants.{Left}
use Rattle.nb_history.specs.History.{standing}
use Rattle.nb_core.specs.Stands.{Kept, leaves}
use Rattle.nb_core.proofs.Plus.{stands_plus}
use Rattle.nb_core.proofs.Steps.{step_left}
use Rattle.nb_core.proofs.machine.Machine.leave.Goals as goal

pub invariant_of-self : goal.invariant_of-self
invariant_of-self c =
    let m = c.self.inside in
    let now : standing c.args.self.now.history ≡ leaves m.sheet.sheet m.starts.items m.disposed m.tickets.items m.log.entries = ap (λ (k : Kept). standing k.history) (sym c.self.view_is) ∙ c.self.invariant in
    stands_plus m.sheet.sheet m.sheet.sheet m.starts.items c.take-left.new.starts.items m.disposed m.disposed m.tickets.items m.tickets.items m.log.entries c.push.new.self.entries (Left c.args.var c.owed_of-disposed.result)
    c.self.invariant c.push.ensures.entries refl
    (step_left m.sheet.sheet m.starts.items m.disposed m.tickets.items m.log.entries (standing c.args.self.now.history) now c.args.var c.take-left.new.starts.items c.owed_of-disposed.result c.take-left.ensures.starts)
