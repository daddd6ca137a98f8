use Rattle.std.proofs.Common.{◌≡◌, ◌∙◌, ap, refl, sym, ℕ, ◌+◌, length, arith}
use Rattle.nb_history.specs.History.{standing}
use Rattle.nb_runs.specs.Starts.{asked_by}
use Rattle.nb_core.specs.Stands.{Kept, leaves}
use Rattle.nb_core.proofs.Plus.{stands_plus}
use Rattle.nb_core.proofs.Steps.{changed_back, step_asked}
use Rattle.nb_core.proofs.machine.Machine.ask.Goals as goal

pub invariant_of-self : goal.invariant_of-self
invariant_of-self c =
    let m = c.self.inside in
    let now : standing c.args.self.now.history ≡ leaves m.sheet.sheet m.starts.items m.disposed m.tickets.items m.log.entries = ap (λ (k : Kept). standing k.history) (sym c.self.view_is) ∙ c.self.invariant in
    let ticket : ℕ = c.len.result + 1 in
    let count : ticket ≡ length m.tickets.items + 1 = omega (arith, c.len.ensures, m.tickets.ok) in
    stands_plus m.sheet.sheet m.sheet.sheet m.starts.items c.put_start.new.starts.items m.disposed m.disposed m.tickets.items c.push_reserved.new.self.items m.log.entries c.push.new.self.entries c.args.entry
    c.self.invariant c.push.ensures.entries refl
    (step_asked m.sheet.sheet m.starts.items m.disposed m.tickets.items m.log.entries (standing c.args.self.now.history) now c.args.var c.put_start.new.starts.items c.push_reserved.new.self.items c.args.entry c.args.key c.args.cleanups ticket c.number_of-number.result c.take-start.result
    c.requires.same c.requires.cleanups count c.take-start.ensures.start c.number_of-number.ensures
    (changed_back m.starts.items c.take-start.new.starts.items c.put_start.new.starts.items c.args.var c.take-start.result c.ask_in.new.start (asked_by ticket c.args.cleanups) c.take-start.ensures.starts c.take-start.ensures.start c.ask_in.ensures c.put_start.ensures)
    c.push_reserved.ensures.items)
