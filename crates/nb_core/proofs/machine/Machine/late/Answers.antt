use Rattle.std.proofs.Common.{refl, sym, ap, List}
use Rattle.nb_log.specs.declared.entry.Entry.TheVariants.{Late}
use Rattle.nb_history.specs.Reading.{Ticket}
use Rattle.nb_core.specs.Stands.{leaves}
use Rattle.nb_core.proofs.Plus.{stands_plus}
use Rattle.nb_core.proofs.machine.Machine.late.Goals as goal

pub invariant_of-self : goal.invariant_of-self
invariant_of-self c =
    let m = c.self.inside in
    stands_plus m.sheet.sheet m.sheet.sheet m.starts.items m.starts.items m.disposed m.disposed m.tickets.items c.settle.new.tickets.items m.log.entries c.push.new.self.entries (Late c.args.editor c.args.ticket)
    c.self.invariant c.push.ensures.entries refl (ap (λ (ts : List Ticket). leaves m.sheet.sheet m.starts.items m.disposed ts m.log.entries) (sym c.settle.ensures.items))
