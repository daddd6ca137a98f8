use Rattle.std.proofs.Common.{rules, refl}
use Rattle.nb_log.specs.declared.entry.Entry.TheVariants.{Refused}
use Rattle.nb_core.proofs.Plus.{stands_plus}
use Rattle.nb_core.proofs.machine.Machine.refuse.Goals as goal

pub invariant_of-self : goal.invariant_of-self
invariant_of-self c =
    let m = c.self.inside in
    stands_plus m.sheet.sheet m.sheet.sheet m.starts.items m.starts.items m.disposed m.disposed m.tickets.items m.tickets.items m.log.entries c.push.new.self.entries (Refused c.args.editor c.args.reason c.args.event)
    c.self.invariant c.push.ensures.entries refl refl
