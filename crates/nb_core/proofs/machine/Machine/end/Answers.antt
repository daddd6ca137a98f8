use Rattle.std.proofs.Common.{◌≡◌, ◌∙◌, ap, refl, sym}
use Rattle.nb_log.specs.declared.entry.Entry.TheVariants.{Ended}
use Rattle.nb_history.specs.History.{standing}
use Rattle.nb_runs.specs.Starts.{ended_by}
use Rattle.nb_core.specs.Stands.{Kept, leaves}
use Rattle.nb_core.proofs.Plus.{stands_plus}
use Rattle.nb_core.proofs.Steps.{changed_back, step_ended}
use Rattle.nb_core.proofs.machine.Machine.end.Goals as goal

pub invariant_of-self : goal.invariant_of-self
invariant_of-self c =
    let m = c.self.inside in
    let now : standing c.args.self.now.history ≡ leaves m.sheet.sheet m.starts.items m.disposed m.tickets.items m.log.entries = ap (λ (k : Kept). standing k.history) (sym c.self.view_is) ∙ c.self.invariant in
    stands_plus m.sheet.sheet m.sheet.sheet m.starts.items c.put_start.new.starts.items m.disposed m.disposed m.tickets.items m.tickets.items m.log.entries c.push.new.self.entries (Ended c.args.var)
    c.self.invariant c.push.ensures.entries refl
    (step_ended m.sheet.sheet m.starts.items m.disposed m.tickets.items m.log.entries (standing c.args.self.now.history) now c.args.var c.put_start.new.starts.items c.args.cleanups c.requires.cleanups
    (changed_back m.starts.items c.take-start.new.starts.items c.put_start.new.starts.items c.args.var c.take-start.result c.end_in.new.start (ended_by c.args.cleanups) c.take-start.ensures.starts c.take-start.ensures.start c.end_in.ensures c.put_start.ensures))
