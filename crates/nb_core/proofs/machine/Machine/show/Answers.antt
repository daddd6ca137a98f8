use Rattle.std.proofs.Common.{◌≡◌, ◌∙◌, ap, refl, sym, ℕ, ◌+◌}
use Rattle.nb_history.specs.History.{standing}
use Rattle.nb_runs.specs.Starts.{shown_by}
use Rattle.nb_core.specs.Stands.{Kept, leaves}
use Rattle.nb_core.proofs.Plus.{stands_plus}
use Rattle.nb_core.proofs.Steps.{changed_back, step_shown}
use Rattle.nb_core.proofs.machine.Machine.show.Goals as goal

pub invariant_of-self : goal.invariant_of-self
invariant_of-self c =
    let m = c.self.inside in
    let now : standing c.args.self.now.history ≡ leaves m.sheet.sheet m.starts.items m.disposed m.tickets.items m.log.entries = ap (λ (k : Kept). standing k.history) (sym c.self.view_is) ∙ c.self.invariant in
    stands_plus m.sheet.sheet m.sheet.sheet m.starts.items c.put_start.new.starts.items m.disposed m.disposed m.tickets.items m.tickets.items m.log.entries c.push.new.self.entries c.args.entry
    c.self.invariant c.push.ensures.entries refl
    (step_shown m.sheet.sheet m.starts.items m.disposed m.tickets.items m.log.entries (standing c.args.self.now.history) now c.args.var c.put_start.new.starts.items c.args.entry c.args.outcome c.args.cleanups c.args.ends (c.len-place.result + 1)
    c.requires.same c.requires.cleanups c.requires.ends (ap (λ (n : ℕ). n + 1) c.len-place.ensures.value)
    (changed_back m.starts.items c.take-start.new.starts.items c.put_start.new.starts.items c.args.var c.take-start.result c.show_in.new.start (shown_by c.args.outcome c.args.cleanups c.args.ends (c.len-place.result + 1)) c.take-start.ensures.starts c.take-start.ensures.start c.show_in.ensures c.put_start.ensures))
