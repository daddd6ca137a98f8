use Rattle.std.proofs.Common.{◌≡◌, ◌∙◌, ap, refl, sym, ℕ, ◌+◌, Option, Some}
use Rattle.nb_log.specs.declared.entry.Entry.TheVariants.{Pending}
use Rattle.nb_sheet.specs.Lists.{put}
use Rattle.nb_history.specs.Reading.{Start}
use Rattle.nb_history.specs.History.{standing}
use Rattle.nb_history.specs.Log.{new_start}
use Rattle.nb_runs.specs.Footings.{footing_of}
use Rattle.nb_core.specs.Stands.{Kept, leaves}
use Rattle.nb_core.proofs.Plus.{stands_plus}
use Rattle.nb_core.proofs.Steps.{exchanged, step_pending}
use Rattle.nb_core.proofs.machine.Machine.pend.Goals as goal

pub invariant_of-self : goal.invariant_of-self
invariant_of-self c =
    let m = c.self.inside in
    let now : standing c.args.self.now.history ≡ leaves m.sheet.sheet m.starts.items m.disposed m.tickets.items m.log.entries = ap (λ (k : Kept). standing k.history) (sym c.self.view_is) ∙ c.self.invariant in
    let place : ℕ = c.len-place.result + 1 in
    stands_plus m.sheet.sheet m.sheet.sheet m.starts.items c.put_start.new.starts.items m.disposed m.disposed m.tickets.items m.tickets.items m.log.entries c.push.new.self.entries (Pending c.args.var c.owed_of-disposed.result)
    c.self.invariant c.push.ensures.entries refl
    (step_pending m.sheet.sheet m.starts.items m.disposed m.tickets.items m.log.entries (standing c.args.self.now.history) now c.args.var c.put_start.new.starts.items c.owed_of-disposed.result (footing_of c.args.kept) place
    c.requires.kept (ap (λ (n : ℕ). n + 1) c.len-place.ensures.value)
    (exchanged m.starts.items c.take-last.new.starts.items c.put_start.new.starts.items c.args.var (Some (new_start place (footing_of c.args.kept))) c.take-last.ensures.starts
    (c.put_start.ensures ∙ ap (λ (s : Start). put c.take-last.new.starts.items c.args.var (Some s)) c.new-new.ensures)))
