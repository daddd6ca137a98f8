use Rattle.std.proofs.Common.{◌≡◌, ◌∙◌, sym, ap, refl, List, Option, length, ◌<◌, ◌+◌, ◌-◌, ◌^◌, arith}
use Rattle.nb_log.specs.declared.entry.Entry.{Entry}
use Rattle.nb_log.specs.declared.entry.Entry.TheVariants.{Frame}
use Rattle.nb_history.specs.Reading.{Reading, Start}
use Rattle.nb_history.specs.Log.{reading}
use Rattle.nb_history.proofs.Shapes.{Sound, sound_reading}
use Rattle.nb_core.specs.Stands.{Kept, leaves}
use Rattle.nb_core.proofs.Few.{pulls_below}
use Rattle.nb_core.proofs.Plus.{stands_plus, all_pulled_is}
use Rattle.nb_core.proofs.machine.Machine.frame.Goals as goal

pub invariant_of-self : goal.invariant_of-self
invariant_of-self c =
    let m = c.self.inside in
    stands_plus m.sheet.sheet m.sheet.sheet m.starts.items c.pull_all.new.starts.items m.disposed m.disposed m.tickets.items m.tickets.items m.log.entries c.push.new.self.entries (Frame c.args.editor)
    c.self.invariant c.push.ensures.entries refl
    (ap (λ (ss : List (Option Start)). leaves m.sheet.sheet ss m.disposed m.tickets.items m.log.entries) (all_pulled_is (leaves m.sheet.sheet m.starts.items m.disposed m.tickets.items m.log.entries) 1 m.starts.items ∙ sym c.pull_all.ensures))

pub pull_all-requires-clause-same_len : goal.pull_all-requires-clause-same_len
pull_all-requires-clause-same_len c =
    let m = c.self.inside in
    let a : length m.starts.items ≡ length (reading m.sheet.sheet.builtins m.log.entries).starts = ap (λ (r : Reading). length r.starts) (sym c.self.invariant) in
    let b : length (reading m.sheet.sheet.builtins m.log.entries).sheet.rows ≡ length m.sheet.sheet.rows = ap (λ (r : Reading). length r.sheet.rows) c.self.invariant in
    omega (arith, a, b, Sound.shaped (sound_reading m.sheet.sheet.builtins m.log.entries))

pub pull_all-requires-clause-low : goal.pull_all-requires-clause-low
pull_all-requires-clause-low c =
    let m = c.self.inside in
    let same : length m.log.entries ≡ length c.args.self.now.history.log = ap (λ (k : Kept). length k.history.log) c.self.view_is in
    let room : length m.log.entries < 2 ^ 32 - 1 = omega (arith, same, c.requires.few) in
    pulls_below m.sheet.sheet m.starts.items m.disposed m.tickets.items m.log.entries (2 ^ 32 - 1) c.self.invariant room
