use Rattle.std.proofs.Common.{◌≡◌, ◌∙◌, ap, refl, List, [], ◌∷◌, ◌++◌}
use Rattle.nb_log.specs.declared.entry.Entry.{Entry}
use Rattle.nb_log.specs.declared.entry.Entry.TheVariants.{Settled}
use Rattle.nb_core.proofs.Plus.{stands_plus}
use Rattle.nb_core.proofs.Steps.{step_settled}
use Rattle.nb_core.proofs.machine.Machine.settled.Goals as goal

pub invariant_of-self-2 : goal.invariant_of-self-2
invariant_of-self-2 c =
    let m = c.self.inside in
    let e : Entry = Settled c.args.editor c.args.ticket c.args.answer in
    stands_plus m.sheet.sheet m.sheet.sheet m.starts.items c.answer_copied.new.starts.items m.disposed m.disposed m.tickets.items c.settle.new.tickets.items m.log.entries c.push.new.self.entries e
    c.self.invariant (c.push.ensures.entries ∙ ap (λ (l : List Entry). l ++ e ∷ []) c.answer_copied.ensures.entries) refl
    (step_settled m.sheet.sheet m.starts.items m.disposed m.tickets.items m.log.entries c.answer_copied.new.starts.items c.settle.new.tickets.items c.args.editor c.args.ticket c.ticket_var-var.result c.args.answer c.ticket_var-var.ensures c.settle.ensures.items c.in_default.ensures.ok)
