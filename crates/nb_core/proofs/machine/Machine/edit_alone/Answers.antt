use Rattle.std.proofs.Common.{◌∙◌, ap, refl, ◌+◌, length, List, [], ◌∷◌, ◌++◌}
use Rattle.nb_log.specs.declared.entry.Entry.{Entry}
use Rattle.nb_log.specs.declared.entry.Entry.TheVariants.{Edit}
use Rattle.nb_core.specs.Stands.{Kept}
use Rattle.nb_core.proofs.Edits.{stands_edited}
use Rattle.nb_core.proofs.machine.Machine.edit_alone.Goals as goal

pub invariant_of-self : goal.invariant_of-self
invariant_of-self c =
    let m = c.self.inside in
    stands_edited c.args.self.now.history m.sheet.sheet c.change_alone.new.sheet.sheet m.starts.items m.disposed m.tickets.items m.log.entries c.push.new.self.entries c.args.editor c.args.edit (length m.log.entries + 1)
    (ap (λ (k : Kept). k.history) c.self.view_is) c.self.invariant refl c.in-Ok.ensures.sheet
    (c.push.ensures.entries ∙ ap (λ (l : List Entry). l ++ Edit c.args.editor c.args.edit ∷ []) c.change_alone.ensures.entries)
    c.change_alone.new.starts.items m.tickets.items c.in-Ok.ensures.starts refl
