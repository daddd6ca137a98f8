use Rattle.std.proofs.Common.{◌≡◌, ◌∙◌, ap, ℕ, ◌+◌, List, [], ◌∷◌, ◌++◌}
use Rattle.nb_log.specs.declared.entry.Entry.{Entry}
use Rattle.nb_log.specs.declared.entry.Entry.TheVariants.{Edit}
use Rattle.nb_core.specs.Stands.{Kept}
use Rattle.nb_core.proofs.Edits.{stands_edited, plans_edited, gains_edited, ties_edited}
use Rattle.nb_core.proofs.machine.Machine.edit.Goals as goal

pub invariant_of-self-in-Ok-prepare : goal.invariant_of-self-in-Ok-prepare
invariant_of-self-in-Ok-prepare c =
    let m = c.self.inside in
    stands_edited c.args.self.now.history m.sheet.sheet c.change.new.sheet.sheet m.starts.items m.disposed m.tickets.items m.log.entries c.push.new.self.entries c.args.editor c.args.edit (c.len-place.result + 1)
    (ap (λ (k : Kept). k.history) c.self.view_is) c.self.invariant (ap (λ (n : ℕ). n + 1) c.len-place.ensures.value) c.in-Ok.ensures.sheet
    (c.push.ensures.entries ∙ ap (λ (l : List Entry). l ++ Edit c.args.editor c.args.edit ∷ []) c.prepare.ensures.entries)
    c.prepare.new.starts.items c.prepare.new.tickets.items c.in-Ok-prepare.ensures.starts c.prepare.ensures.tickets

pub commit-requires-clause-plans : goal.commit-requires-clause-plans
commit-requires-clause-plans c =
    let m = c.self.inside in
    plans_edited c.args.self.now.history m.sheet.sheet c.change.new.sheet.sheet m.starts.items m.disposed m.tickets.items m.log.entries c.push.new.self.entries c.args.editor c.args.edit (c.len-place.result + 1)
    (ap (λ (k : Kept). k.history) c.self.view_is) c.self.invariant (ap (λ (n : ℕ). n + 1) c.len-place.ensures.value) c.in-Ok.ensures.sheet
    (c.push.ensures.entries ∙ ap (λ (l : List Entry). l ++ Edit c.args.editor c.args.edit ∷ []) c.prepare.ensures.entries)
    c.in-Ok-prepare.steps.items c.in-Ok-prepare.ensures.plans

pub returns-in-Ok-prepare-clause-ok : goal.returns-in-Ok-prepare-clause-ok
returns-in-Ok-prepare-clause-ok c =
    let m = c.self.inside in
    gains_edited c.args.self.now.history m.sheet.sheet c.change.new.sheet.sheet m.starts.items m.disposed m.tickets.items m.log.entries c.push.new.self.entries c.args.editor c.args.edit (c.len-place.result + 1)
    (ap (λ (k : Kept). k.history) c.self.view_is) c.self.invariant (ap (λ (n : ℕ). n + 1) c.len-place.ensures.value) c.in-Ok.ensures.sheet
    (c.push.ensures.entries ∙ ap (λ (l : List Entry). l ++ Edit c.args.editor c.args.edit ∷ []) c.prepare.ensures.entries)
    c.in-Ok-prepare.steps.items c.in-Ok-prepare.ensures.plans c.commit.new.self.history c.commit.ensures

pub returns-in-Ok-prepare-clause-ties : goal.returns-in-Ok-prepare-clause-ties
returns-in-Ok-prepare-clause-ties c =
    let m = c.self.inside in
    c.prepare.ensures.ties ∙ c.in-Ok.ensures.ties
    ∙ ties_edited c.args.self.now.history m.sheet.sheet c.change.new.sheet.sheet m.starts.items m.disposed m.tickets.items m.log.entries c.push.new.self.entries c.args.editor c.args.edit (c.len-place.result + 1)
    (ap (λ (k : Kept). k.history) c.self.view_is) c.self.invariant (ap (λ (n : ℕ). n + 1) c.len-place.ensures.value) c.in-Ok.ensures.sheet
    (c.push.ensures.entries ∙ ap (λ (l : List Entry). l ++ Edit c.args.editor c.args.edit ∷ []) c.prepare.ensures.entries)
    c.in-Ok-prepare.steps.items c.in-Ok-prepare.ensures.plans c.commit.new.self.history c.commit.ensures
