use Rattle.std.proofs.Common.{◌∙◌, ap, List, ℕ, subst, sym}
use Rattle.nb_index.specs.Numbers.{has, Ascends}
use Rattle.nb_index.proofs.Ascending.{has-remove, has_without, Ascends-remove, place_for, found_at}
use Rattle.nb_index.proofs.row.Row.remove.Goals as goal

pub invariant_of-self-clause-ascends : goal.invariant_of-self-clause-ascends
invariant_of-self-clause-ascends c =
    let xs = c.args.self.now.present.items in
    let p = found_at xs c.deref.result.now c.args.number c.in-Ok.place c.deref.ensures.value c.args.self.now.ascends c.in-Ok.ensures.position in
    subst Ascends (sym c.remove.ensures.items) (Ascends-remove xs c.in-Ok.place p.0 c.args.self.now.ascends)

pub returns-in-Ok-clause-present : goal.returns-in-Ok-clause-present
returns-in-Ok-clause-present c x =
    let xs = c.args.self.now.present.items in
    let p = found_at xs c.deref.result.now c.args.number c.in-Ok.place c.deref.ensures.value c.args.self.now.ascends c.in-Ok.ensures.position in
    ap (λ (l : List ℕ). has l x) c.remove.ensures.items ∙ has-remove xs c.in-Ok.place c.args.number x c.args.self.now.ascends p.0 p.1

pub returns-in_default-clause-present : goal.returns-in_default-clause-present
returns-in_default-clause-present c x =
    let xs = c.args.self.now.present.items in
    has_without xs c.in_default.field-0 c.args.number x
    (place_for xs c.deref.result.now c.args.number c.in_default.field-0 c.deref.ensures.value c.args.self.now.ascends c.in_default.ensures.position)
