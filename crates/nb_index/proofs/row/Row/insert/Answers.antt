use Rattle.std.proofs.Common.{◌∙◌, ap, List, ℕ, subst, sym}
use Rattle.nb_index.specs.Numbers.{has, Ascends}
use Rattle.nb_index.proofs.Ascending.{has-insert, has_again, inserted_if, place_for, found_at}
use Rattle.nb_index.proofs.row.Row.insert.Goals as goal

pub returns-in_ok-insert-clause-ok : goal.returns-in_ok-insert-clause-ok
returns-in_ok-insert-clause-ok c x =
    let xs = c.args.self.now.present.items in
    ap (λ (l : List ℕ). has l x) c.in_ok-insert.ensures.items ∙ has-insert xs c.in-Err.place c.args.number x

pub invariant_of-self-in-Err-clause-ascends : goal.invariant_of-self-in-Err-clause-ascends
invariant_of-self-in-Err-clause-ascends c =
    let xs = c.args.self.now.present.items in
    inserted_if xs c.insert.new.self.items c.in-Err.place c.args.number _ c.insert.ensures.items c.args.self.now.ascends
    (place_for xs c.deref.result.now c.args.number c.in-Err.place c.deref.ensures.value c.args.self.now.ascends c.in-Err.ensures.position)

pub invariant_of-self-in-Err-clause-kept_ascends : goal.invariant_of-self-in-Err-clause-kept_ascends
invariant_of-self-in-Err-clause-kept_ascends c = subst Ascends (sym c.in_ok-reserve.ensures.items) c.args.self.now.kept_ascends

pub returns-in_default-clause-ok : goal.returns-in_default-clause-ok
returns-in_default-clause-ok c x =
    let xs = c.args.self.now.present.items in
    let p = found_at xs c.deref.result.now c.args.number c.in_default.field-0 c.deref.ensures.value c.args.self.now.ascends c.in_default.ensures.position in
    has_again xs c.in_default.field-0 c.args.number x p.0 p.1
