use Rattle.std.proofs.Common.{arith, ap, ◌∙◌}
use Rattle.nb_value.specs.declared.pairs.Field.{Field}
use Rattle.nb_value.specs.Fields.{IsInOrder}
use Rattle.nb_value.proofs.FieldLemmas.{CanFollow-next}
use Rattle.nb_value.proofs.tree.PairsTree.copy.Goals as goal

pub push-requires : goal.push-requires
push-requires g c =
    let fields = c.as_slice-field-items in
    let ordered : IsInOrder fields.result.now = rw fields.ensures.same fields.ensures.ordered in
    let follows = CanFollow-next fields.result.now c.loop-field.field-index c.field-item.result ordered (omega arith) in
    let named = c.in_ok-copy.ensures ∙ ap (λ (f : Field g.row.T.Denot). f.name) c.field-item.is in
    rw (c.loop-field.invariant, named) follows
