-- An action, the two numbers, and the specifiers.
use Rattle.std.proofs.Common.{codes, map}
use Rattle.nb_value.specs.declared.value.Value.TheVariants as V
use Rattle.nb_log.specs.Printing.{field, number, specifier_object}
use Rattle.nb_log.proofs.PieceLemmas.{record_of_four}
use Rattle.nb_log.proofs.object.push_derive.Goals as goal

pub returns : goal.returns
returns c =
    record_of_four c.append.result c.args.out.now (field (codes "do") (V.Text (codes "derive"))) (field (codes "module") (number c.args.within)) (field (codes "source") (number c.args.source)) (field (codes "with") (V.List (map specifier_object c.args.specifiers.now))) _ _ _ _ _
    c.in_ok-open.ensures c.in_ok-push_number_at.ensures c.in_ok-push_number_at-2.ensures c.in_ok-push_with.ensures c.append.ensures.ok
