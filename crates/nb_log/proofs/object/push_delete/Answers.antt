-- An action and a number.
use Rattle.std.proofs.Common.{codes}
use Rattle.nb_value.specs.declared.value.Value.TheVariants as V
use Rattle.nb_log.specs.Printing.{field, number}
use Rattle.nb_log.proofs.PieceLemmas.{record_of_two}
use Rattle.nb_log.proofs.object.push_delete.Goals as goal

pub returns : goal.returns
returns c =
    record_of_two c.append.result c.args.out.now (field (codes "do") (V.Text (codes "delete"))) (field (codes "variable") (number c.args.variable)) _ _ _
    c.in_ok-open.ensures c.in_ok-push_number_at.ensures c.append.ensures.ok
