-- The two names, an action, and the two numbers.
use Rattle.std.proofs.Common.{codes}
use Rattle.nb_value.specs.declared.value.Value.TheVariants as V
use Rattle.nb_log.specs.Printing.{field, number}
use Rattle.nb_log.proofs.PieceLemmas.{record_of_five}
use Rattle.nb_log.proofs.object.push_import.Goals as goal

pub returns : goal.returns
returns c =
    record_of_five c.append.result c.args.out.now (field (codes "alias") (V.Text c.args.alias.now)) (field (codes "do") (V.Text (codes "import"))) (field (codes "from") (number c.args.from)) (field (codes "name") (V.Text c.args.name.now)) (field (codes "variable") (number c.args.variable)) _ _ _ _ _ _
    (rw c.as_str.ensures.value at c.in_ok-open.ensures) c.in_ok-push_text_at.ensures c.in_ok-push_number_at.ensures (rw c.as_str-2.ensures.value at c.in_ok-push_text_at-2.ensures) c.in_ok-push_number_at-2.ensures c.append.ensures.ok
