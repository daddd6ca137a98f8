-- An alias and a name.
use Rattle.std.proofs.Common.{codes}
use Rattle.nb_value.specs.declared.value.Value.TheVariants as V
use Rattle.nb_log.specs.Printing.{field}
use Rattle.nb_log.proofs.PieceLemmas.{record_of_two}
use Rattle.nb_log.proofs.object.push_specifier.Goals as goal

pub returns : goal.returns
returns c =
    record_of_two c.append.result c.args.out.now (field (codes "alias") (V.Text c.args.specifier.now.alias)) (field (codes "name") (V.Text c.args.specifier.now.name)) _ _ _
    (rw c.as_str.ensures.value at c.in_ok-open.ensures) (rw c.as_str-2.ensures.value at c.in_ok-push_text_at.ensures) c.append.ensures.ok
