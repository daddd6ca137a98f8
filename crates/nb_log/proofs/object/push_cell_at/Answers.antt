-- A cell, an action and a number.
use Rattle.std.proofs.Common.{codes}
use Rattle.nb_value.specs.declared.value.Value.TheVariants as V
use Rattle.nb_syntax.specs.Print.{cell_text}
use Rattle.nb_log.specs.Printing.{field, number}
use Rattle.nb_log.proofs.PieceLemmas.{record_of_three}
use Rattle.nb_log.proofs.object.push_cell_at.Goals as goal

pub returns : goal.returns
returns c =
    record_of_three c.append.result c.args.out.now (field (codes "cell") (V.Text (cell_text c.args.cell.now))) (field (codes "do") (V.Text c.args.action.now)) (field c.args.name.now (number c.args.n)) _ _ _ _
    c.in_ok-open_cell.ensures c.in_ok-push_text_at.ensures c.in_ok-push_number_at.ensures c.append.ensures.ok
