-- A cell, an action, a module and a truth.
use Rattle.std.proofs.Common.{codes}
use Rattle.nb_value.specs.declared.value.Value.TheVariants as V
use Rattle.nb_syntax.specs.Print.{cell_text}
use Rattle.nb_log.specs.Printing.{field, number}
use Rattle.nb_log.proofs.PieceLemmas.{record_of_four}
use Rattle.nb_log.proofs.object.push_added_cell.Goals as goal

pub returns : goal.returns
returns c =
    record_of_four c.append.result c.args.out.now (field (codes "cell") (V.Text (cell_text c.args.cell.now))) (field (codes "do") (V.Text (codes "cell"))) (field (codes "module") (number c.args.within)) (field (codes "observed") (V.Bool c.args.observed)) _ _ _ _ _
    c.in_ok-open_cell.ensures c.in_ok-push_text_at.ensures c.in_ok-push_number_at.ensures c.in_ok-push_truth_at.ensures c.append.ensures.ok
