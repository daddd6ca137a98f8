-- An action, a module and a truth.
use Rattle.std.proofs.Common.{codes}
use Rattle.nb_value.specs.declared.value.Value.TheVariants as V
use Rattle.nb_log.specs.Printing.{field, number}
use Rattle.nb_log.proofs.PieceLemmas.{record_of_three}
use Rattle.nb_log.proofs.object.push_added.Goals as goal

pub returns : goal.returns
returns c =
    record_of_three c.append.result c.args.out.now (field (codes "do") (V.Text (codes "variable"))) (field (codes "module") (number c.args.within)) (field (codes "observed") (V.Bool c.args.observed)) _ _ _ _
    c.in_ok-open.ensures c.in_ok-push_number_at.ensures c.in_ok-push_truth_at.ensures c.append.ensures.ok
