-- A name, a variable and a value.
use Rattle.std.proofs.Common.{codes}
use Rattle.nb_value.specs.declared.value.Value.TheVariants as V
use Rattle.nb_log.specs.Printing.{number}
use Rattle.nb_log.proofs.PieceLemmas.{line_of}
use Rattle.nb_log.proofs.lines.push_fulfilled.Goals as goal

pub returns : goal.returns
returns c =
    line_of c.append.result c.args.out.now (V.Text (codes "fulfilled")) (number c.args.var) c.args.value.now _ _ _
    c.in_ok-open.ensures c.in_ok-push_item.ensures c.append.ensures.ok
