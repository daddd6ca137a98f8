use Rattle.std.proofs.Common.{◌≡◌, ◌++◌, List, ℕ, length, subst, arith}
use Rattle.std.proofs.lemmas.Grind.{common_steps}
use Rattle.nb_log.specs.Printing.{line_text, done_value}
use Rattle.nb_print.proofs.ScratchLemmas.{rest_table}
use Rattle.nb_print.proofs.table.print_table.Goals as goal

pub returns-clause-rest : goal.returns-clause-rest
returns-clause-rest c = λ none.
    subst (λ (table : List ℕ). c.push_done_line.new.out ≡ table ++ line_text (done_value (length c.args.core.now.log)))
    (rest_table c.args.core.now c.log.ensures.closed c.log.ensures.rest none) (grind (arith, common_steps))
