use Rattle.nb_eval.proofs.Laws.{plain_cells_end}
use Rattle.nb_eval.proofs.law.law_of_plain_cells.Goals as goal

pub returns : goal.returns
returns c = plain_cells_end
