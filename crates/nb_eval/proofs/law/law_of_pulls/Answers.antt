use Rattle.nb_eval.proofs.Laws.{pulls_extend}
use Rattle.nb_eval.proofs.law.law_of_pulls.Goals as goal

pub returns : goal.returns
returns c = pulls_extend
