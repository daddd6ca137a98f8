use Rattle.nb_eval.proofs.Laws.{loops_turn}
use Rattle.nb_eval.proofs.law.law_of_loops.Goals as goal

pub returns : goal.returns
returns c = loops_turn
