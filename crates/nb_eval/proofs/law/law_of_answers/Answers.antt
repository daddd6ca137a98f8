use Rattle.nb_eval.proofs.Laws.{answers_extend}
use Rattle.nb_eval.proofs.law.law_of_answers.Goals as goal

pub returns : goal.returns
returns c = answers_extend
