use Rattle.nb_history.proofs.LoaderRuns.{answer_is_one, answers_are_in}
use Rattle.nb_history.proofs.Reached.{reached_is_legal, reached_is_front}
use Rattle.nb_history.proofs.law.law_of_loaders.Goals as goal

pub returns : goal.returns
returns c = record { answer = answer_is_one; answers = answers_are_in; legal = reached_is_legal; front = reached_is_front }
