use Rattle.nb_history.proofs.Cleaning.{cleans_up_once}
use Rattle.nb_history.proofs.law.law_of_cleanups.Goals as goal

pub returns : goal.returns
returns c = cleans_up_once
