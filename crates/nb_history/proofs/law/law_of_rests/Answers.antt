use Rattle.nb_history.proofs.RestHolds.{rest_holds}
use Rattle.nb_history.proofs.law.law_of_rests.Goals as goal

pub returns : goal.returns
returns c = rest_holds
