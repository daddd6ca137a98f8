use Rattle.std.proofs.Common.{rules}
use Rattle.nb_eval.specs.Evaluation.{charges}
use Rattle.nb_eval.proofs.replay.charges.Goals as goal

pub returns : goal.returns
unfolding charges
returns c = search rules
