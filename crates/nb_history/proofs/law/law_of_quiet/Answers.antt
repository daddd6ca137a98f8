use Rattle.nb_history.proofs.QuietEntries.{others_stay_quiet, first_pulls_stay_quiet}
use Rattle.nb_history.proofs.Pulls.{pulls_are_few}
use Rattle.nb_history.proofs.law.law_of_quiet.Goals as goal

pub returns : goal.returns
returns c = record { others = others_stay_quiet; first = first_pulls_stay_quiet; pulls = pulls_are_few }
