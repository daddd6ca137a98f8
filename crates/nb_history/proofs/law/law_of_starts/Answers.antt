use Rattle.nb_history.proofs.Runs.{starts_once, some_may_start}
use Rattle.nb_history.proofs.RunsEnd.{runs_are_short, closes_soon}
use Rattle.nb_history.proofs.Stretches.{starts_once_between}
use Rattle.nb_history.proofs.Outer.{serial_pulls_nothing}
use Rattle.nb_history.proofs.law.law_of_starts.Goals as goal

pub returns : goal.returns
returns c = record { once = starts_once; short = runs_are_short; some_start = some_may_start; closes = closes_soon; between = starts_once_between; serial = serial_pulls_nothing }
