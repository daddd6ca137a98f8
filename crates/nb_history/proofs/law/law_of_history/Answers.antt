use Rattle.nb_history.proofs.HistoryThere.{serial_is_history, history_is_there, history_is_there_alone}
use Rattle.nb_history.proofs.Reached.{history_is_one}
use Rattle.nb_history.proofs.law.law_of_history.Goals as goal

pub returns : goal.returns
returns c = record { serial = serial_is_history; there = history_is_there; alone = history_is_there_alone; one = history_is_one }
