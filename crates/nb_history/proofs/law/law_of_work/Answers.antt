use Rattle.nb_history.proofs.WorkLaws.{pulls_never_grow, pulls_ask_few, answers_start_nothing}
use Rattle.nb_history.proofs.Alone.{variables_end_soon}
use Rattle.nb_history.proofs.BatchesEnd.{batch_ends_soon}
use Rattle.nb_history.proofs.ToDo.{all_use_up, between_lines_ends}
use Rattle.nb_history.proofs.law.law_of_work.Goals as goal

pub returns : goal.returns
returns c = record { pulls = pulls_never_grow; few_asks = pulls_ask_few; answers = answers_start_nothing; all = all_use_up; between_lines = between_lines_ends; soon = variables_end_soon; batch = batch_ends_soon }
