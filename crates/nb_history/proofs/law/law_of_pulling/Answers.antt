use Rattle.nb_history.proofs.Batches.{pulling_is_ready, rest_holds_nothing, due_needs_nothing_held, due_is_behind}
use Rattle.nb_history.proofs.law.law_of_pulling.Goals as goal

pub returns : goal.returns
returns c = record { ready = pulling_is_ready; rest = rest_holds_nothing; free = due_needs_nothing_held; behind = due_is_behind }
