use Rattle.nb_history.proofs.Reached.{pieces_are_printing, front_is_written_first}
use Rattle.nb_history.proofs.law.law_of_pieces.Goals as goal

pub returns : goal.returns
returns c = record { whole = pieces_are_printing; first = front_is_written_first }
