use Rattle.nb_history.proofs.InputsKept.{ready_keeps_inputs}
use Rattle.nb_history.proofs.GoingOn.{ask_goes_on, value_goes_on}
use Rattle.nb_history.proofs.law.law_of_parked.Goals as goal

pub returns : goal.returns
returns c = record { inputs = ready_keeps_inputs; asked = ask_goes_on; shown = value_goes_on }
