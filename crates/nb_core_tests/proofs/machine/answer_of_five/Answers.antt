use Rattle.std.proofs.Common.{sym, ◌&&◌, nat_le}
use Rattle.std.proofs.lemmas.Bool.{and_parts}
use Rattle.nb_sheet.specs.Lists.{numbers}
use Rattle.nb_history.specs.History.{standing}
use Rattle.nb_history.specs.Log.{is_live}
use Rattle.nb_history.proofs.Closing.{first_some}
use Rattle.nb_core_tests.proofs.machine.answer_of_five.Goals as goal

-- the ticket was found among the live ones
pub loaded-requires-clause-live : goal.loaded-requires-clause-live
loaded-requires-clause-live c =
    let now = standing c.args.core.now in
    (and_parts (nat_le 0 c.in-Some.ticket) (is_live now c.in-Some.ticket)
    (first_some (λ t. nat_le 0 t && is_live now t) (numbers now.tickets) c.in-Some.ticket (sym c.in-Some.ensures.number)).0).1
