use Rattle.std.proofs.Common.{sym}
use Rattle.nb_core.proofs.Loads.{live_there}
use Rattle.nb_core.proofs.calls.Core.live_ticket.Goals as goal

pub returns-in_err-ticket-clause-number : goal.returns-in_err-ticket-clause-number
returns-in_err-ticket-clause-number c =
    absurd (live_there c.starts.result.now.items c.tickets-asked.result.now.items c.args.at_least c.in_ok-live.live (sym c.in_ok-live.ensures) (sym c.in_err-ticket.ensures))
