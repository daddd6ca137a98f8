use Rattle.std.proofs.Common.{◌≡◌, sym, ap, arith, List, length}
use Rattle.nb_history.specs.Reading.{Ticket}
use Rattle.nb_history.specs.History.{standing}
use Rattle.nb_core.proofs.calls.completing.prepare.Goals as goal

pub steps_after-requires-clause-next : goal.steps_after-requires-clause-next
steps_after-requires-clause-next c =
    let count : length c.tickets.result.now.items ≡ length (standing c.args.machine.now.history).tickets = ap (λ (l : List Ticket). length l) c.tickets.ensures in
    c.in_ok-entry.ensures (standing c.args.machine.now.history) (record { sheet = sym c.sheet.ensures.value; starts = sym c.starts.ensures })
    (omega (arith, count, c.tickets.result.now.ok.0, c.len.ensures)) c.requires.work
