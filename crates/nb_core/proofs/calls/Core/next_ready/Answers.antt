use Rattle.nb_history.specs.History.{standing}
use Rattle.nb_core.proofs.Looks.{over, tied, closed_now, rests_now}
use Rattle.nb_core.proofs.calls.Core.next_ready.Goals as goal

pub next_ready-requires : goal.next_ready-requires
next_ready-requires c = record { ties = tied c.self.inside.machine.history c.sheet.result.now.sheet c.ties.result.now.items c.self.inside.closer c.sheet.ensures.value c.ties.ensures c.self.invariant.1 }

pub returns-clause-found : goal.returns-clause-found
returns-clause-found c =
    c.next_ready.ensures (standing c.args.self.now)
    (over c.self.inside.machine.history c.args.self.now c.self.view_is c.sheet.result.now.sheet c.starts.result.now.items c.sheet.ensures.value c.starts.ensures)

pub returns-clause-closed : goal.returns-clause-closed
returns-clause-closed c = closed_now c.self.inside.machine.history c.args.self.now c.self.view_is c.self.invariant.0

pub returns-clause-rest : goal.returns-clause-rest
returns-clause-rest c = rests_now c.self.inside.machine.history c.args.self.now c.self.view_is c.self.invariant.0
