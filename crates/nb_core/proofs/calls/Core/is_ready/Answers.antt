use Rattle.nb_history.specs.History.{standing}
use Rattle.nb_core.proofs.Looks.{over, tied}
use Rattle.nb_core.proofs.calls.Core.is_ready.Goals as goal

pub is_ready-requires : goal.is_ready-requires
is_ready-requires c = record { ties = tied c.self.inside.machine.history c.sheet.result.now.sheet c.ties.result.now.items c.self.inside.closer c.sheet.ensures.value c.ties.ensures c.self.invariant.1 }

pub returns : goal.returns
returns c =
    c.is_ready.ensures (standing c.args.self.now)
    (over c.self.inside.machine.history c.args.self.now c.self.view_is c.sheet.result.now.sheet c.starts.result.now.items c.sheet.ensures.value c.starts.ensures)
