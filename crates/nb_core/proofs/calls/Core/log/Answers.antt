use Rattle.std.proofs.Common.{◌∙◌, ap}
use Rattle.nb_history.specs.History.{History}
use Rattle.nb_core.proofs.Looks.{closed_now, rests_now}
use Rattle.nb_core.proofs.calls.Core.log.Goals as goal

pub returns-clause-value : goal.returns-clause-value
returns-clause-value c = c.log.ensures ∙ ap (λ (h : History). h.log) c.self.view_is

pub returns-clause-closed : goal.returns-clause-closed
returns-clause-closed c = closed_now c.self.inside.machine.history c.args.self.now c.self.view_is c.self.invariant.0

pub returns-clause-rest : goal.returns-clause-rest
returns-clause-rest c = rests_now c.self.inside.machine.history c.args.self.now c.self.view_is c.self.invariant.0
