use Rattle.nb_history.specs.History.{standing}
use Rattle.nb_core.proofs.Looks.{same_starts}
use Rattle.nb_core.proofs.calls.Core.start.Goals as goal

pub returns : goal.returns
returns c = c.number.ensures (standing c.args.self.now) (same_starts c.self.inside.machine.history c.args.self.now c.self.view_is c.starts.result.now.items c.starts.ensures)
