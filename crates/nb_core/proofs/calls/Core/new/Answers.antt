use Rattle.nb_core.proofs.Looks.{new_core}
use Rattle.nb_core.proofs.calls.Core.new.Goals as goal

pub invariant_of-result : goal.invariant_of-result
invariant_of-result c = new_core c.in_ok-machine.machine.history c.args.builtins c.in_ok-closer.closer c.in_ok-machine.ensures c.in_ok-closer.ensures
