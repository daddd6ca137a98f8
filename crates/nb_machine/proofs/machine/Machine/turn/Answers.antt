use Rattle.nb_machine.proofs.Steppings.{some_to_go}
use Rattle.nb_machine.proofs.machine.Machine.turn.Goals as goal

pub returns-in_ok-with_copy-clause-falls : goal.returns-in_ok-with_copy-clause-falls
returns-in_ok-with_copy-clause-falls c = some_to_go c.args.self.now c.requires
