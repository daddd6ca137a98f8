use Rattle.nb_core.proofs.Completes.{first_pull_plans}
use Rattle.nb_core.proofs.calls.completing.steps_after.Goals as goal

pub returns-then-is_first_pull-clause-plans : goal.returns-then-is_first_pull-clause-plans
returns-then-is_first_pull-clause-plans c =
    first_pull_plans c.args.machine.now.history c.args.var c.args.entry.now c.starts.result.now.items c.new.result.items c.requires.closed c.requires.next c.starts.ensures
    (c.is_first_pull.ensures.0 c.if-is_first_pull.true) c.new.ensures.items
