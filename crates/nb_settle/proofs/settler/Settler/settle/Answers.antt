use Rattle.std.proofs.Common.{◌∙◌, sym}
use Rattle.nb_history.specs.History.{standing}
use Rattle.nb_core.proofs.Runs.{first_ready, settling_goes_on}
use Rattle.nb_settle.proofs.settler.Settler.settle.Goals as goal

pub step-requires-clause-ready : goal.step-requires-clause-ready
step-requires-clause-ready c = first_ready (standing c.loop-var.core) c.in-Some.var (sym c.next_ready.ensures.found ∙ c.in-Some.is)

pub loop-var-preserved : goal.loop-var-preserved
loop-var-preserved c =
    settling_goes_on c.args.core.now c.loop-var.core c.step.new.core c.in-Some.var c.loop-var.invariant c.next_ready.ensures.closed.closed
    (sym c.next_ready.ensures.found ∙ c.in-Some.is) c.in_ok-step-in-Some.ensures.gains
