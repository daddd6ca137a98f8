use Rattle.std.proofs.Common.{subst}
use Rattle.nb_eval.specs.Work.{IsOf}
use Rattle.nb_eval.specs.declared.work.Work.{Work}
use Rattle.nb_core.proofs.Completes.{places_gains, less_to_do}
use Rattle.nb_settle.proofs.settler.Settler.step.Goals as goal

pub returns-in-Ok-clause-gains : goal.returns-in-Ok-clause-gains
returns-in-Ok-clause-gains c =
    places_gains c.args.core.now c.complete.new.self c.args.var c.start-start.result c.in_ok-done.done c.in-Ok.field-0
    (c.start-start.ensures, c.requires.ready, subst (λ (w : Work). IsOf w c.in_ok-done.done) c.in_ok-work.ensures c.in_ok-done.ensures) c.in-Ok.ensures.ok

pub returns-in-Ok-clause-fewer : goal.returns-in-Ok-clause-fewer
returns-in-Ok-clause-fewer c =
    less_to_do c.args.core.now c.complete.new.self c.args.var c.requires.closed c.requires.ready
    (places_gains c.args.core.now c.complete.new.self c.args.var c.start-start.result c.in_ok-done.done c.in-Ok.field-0
    (c.start-start.ensures, c.requires.ready, subst (λ (w : Work). IsOf w c.in_ok-done.done) c.in_ok-work.ensures c.in_ok-done.ensures) c.in-Ok.ensures.ok)
