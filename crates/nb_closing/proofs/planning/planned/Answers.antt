use Rattle.std.proofs.Common.{◌≡◌, [], sym, subst}
use Rattle.nb_closing.specs.Plan.{Plans}
use Rattle.nb_closing.specs.Quiet.{loud_vars}
use Rattle.nb_closing.proofs.Planned.{plans_none}
use Rattle.nb_closing.proofs.planning.planned.Goals as goal

pub returns-in-None-clause-plans : goal.returns-in-None-clause-plans
returns-in-None-clause-plans c =
    λ r scene.
    let s = c.args.sheet.now.sheet in
    let xs = c.args.starts.now.items in
    let m = c.args.moment.now in
    let none : loud_vars s xs m ≡ [] = rw c.in-None.is at c.in_ok-touched.ensures in
    subst (Plans r) (sym c.new.ensures.items) (plans_none r s xs m scene none)
