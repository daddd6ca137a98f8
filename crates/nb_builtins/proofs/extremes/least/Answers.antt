use Rattle.std.proofs.Common.{◌≡◌, arith}
use Rattle.std.proofs.lemmas.Grind.{common_steps}
use Rattle.std.specs.List.{best_of}
use Rattle.nb_builtins.specs.Extremes.{is_below}
use Rattle.nb_builtins.proofs.ExtremeLemmas.{least_is}
use Rattle.nb_builtins.proofs.extremes.least.Goals as goal

pub returns-clause-least : goal.returns-clause-least
returns-clause-least c =
    let value : c.loop-item.best.now ≡ best_of is_below c.args.first.now c.args.others.now = grind (arith, common_steps) in
    least_is _ _ _ value
