use Rattle.std.proofs.Common.{◌≡◌, arith}
use Rattle.std.proofs.lemmas.Grind.{common_steps}
use Rattle.std.specs.List.{best_of}
use Rattle.nb_builtins.specs.Extremes.{is_above}
use Rattle.nb_builtins.proofs.ExtremeLemmas.{greatest_is}
use Rattle.nb_builtins.proofs.extremes.greatest.Goals as goal

pub returns-clause-greatest : goal.returns-clause-greatest
returns-clause-greatest c =
    let value : c.loop-item.best.now ≡ best_of is_above c.args.first.now c.args.others.now = grind (arith, common_steps) in
    greatest_is _ _ _ value
