use Rattle.std.proofs.Common.{rules}
use Rattle.nb_builtins.specs.Orders.{Sorts}
use Rattle.nb_builtins.proofs.SortLemmas.{sorts_alone}
use Rattle.nb_builtins.proofs.orders.sorted.Goals as goal

pub returns-clause-value : goal.returns-clause-value
returns-clause-value c =
    let sorts : Sorts c.args.items.now c.sort.new.self = search rules in
    sorts_alone _ _ sorts
