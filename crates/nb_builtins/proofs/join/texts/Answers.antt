use Rattle.std.proofs.Common.{◌≡◌, true, rules, arith, is_ok}
use Rattle.nb_builtins.proofs.JoinLemmas.{texts_pushed}
use Rattle.nb_builtins.proofs.join.texts.Goals as goal

pub loop-item-preserved : goal.loop-item-preserved
loop-item-preserved c =
    let fine : is_ok c.push.result ≡ true = search (rules, c.map_err.ensures.variant) in
    let pushed = rw fine at c.push.ensures.items in
    texts_pushed _ c.args.items.now _ _ c.loop-item.item-index _ _ (omega arith) c.item-item.is c.in-Text.is pushed c.loop-item.invariant
