use Rattle.std.proofs.Common.{◌≡◌, ◌++◌, map, drop}
use Rattle.nb_doc.specs.Numbers.{item_row}
use Rattle.nb_doc.proofs.count.add_items.Given as goal

abbrev pub invariant-loop-item : goal.invariant-loop-item
invariant-loop-item l = l.rows.items ++ map (item_row l.places l.m) (drop l.item-index l.items) ≡ l.fn.rows.items ++ map (item_row l.places l.m) l.items
