use Rattle.std.proofs.Common.{◌≡◌, ◌≤◌, ◌++◌, length}
use Rattle.std.specs.Vec.Iter.{into_iter_items, into_iter_len}
use Rattle.nb_doc.specs.Says.{items_lines}
use Rattle.nb_doc.proofs.lines.add_items.Given as goal

abbrev pub invariant-loop-item : goal.invariant-loop-item
invariant-loop-item l = record {
  lines : l.events ++ items_lines l.places l.m l.next (into_iter_items l.item-iterator) ≡ l.fn.events ++ items_lines l.places l.m l.v l.fn.items;
  low : l.next ≤ 1025;
  left : into_iter_len l.item-iterator ≡ length (into_iter_items l.item-iterator);
}
