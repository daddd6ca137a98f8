-- The first fault of all is that of those that are left, and all say what was found and what the others say.
use Rattle.std.proofs.Common.{◌≡◌, drop}
use Rattle.serde_json.specs.View.{items_view}
use Rattle.nb_value.proofs.JsonLaws.{Continues}
use Rattle.nb_doc.specs.Items.{each_fault, each_of, item_fault, item_of}
use Rattle.nb_doc.proofs.item.each_item.Given as goal

abbrev pub invariant-loop-k : goal.invariant-loop-k
invariant-loop-k l = record {
  fault : each_fault (item_fault l.around) 0 (items_view l.items.items) ≡ each_fault (item_fault l.around) l.k (items_view (drop l.k l.items.items));
  said : Continues l.found.items (each_of (item_of l.around) (items_view l.items.items)) (each_of (item_of l.around) (items_view (drop l.k l.items.items)));
}
