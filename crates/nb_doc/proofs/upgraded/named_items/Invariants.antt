-- All items in their new form are those that were made, and then the others in theirs.
use Rattle.std.proofs.Common.{◌≡◌, drop, map}
use Rattle.serde_json.specs.View.{view, items_view}
use Rattle.nb_doc.specs.Upgraded.{items_by_name}
use Rattle.nb_doc.proofs.UpgradeLemmas.{joined}
use Rattle.nb_doc.proofs.upgraded.named_items.Given as goal

abbrev pub invariant-loop-item : goal.invariant-loop-item
invariant-loop-item l = items_by_name (items_view l.item-items) ≡ joined (map view l.found.items) (items_by_name (items_view (drop l.item-index l.item-items)))
