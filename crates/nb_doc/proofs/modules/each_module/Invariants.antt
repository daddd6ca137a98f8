-- The first fault of all is that of those that are left, and all say what was found and what the others say.
use Rattle.std.proofs.Common.{◌≡◌, drop}
use Rattle.serde_json.specs.View.{items_view}
use Rattle.nb_value.proofs.JsonLaws.{Continues}
use Rattle.nb_doc.specs.Modules.{start, modules_fault_from, modules_from}
use Rattle.nb_doc.proofs.modules.each_module.Given as goal

abbrev pub invariant-loop-k : goal.invariant-loop-k
invariant-loop-k l = record {
  count : l.around.modules ≡ l.k;
  fault : modules_fault_from (start l.named) (items_view l.items.items) ≡ modules_fault_from l.around (items_view (drop l.k l.items.items));
  said : Continues l.found.items (modules_from (start l.named) (items_view l.items.items)) (modules_from l.around (items_view (drop l.k l.items.items)));
}
