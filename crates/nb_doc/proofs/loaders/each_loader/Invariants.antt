-- The first fault of all is that of those that are left, and all say what was found and what the others say.
use Rattle.std.proofs.Common.{◌≡◌, [], drop, map}
use Rattle.serde_json.specs.View.{items_view}
use Rattle.nb_value.proofs.JsonLaws.{Continues}
use Rattle.nb_doc.specs.Items.{each_of}
use Rattle.nb_doc.specs.Loading.{loaders_fault_from, loader_of}
use Rattle.nb_doc.proofs.loaders.each_loader.Given as goal

abbrev pub invariant-loop-k : goal.invariant-loop-k
invariant-loop-k l = record {
  fault : loaders_fault_from [] 0 (items_view l.items.items) ≡ loaders_fault_from (map (λ s. s.now) l.keys.keys) l.k (items_view (drop l.k l.items.items));
  said : Continues l.found (each_of loader_of (items_view l.items.items)) (each_of loader_of (items_view (drop l.k l.items.items)));
}
