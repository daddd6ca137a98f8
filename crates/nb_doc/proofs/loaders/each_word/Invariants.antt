-- The first fault of all is that of those that are left, and all say what was found and what the others say.
use Rattle.std.proofs.Common.{◌≡◌, drop}
use Rattle.serde_json.specs.View.{items_view}
use Rattle.nb_value.proofs.JsonLaws.{Continues}
use Rattle.nb_doc.specs.Items.{each_fault, each_of}
use Rattle.nb_doc.specs.Loading.{word_fault, word_in}
use Rattle.nb_doc.proofs.loaders.each_word.Given as goal

abbrev pub invariant-loop-k : goal.invariant-loop-k
invariant-loop-k l = record {
  fault : each_fault word_fault 0 (items_view l.items.items) ≡ each_fault word_fault l.k (items_view (drop l.k l.items.items));
  said : Continues l.found.items (each_of word_in (items_view l.items.items)) (each_of word_in (items_view (drop l.k l.items.items)));
}
