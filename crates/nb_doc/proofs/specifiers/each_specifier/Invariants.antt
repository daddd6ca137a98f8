use Rattle.std.proofs.Common.{drop}
use Rattle.serde_json.specs.View.{items_view}
use Rattle.nb_value.proofs.JsonLaws.{Continues}
use Rattle.nb_lines.specs.Fields.{each_specifier}
use Rattle.nb_doc.proofs.specifiers.each_specifier.Given as goal

abbrev pub invariant-loop-item : goal.invariant-loop-item
invariant-loop-item l = Continues l.found (each_specifier (items_view l.item-items)) (each_specifier (items_view (drop l.item-index l.item-items)))
