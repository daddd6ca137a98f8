-- All modules in their new form are those that were made, and then the others in theirs.
use Rattle.std.proofs.Common.{◌≡◌, drop, map}
use Rattle.serde_json.specs.View.{view, items_view}
use Rattle.nb_doc.specs.Upgraded.{named_modules}
use Rattle.nb_doc.proofs.UpgradeLemmas.{joined}
use Rattle.nb_doc.proofs.upgraded.named_modules.Given as goal

abbrev pub invariant-loop-k : goal.invariant-loop-k
invariant-loop-k l = named_modules 0 (items_view l.modules.items) ≡ joined (map view l.found.items) (named_modules l.k (items_view (drop l.k l.modules.items)))
