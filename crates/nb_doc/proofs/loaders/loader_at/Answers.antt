-- A fault of the element.
use Rattle.serde_json.specs.View.{view}
use Rattle.std.proofs.Common.{map}
use Rattle.nb_doc.specs.Loading.{loader_fault}
use Rattle.nb_doc.proofs.loaders.loader_at.Goals as goal

pub returns-in-Err-clause-bad : goal.returns-in-Err-clause-bad
returns-in-Err-clause-bad c = c.within_place.ensures (loader_fault (map (λ s. s.now) c.args.keys.now.keys) (view c.args.tree.now)) c.in-Err.ensures.bad
