-- A new key is one that isn't among the others.
use Rattle.std.proofs.Common.{◌∙◌, ap, not}
use Rattle.nb_doc.proofs.KeyLemmas.{among}
use Rattle.nb_doc.proofs.loaders.add_key.Goals as goal

pub returns-clause-new : goal.returns-clause-new
returns-clause-new c = c.in_ok-insert.ensures.added ∙ ap not (among c.args.key.now c.args.keys.now.keys)
