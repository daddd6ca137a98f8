use Rattle.std.proofs.Common.{◌∙◌}
use Rattle.nb_main.proofs.notes.tell_too_long.Goals as goal

pub returns-clause-writes : goal.returns-clause-writes
returns-clause-writes g c = rw (c.as_bytes-most.ensures.value ∙ c.format.ensures.text) at c.write_pieces.ensures.writes
