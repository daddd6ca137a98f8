-- That no other line is answered, and the editors of the lines.
use Rattle.nb_lines.specs.Lines.{lines, numbered, first_among, said, first_bad}
use Rattle.nb_lines.proofs.EditorLemmas.{editors_of}
use Rattle.nb_lines.proofs.Once.{only_bad}
use Rattle.nb_lines.proofs.lines.read_lines.Goals as goal

pub returns-clause-editors : goal.returns-clause-editors
returns-clause-editors c =
    editors_of (first_among (numbered 1 (lines c.without_last_feed.result.now))) (numbered 1 (lines c.without_last_feed.result.now)) c.read_all.result c.read_all.ensures

pub returns-clause-only : goal.returns-clause-only
unfolding first_bad
returns-clause-only c = rw c.without_last_feed.ensures at
    (only_bad (first_among (numbered 1 (lines c.without_last_feed.result.now))) (said (numbered 1 (lines c.without_last_feed.result.now))) c.read_all.result c.read_all.ensures)
