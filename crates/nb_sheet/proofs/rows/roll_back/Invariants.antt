use Rattle.std.proofs.Common.{◌≡◌, length}
use Rattle.nb_sheet.specs.Changes.{put_back}
use Rattle.nb_sheet.proofs.rows.roll_back.Given as goal

abbrev pub invariant-loop-change : goal.invariant-loop-change
invariant-loop-change l = put_back l.changes.items l.rows.items ≡ put_back l.fn.changes.items l.fn.rows.items

abbrev pub decreases-loop-change : goal.decreases-loop-change
decreases-loop-change l = length l.changes.items
