-- Segments whose evaluation goes on.
use Rattle.std.specs.Prelude.{ℕ, ◌+◌, Bool, true, false, [], ◌∷◌, ◌++◌, Option, Some, None}
use Rattle.nb_value.specs.declared.outcome.Answer.{Answer}
use Rattle.nb_eval.specs.declared.given.Ending.{Ending}
use Rattle.nb_eval.specs.declared.given.Ending.TheVariants as ending
use Rattle.nb_eval.specs.declared.given.Segment.{Segment}

-- a segment with one answer more, and with one pull more
abbrev pub with_answer : Segment → Answer → Segment
with_answer g a = record g { answers = g.answers ++ a ∷ [] }

abbrev pub with_pull : Segment → Segment
with_pull g = record g { pulls = g.pulls + 1 }

-- whether an evaluation that ends so can be taken up again
abbrev pub can_go_on : Ending → Bool
can_go_on (ending.Needs key) = true
can_go_on ending.Paused = true
can_go_on e = false

-- the copy that is kept of a segment whose evaluation can be taken up again
abbrev pub copy_where : Bool → Segment → Option Segment
copy_where true g = Some g
copy_where false g = None
