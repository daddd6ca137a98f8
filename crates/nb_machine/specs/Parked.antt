-- What is left of an evaluation at its ending.
use Rattle.std.specs.Prelude.{◌≡◌, ◌≢◌, ◌≤◌, ℕ, ◌+◌, Bool, true, false, List, [], ◌∷◌, ◌++◌, Option, Some, None}
use Rattle.nb_value.specs.declared.outcome.Answer.{Answer}
use Rattle.nb_eval.specs.declared.given.Ending.{Ending}
use Rattle.nb_eval.specs.declared.given.Ending.TheVariants as ending
use Rattle.nb_eval.specs.declared.given.Segment.{Segment}
use Rattle.nb_eval.specs.Evaluation.{charges, segment_end}
use Rattle.nb_machine.specs.Segments.{with_answer, with_pull}
use Rattle.nb_machine.specs.declared.standing.Standing.{Standing}
use Rattle.nb_machine.specs.declared.machine.Machine.{Machine}
use Rattle.nb_machine.specs.declared.parked.Parked.{Parked}
use Rattle.nb_machine.specs.declared.parked.Parked.TheVariants as parked

-- an evaluation that has made all charges of its segment
abbrev pub IsWhole : Segment → Standing → Type 0
IsWhole g s = (s.segment ≡ g) × (s.charges ≡ charges g)

-- what is left by the evaluation of a segment that ends so
abbrev pub IsLeftAt : Segment → Ending → Parked → Type 0
IsLeftAt g (ending.Needs key) (parked.Needs s) = IsWhole g s
IsLeftAt g ending.Paused (parked.Paused s) = IsWhole g s
IsLeftAt g (ending.Done v) parked.Over = Unit {0}
IsLeftAt g (ending.Failed e) parked.Over = Unit {0}
IsLeftAt g e p = ⊥

abbrev pub IsLeftOf : Segment → Parked → Type 0
IsLeftOf g p = IsLeftAt g (segment_end g).ending p

-- a machine that hasn't ended, of this segment and at this number of charges
abbrev pub Runs : Segment → ℕ → Machine → Type 0
Runs g n m = (m.standing.segment ≡ g) × (m.standing.charges ≡ n) × (m.ended ≡ None)

abbrev pub needs_answer : Parked → Bool
needs_answer (parked.Needs s) = true
needs_answer p = false

abbrev pub waits_for_pull : Parked → Bool
waits_for_pull (parked.Paused s) = true
waits_for_pull p = false

abbrev pub is_over : Parked → Bool
is_over parked.Over = true
is_over p = false

-- the machine that goes on with this answer, from an evaluation that needs one
abbrev pub GoesOnWith : Answer → Parked → Machine → Type 0
GoesOnWith a (parked.Needs s) m = Runs (with_answer s.segment a) s.charges m
GoesOnWith a p m = ⊥

-- the machine that goes on with a pull more, from an evaluation that paused
abbrev pub GoesOnPulled : Parked → Machine → Type 0
GoesOnPulled (parked.Paused s) m = Runs (with_pull s.segment) s.charges m
GoesOnPulled p m = ⊥

-- the pulls that a parked evaluation has had
abbrev pub pulls_of : Parked → ℕ
pulls_of (parked.Needs s) = s.segment.pulls
pulls_of (parked.Paused s) = s.segment.pulls
pulls_of parked.Over = 0
