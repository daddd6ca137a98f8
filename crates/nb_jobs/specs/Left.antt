-- What is parked with work that was done.
use Rattle.std.specs.Prelude.{Option, Some, None}
use Rattle.std.specs.Coded.{Coded, Coded-set, coded_ℕ, ×_prop, Unit-prop}
use Rattle.nb_eval.specs.declared.given.Ending.{Ending}
use Rattle.nb_eval.specs.declared.given.Ending.TheVariants as ending
use Rattle.nb_eval.specs.declared.given.Segment.{Segment}
use Rattle.nb_eval.specs.declared.work.WorkDone.{WorkDone}
use Rattle.nb_eval.specs.declared.work.WorkDone.TheVariants as done
use Rattle.nb_eval.specs.Evaluation.{charges, segment_end}
use Rattle.nb_machine.specs.declared.parked.Parked.{Parked}
use Rattle.nb_machine.specs.declared.parked.Parked.TheVariants as parked
use Rattle.nb_machine.specs.declared.standing.Standing.{Standing}
use Rattle.nb_machine.specs.Parked.{IsWhole, IsLeftAt, IsLeftOf}

-- nothing, or what the evaluation that was made leaves
abbrev pub IsLeftBy : Option Parked → WorkDone → Type 0
IsLeftBy None d = Unit {0}
IsLeftBy (Some p) (done.Direct o) = ⊥
IsLeftBy (Some p) (done.Ran f) = IsLeftOf f.segment p

-- each of these facts has one proof at most
no_prop : IsProp ⊥
no_prop x y = absurd x

whole_prop : Coded Segment → (g : Segment) (s : Standing) → IsProp (IsWhole g s)
whole_prop code g s = ×_prop (Coded-set code s.segment g) (Coded-set coded_ℕ s.charges (charges g))

left_at_prop : Coded Segment → (g : Segment) (e : Ending) (p : Parked) → IsProp (IsLeftAt g e p)
left_at_prop code g (ending.Needs key) (parked.Needs s) = whole_prop code g s
left_at_prop code g (ending.Needs key) (parked.Paused s) = no_prop
left_at_prop code g (ending.Needs key) parked.Over = no_prop
left_at_prop code g ending.Paused (parked.Needs s) = no_prop
left_at_prop code g ending.Paused (parked.Paused s) = whole_prop code g s
left_at_prop code g ending.Paused parked.Over = no_prop
left_at_prop code g (ending.Done v) (parked.Needs s) = no_prop
left_at_prop code g (ending.Done v) (parked.Paused s) = no_prop
left_at_prop code g (ending.Done v) parked.Over = Unit-prop
left_at_prop code g (ending.Failed e) (parked.Needs s) = no_prop
left_at_prop code g (ending.Failed e) (parked.Paused s) = no_prop
left_at_prop code g (ending.Failed e) parked.Over = Unit-prop

pub left_prop : Coded Segment → (p : Option Parked) (d : WorkDone) → IsProp (IsLeftBy p d)
left_prop code None d = Unit-prop
left_prop code (Some p) (done.Direct o) = no_prop
left_prop code (Some p) (done.Ran f) = left_at_prop code f.segment (segment_end f.segment).ending p
