-- The steps of a machine come to its ending.
use Rattle.std.proofs.Common.{◌≡◌, ℕ, ◌+◌, ◌<◌, ◌≤◌, Bool, true, false, Option, Some, None, refl, sym, ap, ◌∙◌, subst, arith}
use Rattle.std.specs.Prelude.{nat_le, if◌then◌else◌}
use Rattle.std.proofs.lemmas.Bool.Decides.{nat_tests}
use Rattle.nb_eval.specs.declared.given.Ending.{Ending}
use Rattle.nb_eval.specs.declared.given.Ending.TheVariants as ending
use Rattle.nb_eval.specs.declared.given.Segment.{Segment}
use Rattle.nb_machine.specs.declared.parked.Parked.TheVariants as parked
use Rattle.nb_machine.specs.Parked.{IsLeftAt}
use Rattle.nb_eval.specs.Evaluation.{charges}
use Rattle.nb_machine.specs.declared.ended.Ended.{Ended}
use Rattle.nb_machine.specs.declared.machine.Machine.{Machine}
use Rattle.nb_machine.specs.Machine.{code_of}
use Rattle.nb_machine.specs.Standing.{Standing, pends, is_due, left_of}
use Rattle.nb_machine.specs.Segments.{can_go_on, copy_where}
use Rattle.nb_machine.specs.Suspended.{is_pending}
use Rattle.nb_machine.specs.ToGo.{left_unless, to_go}
use Rattle.nb_machine.proofs.Falls.{some_left}
use Rattle.nb_machine.proofs.Points.{charges_to_come}
use Rattle.std.specs.Prelude.{slice_get}

more_than_none : (o : Option Ended) (n : ℕ) → o ≡ None → 0 < n → 0 < left_unless o n
more_than_none None n e lt = lt
more_than_none (Some x) n e lt = absurd (cc)

-- a machine that hasn't ended has instructions left
pub some_to_go : (m : Machine) → m.ended ≡ None → 0 < to_go m
some_to_go m e = more_than_none m.ended (left_of m.standing) e (some_left m.standing.segment m.standing.spot m.standing.held m.standing.stands m.standing.is_pulled)

due_by : (b : Bool) (n m : ℕ) → (if b then nat_le n m else false) ≡ true → (b ≡ true) × (n ≤ m)
due_by true n m e = (refl, grind (arith, nat_tests))
due_by false n m e = absurd (cc)

-- where a charge is due past this number, the standing has as many, and its segment has more
pub due_at : (s : Standing) (n : ℕ) → is_due s n ≡ true → s.charges ≤ n → (s.charges ≡ n) × (s.charges < charges s.segment)
due_at s n e most =
    let due = due_by (pends s) n s.held.state.charges e in
    let pending = subst (λ cs. is_pending (slice_get cs s.spot.pc) s.spot.slots ≡ true) s.is_code due.0 in
    let more = charges_to_come s.segment s.spot s.held s.stands s.is_pulled pending in
    (omega (arith, due.1, s.made, most), omega (arith, due.1, s.made, most, more))

pub copy_is : (b : Bool) (g c : Segment) → Some c ≡ copy_where b g → (b ≡ true) × (c ≡ g)
copy_is true g c e = (refl, cc)
copy_is false g c e = absurd (cc)

pub no_copy_is : (b : Bool) (g : Segment) → None ≡ copy_where b g → b ≡ false
no_copy_is true g e = absurd (cc)
no_copy_is false g e = refl

pub over_at : (g : Segment) (e : Ending) → can_go_on e ≡ false → IsLeftAt g e parked.Over
over_at g (ending.Needs key) h = absurd (cc)
over_at g ending.Paused h = absurd (cc)
over_at g (ending.Done v) h = tt
over_at g (ending.Failed e) h = tt
