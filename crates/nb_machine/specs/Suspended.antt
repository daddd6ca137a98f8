-- A suspended evaluation.
use Rattle.std.specs.Prelude.{◌≡◌, ℕ, ◌-◌, ◌<◌, ◌≤◌, Bool, true, false, List, ◌∷◌, length, slice_get, Option, Some, Err}
use Rattle.nb_value.specs.declared.outcome.Answer.{Answer}
use Rattle.nb_syntax.specs.Generator.{is_generator}
use Rattle.nb_eval.specs.declared.given.Segment.{Segment}
use Rattle.nb_eval.specs.declared.given.RunEnd.{RunEnd}
use Rattle.nb_eval.specs.declared.state.State.{State}
use Rattle.nb_eval.specs.declared.stop.Stop.{Stop}
use Rattle.nb_eval.specs.Evaluation.{run, ending_of, last_of}
use Rattle.nb_machine.specs.declared.instr.Instr.{Instr}
use Rattle.nb_machine.specs.declared.instr.Instr.TheVariants as i
use Rattle.nb_machine.specs.declared.instr.Slot.{Slot}
use Rattle.nb_machine.specs.declared.instr.Slot.TheVariants as slot
use Rattle.nb_machine.specs.Machine.{Spot, Ends, code_of, end_of}

-- the segment, with these answers and pulls in place of its own
abbrev pub with_more : Segment → List Answer → ℕ → Segment
with_more g answers pulls = record g { answers = answers; pulls = pulls }

-- the first n of these answers stand there too
abbrev pub Keeps : ℕ → List Answer → List Answer → Type 0
Keeps n answers others = (at : ℕ) (a : Answer) → at < n → slice_get answers at ≡ Some a → slice_get others at ≡ Some a

-- the pulls suffice to come here
abbrev pub IsPulled : ℕ → State → Type 0
IsPulled pulls s = length s.yields ≤ pulls - 1

-- a point of the evaluation: whatever answers come after those that were taken, and however often it is pulled, from
-- here the evaluation ends as it does from its start
abbrev pub Stands : Segment → Spot → State → Type 0
Stands g p s = (answers : List Answer) (pulls : ℕ) → Keeps s.taken g.answers answers → IsPulled pulls s →
    Ends (with_more g answers pulls) (code_of g) (end_of (run (with_more g answers pulls))) p s

-- a charge is next
abbrev pub owes : List Slot → Bool
owes (slot.Value v ∷ ss) = true
owes (slot.Unpaid ∷ ss) = true
owes _ = false

abbrev pub is_pending : Option Instr → List Slot → Bool
is_pending (Some i.Charge) ss = owes ss
is_pending (Some i.Tick) ss = true
is_pending _ ss = false

-- what is kept of an end
abbrev pub kept_of : Segment → Stop → State → RunEnd
kept_of g e s = record { made = length s.yields; last = last_of s.yields; cleanups = s.cleanups; ending = ending_of (is_generator g.cell) (Err e) }
