-- What a machine keeps of a state: of the yields their number and the last.
use Rattle.std.specs.Prelude.{◌≡◌, ℕ, Bool, true, false, zero, suc, ◌+◌, ◌-◌, nat_lt, if◌then◌else◌, ◌≤◌, List, [], ◌∷◌, length, Option, Some, None, Result, Ok, Err}
use Rattle.std.proofs.Common.{refl}
use Rattle.nb_value.specs.declared.value.Value.{Value}
use Rattle.nb_value.specs.declared.outcome.Answer.{Answer}
use Rattle.nb_syntax.specs.Generator.{is_generator}
use Rattle.nb_eval.specs.declared.given.Segment.{Segment}
use Rattle.nb_eval.specs.declared.given.RunEnd.{RunEnd}
use Rattle.nb_eval.specs.declared.state.State.{State}
use Rattle.nb_eval.specs.declared.stop.Stop.{Stop}
use Rattle.nb_eval.specs.declared.stop.Stop.TheVariants as stops
use Rattle.nb_eval.specs.Run.{Out, charge, start_state}
use Rattle.nb_machine.specs.declared.instr.Slot.{Slot}
use Rattle.nb_machine.specs.declared.instr.Slot.TheVariants as slot
use Rattle.nb_machine.specs.declared.instr.Instr.{Instr}
use Rattle.nb_eval.specs.Evaluation.{run, last_of, ending_of}
use Rattle.nb_machine.specs.Code.{Code}
pub use Rattle.nb_machine.specs.declared.point.Held.{Held}
use Rattle.nb_machine.specs.Machine.{Spot, spot, does, step, go, code_of, End, end_of}
use Rattle.nb_machine.specs.Suspended.{with_more, Keeps}

abbrev pub hold : State → Held
hold s = record { state = record s { yields = [] }; made = length s.yields; last = last_of s.yields }

abbrev pub with_yields : Held → List Value → State
with_yields h ys = record h.state { yields = ys }

-- some yields of this number and this last one
abbrev pub some_yields : ℕ → Option Value → List Value
some_yields n None = []
some_yields zero (Some v) = []
some_yields (suc n) (Some v) = v ∷ some_yields n (Some v)

-- a state that is held so
abbrev pub state_of : Held → State
state_of h = with_yields h (some_yields h.made h.last)

-- it is held of some state
abbrev pub IsHeld : Held → Type 0
IsHeld h = hold (state_of h) ≡ h

abbrev pub start_held : Held
start_held = record { state = start_state; made = 0; last = None }

abbrev pub held_out : {A : Type 0} → Out A → Result A Stop × Held
held_out o = (o.0, hold o.1)

-- an instruction, over what is held
abbrev pub held_step : Segment → Code → Spot → Held → Result Spot Stop × Held
held_step g code p h = held_out (step g code p (state_of h))

-- an instruction that is known, over what is held
abbrev pub held_does : Segment → Instr → Spot → Held → Result Spot Stop × Held
held_does g x p h = held_out (does g x p (state_of h))

abbrev pub held_end : End → Stop × Held
held_end e = (e.0, hold e.1)

abbrev pub held_go : Option End → Option (Stop × Held)
held_go None = None
held_go (Some e) = Some (held_end e)

-- from here it ends so
abbrev pub EndsHeld : Segment → Code → Stop × Held → Spot → Held → Type 0
EndsHeld g code e p h = (n : ℕ) × (held_go (go g code n p (state_of h)) ≡ Some e)

abbrev pub IsPulledTo : ℕ → Held → Type 0
IsPulledTo pulls h = h.made ≤ pulls - 1

-- a point of the evaluation: whatever answers come after those that were taken, and however often it is pulled, from
-- here the evaluation ends as it does from its start
abbrev pub StandsAt : Segment → Spot → Held → Type 0
StandsAt g p h = (answers : List Answer) (pulls : ℕ) → Keeps h.state.taken g.answers answers → IsPulledTo pulls h →
    EndsHeld (with_more g answers pulls) (code_of g) (held_end (end_of (run (with_more g answers pulls)))) p h

-- what is kept of an end
abbrev pub end_kept : Segment → Stop → Held → RunEnd
end_kept g e h = record { made = h.made; last = h.last; cleanups = h.state.cleanups; ending = ending_of (is_generator g.cell) (Err e) }

-- ---- what an instruction leaves where it stops

-- the value on top
abbrev pub top_value : List Slot → Option Value
top_value (slot.Value v ∷ ss) = Some v
top_value _ = None

-- at the want of an answer, and where it pauses, a machine stays as it was before the instruction; the evaluation has counted
-- the fetch, and has yielded the value on top
abbrev pub left_by : Stop → Spot → Held → Held
left_by (stops.Needs key) p h = record h { state = record h.state { fetches = h.state.fetches + 1 } }
left_by stops.Paused p h = record h { made = h.made + 1; last = top_value p.slots }
left_by x p h = h

abbrev pub left : Result (Unit {0}) Stop → Spot → Held → Held
left (Ok u) p h = h
left (Err x) p h = left_by x p h

-- whether it can go on from there, with an answer or a pull more
abbrev pub goes_on : Stop → Bool
goes_on (stops.Needs key) = true
goes_on stops.Paused = true
goes_on x = false

abbrev pub Stays : Result (Unit {0}) Stop → Spot → Spot → Held → Held → Type 0
Stays r p q h k = (x : Stop) → r ≡ Err x → goes_on x ≡ true → (q ≡ p) × (k ≡ h)

-- a run that didn't stop stands somewhere
abbrev pub moved : Result (Unit {0}) Stop → Spot → Result Spot Stop
moved (Ok u) p = Ok p
moved (Err e) p = Err e

-- ---- instructions over what is held

-- what was done to the state, with the yields as they were
abbrev pub over : {A : Type 0} → Held → Out A → Result A Stop × Held
over h o = (o.0, record h { state = o.1 })

abbrev pub held_charge : ℕ → Held → Result (Unit {0}) Stop × Held
held_charge n h = over h (charge n h.state)

-- what was done, and the next instruction
abbrev pub on_next : Spot → List Slot → Result (Unit {0}) Stop × Held → Result Spot Stop × Held
on_next p ss o = (moved o.0 (spot (p.pc + 1) ss), o.1)
