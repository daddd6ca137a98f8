-- What an instruction does, and a run of them.
use Rattle.std.specs.Prelude.{◌≡◌, ℕ, zero, suc, ◌+◌, ◌-◌, Bool, List, [], ◌∷◌, ◌++◌, length, nat_lt, slice_get, codes, Option, Some, None, Result, Ok, Err, if◌then◌else◌}
use Rattle.nb_value.specs.declared.value.Value.{Value}
use Rattle.nb_value.specs.declared.value.Value.TheVariants as V
use Rattle.nb_value.specs.declared.pairs.Field.{Field}
use Rattle.nb_value.specs.declared.outcome.ErrorKind.TheVariants.{OutOfFuel}
use Rattle.nb_value.specs.Value.{size}
use Rattle.nb_value.specs.Fields.{put}
use Rattle.nb_builtins.specs.Apply.{called}
use Rattle.nb_eval.specs.declared.given.Segment.{Segment}
use Rattle.nb_eval.specs.declared.state.State.{State}
use Rattle.nb_eval.specs.declared.stop.Stop.{Stop}
use Rattle.nb_eval.specs.declared.stop.Stop.TheVariants as stops
use Rattle.nb_eval.specs.Run.{Run, Out, ◌>>=◌, lift, pure, stop, error, charge, tick, read, keep, assign, cut_to, as_truth, items_of, within_depth, ask, yielded, cleaned, thrown}
use Rattle.nb_eval.specs.Operate.{summed, multiplied, compared, signed, field_of, part_of}
use Rattle.nb_machine.specs.declared.instr.Instr.{Instr}
use Rattle.nb_machine.specs.declared.instr.Instr.TheVariants as i
use Rattle.nb_machine.specs.declared.instr.Slot.{Slot}
use Rattle.nb_machine.specs.declared.instr.Slot.TheVariants as slot
use Rattle.nb_machine.specs.declared.instr.Word.{Word}
use Rattle.nb_machine.specs.declared.instr.Word.TheVariants as word
use Rattle.nb_machine.specs.Code.{Code, body_code}
pub use Rattle.nb_machine.specs.declared.point.Spot.{Spot}

abbrev pub spot : ℕ → List Slot → Spot
spot pc slots = record { pc = pc; slots = slots }

abbrev pub text_of : Word → List ℕ
text_of word.And = codes "&&"
text_of word.Or = codes "||"
text_of word.Choice = codes "?"
text_of word.If = codes "if"
text_of word.While = codes "while"

-- ---- what stands on top; a cell's code finds what it asks for

abbrev pub Goes : Type 0
Goes = Run Spot

abbrev pub value_on : List Slot → (Value → List Slot → Goes) → Goes
value_on (slot.Value v ∷ ss) f = f v ss
value_on _ f = stop stops.Memory

abbrev pub values_on : List Slot → (List Value → List Slot → Goes) → Goes
values_on (slot.Values vs ∷ ss) f = f vs ss
values_on _ f = stop stops.Memory

abbrev pub fields_on : List Slot → (List (Field Value) → List Slot → Goes) → Goes
fields_on (slot.Fields fs ∷ ss) f = f fs ss
fields_on _ f = stop stops.Memory

abbrev pub turns_on : List Slot → (List Value → List Slot → Goes) → Goes
turns_on (slot.Turns vs ∷ ss) f = f vs ss
turns_on _ f = stop stops.Memory

abbrev pub mark_on : List Slot → (ℕ → List Slot → Goes) → Goes
mark_on (slot.Mark n ∷ ss) f = f n ss
mark_on _ f = stop stops.Memory

-- ---- steps

-- on to the next instruction, with this stack
abbrev pub to : Spot → List Slot → Goes
to p ss = pure (spot (p.pc + 1) ss)

-- the value of this goes on top
abbrev pub gives : Spot → List Slot → Run Value → Goes
gives p ss d = d >>= (λ v. to p (slot.Value v ∷ ss))

abbrev pub acts : Spot → List Slot → Run (Unit {0}) → Goes
acts p ss d = d >>= (λ u. to p ss)

-- the charge of what stands on top
abbrev pub owed : List Slot → Run (Unit {0})
owed (slot.Value v ∷ ss) = charge (1 + size v)
owed (slot.Unpaid ∷ ss) = λ s. (Err (stops.Failed (error OutOfFuel [])), record s { charges = s.charges + 1 })
owed _ = stop stops.Memory

-- a value that the fuel doesn't pay for isn't kept
abbrev pub billed : ℕ → Value → Slot
billed fuel v = if nat_lt fuel (1 + size v) then slot.Unpaid else slot.Value v

abbrev pub jump : Spot → List Slot → ℕ → Bool → Goes
jump p ss skip b = pure (spot (if b then p.pc + 1 + skip else p.pc + 1) ss)

abbrev pub unless : Spot → List Slot → ℕ → Bool → Goes
unless p ss skip b = pure (spot (if b then p.pc + 1 else p.pc + 1 + skip) ss)

-- past the turns, or into the next one
abbrev pub turns_left : Spot → ℕ → List Value → List Slot → Goes
turns_left p skip [] ss = pure (spot (p.pc + 1 + skip) ss)
turns_left p skip (v ∷ vs) ss = to p (slot.Turns (v ∷ vs) ∷ ss)

abbrev pub take_turn : Spot → List ℕ → List Value → List Slot → Goes
take_turn p name [] ss = stop stops.Memory
take_turn p name (v ∷ vs) ss = λ s. (keep name v >>= (λ u. to p (slot.Mark (length s.locals) ∷ slot.Turns vs ∷ ss))) s

abbrev pub does : Segment → Instr → Spot → Goes
does g (i.Const v) p = to p (slot.Value v ∷ p.slots)
does g (i.Name n) p = gives p p.slots (read g n)
does g i.Charge p = acts p p.slots (owed p.slots)
does g i.Values p = to p (slot.Values [] ∷ p.slots)
does g i.Append p = value_on p.slots (λ v ss. values_on ss (λ vs rest. to p (slot.Values (vs ++ v ∷ []) ∷ rest)))
does g i.List p = values_on p.slots (λ vs ss. gives p ss (lift (within_depth (V.List vs))))
does g (i.Call f) p = values_on p.slots (λ vs ss. lift (called f vs) >>= (λ v s. to p (billed s.fuel v ∷ ss) s))
does g i.Fields p = to p (slot.Fields [] ∷ p.slots)
does g (i.Put n) p = value_on p.slots (λ v ss. fields_on ss (λ fs rest. to p (slot.Fields (put (record { name = n; value = v }) fs) ∷ rest)))
does g i.Record p = fields_on p.slots (λ fs ss. gives p ss (lift (within_depth (V.Rec fs))))
does g (i.Field n) p = value_on p.slots (λ v ss. gives p ss (lift (field_of n v)))
does g i.At p = value_on p.slots (λ at ss. value_on ss (λ v rest. gives p rest (lift (part_of v at))))
does g (i.Unary sign) p = value_on p.slots (λ v ss. gives p ss (lift (signed sign v)))
does g (i.Product sign) p = value_on p.slots (λ w ss. value_on ss (λ v rest. gives p rest (lift (multiplied sign v w))))
does g (i.Sum sign) p = value_on p.slots (λ w ss. value_on ss (λ v rest. gives p rest (lift (summed sign v w))))
does g (i.Compare sign) p = value_on p.slots (λ w ss. value_on ss (λ v rest. gives p rest (lift (compared sign v w))))
does g i.Fetch p = value_on p.slots (λ key ss. gives p ss (ask g key))
does g (i.Unless w skip) p = value_on p.slots (λ v ss. as_truth (text_of w) v >>= unless p ss skip)
does g (i.When w skip) p = value_on p.slots (λ v ss. as_truth (text_of w) v >>= jump p ss skip)
does g (i.Go skip) p = pure (spot (p.pc + 1 + skip) p.slots)
does g (i.Back n) p = pure (spot (p.pc - n) p.slots)
does g i.Tick p = acts p p.slots tick
does g (i.Let n) p = value_on p.slots (λ v ss. acts p ss (keep n v))
does g (i.Assign n) p = value_on p.slots (λ v ss. acts p ss (assign n v))
does g i.Enter p = λ s. to p (slot.Mark (length s.locals) ∷ p.slots) s
does g i.Leave p = mark_on p.slots (λ len ss. acts p ss (cut_to len))
does g i.Turns p = value_on p.slots (λ v ss. lift (items_of (codes "for") v) >>= (λ vs. to p (slot.Turns vs ∷ ss)))
does g (i.Next skip) p = turns_on p.slots (turns_left p skip)
does g (i.Take n) p = turns_on p.slots (take_turn p n)
does g i.Yield p = value_on p.slots (λ v ss. acts p ss (yielded g v))
does g i.Return p = value_on p.slots (λ v ss. stop (stops.Done v))
does g i.Throw p = value_on p.slots (λ v ss. acts p ss (lift (thrown v)))
does g i.Cleanup p = value_on p.slots (λ v ss. acts p ss (cleaned v))

abbrev pub does_if : Segment → Option Instr → Spot → Goes
does_if g None p = stop stops.Memory
does_if g (Some x) p = does g x p

abbrev pub code_of : Segment → Code
code_of g = body_code g.cell.body

-- the next instruction
abbrev pub step : Segment → Code → Spot → Goes
step g code p = does_if g (slice_get code p.pc) p

-- how a run ends, and its state there
abbrev pub End : Type 0
End = Stop × State

-- a stop is an end where no more is asked for, and else it goes on
abbrev pub follow : ℕ → Result Spot Stop → State → (Spot → State → Option End) → Option End
follow n (Ok p) s next = next p s
follow zero (Err e) s next = Some (e, s)
follow (suc n) (Err e) s next = None

-- the end after exactly n instructions, if it comes there
abbrev pub go : Segment → Code → ℕ → Spot → State → Option End
go g code zero p s = None
go g code (suc n) p s = follow n (step g code p s).0 (step g code p s).1 (go g code n)

-- from here it ends so
abbrev pub Ends : Segment → Code → End → Spot → State → Type 0
Ends g code e p s = (n : ℕ) × (go g code n p s ≡ Some e)

-- the end of a run that gives a value is that it is done
abbrev pub end_in : Result Value Stop → State → End
end_in (Ok v) s = (stops.Done v, s)
end_in (Err e) s = (e, s)

abbrev pub end_of : Out Value → End
end_of o = end_in o.0 o.1
