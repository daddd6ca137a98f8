-- Whether a charge is next can be seen of the top.
use Rattle.std.proofs.Common.{◌≡◌, Bool, true, false, List, [], ◌∷◌, Option, Some, None, refl, sym}
use Rattle.std.specs.Prelude.{slice_get}
use Rattle.nb_eval.specs.declared.given.Segment.{Segment}
use Rattle.nb_eval.specs.declared.stop.Stop.{Stop}
use Rattle.nb_eval.specs.Evaluation.{run, charges}
use Rattle.nb_machine.specs.declared.instr.Slot.{Slot}
use Rattle.nb_machine.specs.declared.instr.Slot.TheVariants as slot
use Rattle.nb_machine.specs.Machine.{end_of}
use Rattle.nb_value.specs.declared.value.Value.{Value}
use Rattle.nb_machine.specs.Held.{top_value}
use Rattle.nb_machine.specs.Suspended.{owes}
use Rattle.nb_machine.specs.Held.{Held, held_end}
use Rattle.nb_machine.proofs.Points.{charges_at_stop}

abbrev pub owes_on : Option Slot → Bool
owes_on (Some (slot.Value v)) = true
owes_on (Some slot.Unpaid) = true
owes_on _ = false

pub owes_top : (ss : List Slot) → owes ss ≡ owes_on (slice_get ss 0)
owes_top [] = refl
owes_top (slot.Value v ∷ ss) = refl
owes_top (slot.Unpaid ∷ ss) = refl
owes_top (slot.Values vs ∷ ss) = refl
owes_top (slot.Fields fs ∷ ss) = refl
owes_top (slot.Turns vs ∷ ss) = refl
owes_top (slot.Mark n ∷ ss) = refl

abbrev value_in : Option Slot → Option Value
value_in (Some (slot.Value v)) = Some v
value_in _ = None

pub value_top : (ss : List Slot) → top_value ss ≡ value_in (slice_get ss 0)
value_top [] = refl
value_top (slot.Value v ∷ ss) = refl
value_top (slot.Unpaid ∷ ss) = refl
value_top (slot.Values vs ∷ ss) = refl
value_top (slot.Fields fs ∷ ss) = refl
value_top (slot.Turns vs ∷ ss) = refl
value_top (slot.Mark n ∷ ss) = refl
