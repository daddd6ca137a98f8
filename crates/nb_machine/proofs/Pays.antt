-- What an instruction charges is paid for.
use Rattle.std.proofs.Common.{◌≡◌, ℕ, ◌+◌, ◌-◌, Bool, true, false, List, [], ◌∷◌, ◌++◌, length, Option, Some, None, Result, Ok, Err, refl, ◌∙◌, codes}
use Rattle.std.specs.Prelude.{take, slice_get, slice_set, nat_lt, if◌then◌else◌}
use Rattle.nb_value.specs.declared.value.Value.{Value, out-Value}
use Rattle.nb_value.specs.declared.value.Value.TheOpen as value
use Rattle.nb_value.specs.declared.value.Value.TheVariants as V
use Rattle.nb_value.specs.declared.pairs.Field.{Field}
use Rattle.nb_value.specs.declared.outcome.Answer.{Answer}
use Rattle.nb_value.specs.declared.outcome.ErrorKind.TheVariants.{OutOfFuel}
use Rattle.nb_value.specs.Value.{size}
use Rattle.nb_builtins.specs.Apply.{called}
use Rattle.nb_eval.specs.declared.given.Segment.{Segment}
use Rattle.nb_eval.specs.declared.state.State.{State}
use Rattle.nb_eval.specs.declared.stop.Stop.{Stop}
use Rattle.nb_eval.specs.declared.stop.Stop.TheVariants.{Failed}
use Rattle.nb_eval.specs.Locals.{name_value, place}
use Rattle.nb_eval.specs.Run.{Run, Out, Called, after, ◌>>=◌, lift, tick, read, error, charge, keep, assign, assign_at, cut_to, truth_of, items_of, within_depth, answered, ask_at, ask, yielded, cleaned, thrown}
use Rattle.nb_eval.specs.Operate.{summed, multiplied, compared, signed, field_of, part_of}
use Rattle.nb_machine.specs.declared.instr.Instr.{Instr}
use Rattle.nb_machine.specs.declared.instr.Instr.TheVariants as i
use Rattle.nb_machine.specs.declared.instr.Slot.{Slot}
use Rattle.nb_machine.specs.declared.instr.Slot.TheVariants as slot
use Rattle.nb_machine.specs.Machine.{Spot, Goes, value_on, values_on, fields_on, turns_on, mark_on, to, gives, acts, owed, turns_left, take_turn, text_of, does, does_if}
use Rattle.nb_machine.specs.Suspended.{owes, is_pending}
use Rattle.nb_eval.proofs.Closed.{Closed}
use Rattle.nb_eval.proofs.Spending.{WentTo, Pays, Weak, Strong, closed, pays_same}

-- what went on has paid for its charges, of its fuel or of that of the pulls to come
module _ (g : Segment) where
  abbrev pub Paid : (A : Type 0) → State → Out A → Type 0
  Paid A s o = WentTo A (Pays g s) o.0 o.1

  c : Closed false true g g (Weak g) (Strong g)
  c = closed g

  same : (s : State) → Pays g s s
  same s = pays_same g s s refl refl refl

  of_locals : (ls : List (Field Value)) (s : State) → Pays g s (record s { locals = ls })
  of_locals ls s = pays_same g s (record s { locals = ls }) refl refl refl

  both : (A B : Type 0) (p : Run A) (f : A → Run B) (s : State) → Paid A s (p s) → ((a : A) (t : State) → Paid B t (f a t)) → Paid B s ((p >>= f) s)
  both A B p f s h k = c.of_bind A B p p f f s h k

  given : (p : Spot) (ss : List Slot) (d : Run Value) (s : State) → Paid Value s (d s) → Paid Spot s (gives p ss d s)
  given p ss d s h = both Value Spot d (λ v. to p (slot.Value v ∷ ss)) s h (λ v t. same t)

  acted : (p : Spot) (ss : List Slot) (d : Run (Unit {0})) (s : State) → Paid (Unit {0}) s (d s) → Paid Spot s (acts p ss d s)
  acted p ss d s h = both (Unit {0}) Spot d (λ u. to p ss) s h (λ u t. same t)

  of_lift : (A : Type 0) (r : Called A) (s : State) → Paid A s (lift r s)
  of_lift A (Ok a) s = same s
  of_lift A (Err e) s = tt

  of_charge : (n : ℕ) (s : State) → Paid (Unit {0}) s (charge (1 + n) s)
  of_charge n s = c.weaken (Unit {0}) s (charge (1 + n) s) (charge (1 + n) s) (c.strong_charge n s)

  of_assign_at : (at : Option ℕ) (name : List ℕ) (v : Value) (s : State) → Paid (Unit {0}) s (assign_at at name v s)
  of_assign_at None name v s = tt
  of_assign_at (Some at) name v s = of_locals (slice_set s.locals at (name_value name v)) s

  of_ask_at : (x : value.Value-F Value) (s : State) → Paid Value s (ask_at g x s)
  of_ask_at (value.Text key) s = c.of_ask refl key s
  of_ask_at x s = tt

  of_owed : (ss : List Slot) (s : State) → Paid (Unit {0}) s (owed ss s)
  of_owed (slot.Value v ∷ ss) s = of_charge (size v) s
  of_owed [] s = tt
  of_owed (slot.Unpaid ∷ ss) s = tt
  of_owed (slot.Values vs ∷ ss) s = tt
  of_owed (slot.Fields fs ∷ ss) s = tt
  of_owed (slot.Turns vs ∷ ss) s = tt
  of_owed (slot.Mark n ∷ ss) s = tt

  left_of : (p : Spot) (skip : ℕ) (vs : List Value) (ss : List Slot) (s : State) → Paid Spot s (turns_left p skip vs ss s)
  left_of p skip [] ss s = same s
  left_of p skip (v ∷ vs) ss s = same s

  taken : (p : Spot) (name : List ℕ) (vs : List Value) (ss : List Slot) (s : State) → Paid Spot s (take_turn p name vs ss s)
  taken p name [] ss s = tt
  taken p name (v ∷ vs) ss s = of_locals (s.locals ++ name_value name v ∷ []) s

  on_value : (ss : List Slot) (f : Value → List Slot → Goes) (s : State) → ((v : Value) (rest : List Slot) → Paid Spot s (f v rest s)) → Paid Spot s (value_on ss f s)
  on_value (slot.Value v ∷ ss) f s k = k v ss
  on_value [] f s k = tt
  on_value (slot.Unpaid ∷ ss) f s k = tt
  on_value (slot.Values vs ∷ ss) f s k = tt
  on_value (slot.Fields fs ∷ ss) f s k = tt
  on_value (slot.Turns vs ∷ ss) f s k = tt
  on_value (slot.Mark n ∷ ss) f s k = tt

  on_values : (ss : List Slot) (f : List Value → List Slot → Goes) (s : State) → ((vs : List Value) (rest : List Slot) → Paid Spot s (f vs rest s)) → Paid Spot s (values_on ss f s)
  on_values (slot.Values vs ∷ ss) f s k = k vs ss
  on_values [] f s k = tt
  on_values (slot.Value v ∷ ss) f s k = tt
  on_values (slot.Unpaid ∷ ss) f s k = tt
  on_values (slot.Fields fs ∷ ss) f s k = tt
  on_values (slot.Turns vs ∷ ss) f s k = tt
  on_values (slot.Mark n ∷ ss) f s k = tt

  on_fields : (ss : List Slot) (f : List (Field Value) → List Slot → Goes) (s : State) → ((fs : List (Field Value)) (rest : List Slot) → Paid Spot s (f fs rest s)) → Paid Spot s (fields_on ss f s)
  on_fields (slot.Fields fs ∷ ss) f s k = k fs ss
  on_fields [] f s k = tt
  on_fields (slot.Value v ∷ ss) f s k = tt
  on_fields (slot.Unpaid ∷ ss) f s k = tt
  on_fields (slot.Values vs ∷ ss) f s k = tt
  on_fields (slot.Turns vs ∷ ss) f s k = tt
  on_fields (slot.Mark n ∷ ss) f s k = tt

  on_turns : (ss : List Slot) (f : List Value → List Slot → Goes) (s : State) → ((vs : List Value) (rest : List Slot) → Paid Spot s (f vs rest s)) → Paid Spot s (turns_on ss f s)
  on_turns (slot.Turns vs ∷ ss) f s k = k vs ss
  on_turns [] f s k = tt
  on_turns (slot.Value v ∷ ss) f s k = tt
  on_turns (slot.Unpaid ∷ ss) f s k = tt
  on_turns (slot.Values vs ∷ ss) f s k = tt
  on_turns (slot.Fields fs ∷ ss) f s k = tt
  on_turns (slot.Mark n ∷ ss) f s k = tt

  on_mark : (ss : List Slot) (f : ℕ → List Slot → Goes) (s : State) → ((n : ℕ) (rest : List Slot) → Paid Spot s (f n rest s)) → Paid Spot s (mark_on ss f s)
  on_mark (slot.Mark n ∷ ss) f s k = k n ss
  on_mark [] f s k = tt
  on_mark (slot.Value v ∷ ss) f s k = tt
  on_mark (slot.Unpaid ∷ ss) f s k = tt
  on_mark (slot.Values vs ∷ ss) f s k = tt
  on_mark (slot.Fields fs ∷ ss) f s k = tt
  on_mark (slot.Turns vs ∷ ss) f s k = tt

  does_pays : (x : Instr) (p : Spot) (s : State) → Paid Spot s (does g x p s)
  does_pays (i.Const v) p s = same s
  does_pays (i.Name n) p s = given p p.slots (read g n) s (same s)
  does_pays i.Charge p s = acted p p.slots (owed p.slots) s (of_owed p.slots s)
  does_pays i.Values p s = same s
  does_pays i.Append p s = on_value p.slots _ s (λ v ss. on_values ss _ s (λ vs rest. same s))
  does_pays i.List p s = on_values p.slots _ s (λ vs ss. given p ss (lift (within_depth (V.List vs))) s (of_lift Value (within_depth (V.List vs)) s))
  does_pays (i.Call f) p s = on_values p.slots _ s (λ vs ss. both Value Spot (lift (called f vs)) _ s (of_lift Value (called f vs) s) (λ v t. same t))
  does_pays i.Fields p s = same s
  does_pays (i.Put n) p s = on_value p.slots _ s (λ v ss. on_fields ss _ s (λ fs rest. same s))
  does_pays i.Record p s = on_fields p.slots _ s (λ fs ss. given p ss (lift (within_depth (V.Rec fs))) s (of_lift Value (within_depth (V.Rec fs)) s))
  does_pays (i.Field n) p s = on_value p.slots _ s (λ v ss. given p ss (lift (field_of n v)) s (of_lift Value (field_of n v) s))
  does_pays i.At p s = on_value p.slots _ s (λ at ss. on_value ss _ s (λ v rest. given p rest (lift (part_of v at)) s (of_lift Value (part_of v at) s)))
  does_pays (i.Unary sign) p s = on_value p.slots _ s (λ v ss. given p ss (lift (signed sign v)) s (of_lift Value (signed sign v) s))
  does_pays (i.Product sign) p s = on_value p.slots _ s (λ w ss. on_value ss _ s (λ v rest. given p rest (lift (multiplied sign v w)) s (of_lift Value (multiplied sign v w) s)))
  does_pays (i.Sum sign) p s = on_value p.slots _ s (λ w ss. on_value ss _ s (λ v rest. given p rest (lift (summed sign v w)) s (of_lift Value (summed sign v w) s)))
  does_pays (i.Compare sign) p s = on_value p.slots _ s (λ w ss. on_value ss _ s (λ v rest. given p rest (lift (compared sign v w)) s (of_lift Value (compared sign v w) s)))
  does_pays i.Fetch p s = on_value p.slots _ s (λ key ss. given p ss (ask g key) s (of_ask_at (out-Value key) s))
  does_pays (i.Unless w skip) p s = on_value p.slots _ s (λ v ss. both Bool Spot (lift (truth_of (text_of w) v)) _ s (of_lift Bool (truth_of (text_of w) v) s) (λ b t. same t))
  does_pays (i.When w skip) p s = on_value p.slots _ s (λ v ss. both Bool Spot (lift (truth_of (text_of w) v)) _ s (of_lift Bool (truth_of (text_of w) v) s) (λ b t. same t))
  does_pays (i.Go skip) p s = same s
  does_pays (i.Back n) p s = same s
  does_pays i.Tick p s = acted p p.slots tick s (of_charge 0 s)
  does_pays (i.Let n) p s = on_value p.slots _ s (λ v ss. acted p ss (keep n v) s (of_locals (s.locals ++ name_value n v ∷ []) s))
  does_pays (i.Assign n) p s = on_value p.slots _ s (λ v ss. acted p ss (assign n v) s (of_assign_at (place n s.locals) n v s))
  does_pays i.Enter p s = same s
  does_pays i.Leave p s = on_mark p.slots _ s (λ n ss. acted p ss (cut_to n) s (of_locals (take n s.locals) s))
  does_pays i.Turns p s = on_value p.slots _ s (λ v ss. both (List Value) Spot (lift (items_of (codes "for") v)) _ s (of_lift (List Value) (items_of (codes "for") v) s) (λ vs t. same t))
  does_pays (i.Next skip) p s = on_turns p.slots _ s (λ vs ss. left_of p skip vs ss s)
  does_pays (i.Take n) p s = on_turns p.slots _ s (λ vs ss. taken p n vs ss s)
  does_pays i.Yield p s = on_value p.slots _ s (λ v ss. acted p ss (yielded g v) s (c.of_yield refl refl v s))
  does_pays i.Return p s = on_value p.slots _ s (λ v ss. tt)
  does_pays i.Throw p s = on_value p.slots _ s (λ v ss. acted p ss (lift (thrown v)) s (of_lift (Unit {0}) (thrown v) s))
  does_pays i.Cleanup p s = on_value p.slots _ s (λ v ss. acted p ss (cleaned v) s (c.of_clean refl v s))

  pub step_pays : (o : Option Instr) (p : Spot) (s : State) → Paid Spot s (does_if g o p s)
  step_pays None p s = tt
  step_pays (Some x) p s = does_pays x p s
