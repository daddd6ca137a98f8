-- An instruction makes a charge exactly where one is pending.
use Rattle.std.proofs.Common.{◌≡◌, ℕ, ◌+◌, ◌-◌, Bool, true, false, List, [], ◌∷◌, ◌++◌, length, Option, Some, None, Result, Ok, Err, refl, ◌∙◌, codes}
use Rattle.std.specs.Prelude.{slice_get, nat_lt, if◌then◌else◌}
use Rattle.nb_value.specs.declared.value.Value.{Value, out-Value}
use Rattle.nb_value.specs.declared.value.Value.TheOpen as value
use Rattle.nb_value.specs.declared.value.Value.TheVariants as V
use Rattle.nb_value.specs.declared.pairs.Field.{Field}
use Rattle.nb_value.specs.declared.outcome.Answer.{Answer}
use Rattle.nb_value.specs.declared.outcome.ErrorKind.TheVariants.{OutOfFuel}
use Rattle.nb_value.specs.Value.{size}
use Rattle.nb_builtins.specs.Apply.{called}
use Rattle.nb_eval.specs.declared.given.Segment.{Segment}
use Rattle.nb_eval.specs.declared.state.State.{State}
use Rattle.nb_eval.specs.declared.stop.Stop.{Stop}
use Rattle.nb_eval.specs.declared.stop.Stop.TheVariants.{Failed}
use Rattle.nb_eval.specs.Locals.{place}
use Rattle.nb_eval.specs.Run.{Run, Out, after, ◌>>=◌, lift, error, charge, keep, assign, assign_at, cut_to, truth_of, items_of, within_depth, answered, ask_at, ask, yielded, cleaned, thrown}
use Rattle.nb_eval.specs.Operate.{summed, multiplied, compared, signed, field_of, part_of}
use Rattle.nb_machine.specs.declared.instr.Instr.{Instr}
use Rattle.nb_machine.specs.declared.instr.Instr.TheVariants as i
use Rattle.nb_machine.specs.declared.instr.Slot.{Slot}
use Rattle.nb_machine.specs.declared.instr.Slot.TheVariants as slot
use Rattle.nb_machine.specs.Machine.{Spot, Goes, value_on, values_on, fields_on, turns_on, mark_on, to, gives, acts, owed, turns_left, take_turn, text_of, does, does_if}
use Rattle.nb_machine.specs.Suspended.{owes, is_pending}

abbrev pub Calm : (A : Type 0) → State → Out A → Type 0
Calm A s o = o.1.charges ≡ s.charges

calm_if : (A : Type 0) (s : State) (b : Bool) (x y : Out A) → Calm A s x → Calm A s y → Calm A s (if b then x else y)
calm_if A s true x y hx hy = hx
calm_if A s false x y hx hy = hy

calm_after : (A B : Type 0) (f : A → Run B) (s : State) (r : Result A Stop) (u : State) → u.charges ≡ s.charges → ((a : A) (t : State) → Calm B t (f a t)) → Calm B s (after r u f)
calm_after A B f s (Ok a) u h k = k a u ∙ h
calm_after A B f s (Err e) u h k = h

calm_both : (A B : Type 0) (p : Run A) (f : A → Run B) (s : State) → Calm A s (p s) → ((a : A) (t : State) → Calm B t (f a t)) → Calm B s ((p >>= f) s)
calm_both A B p f s h k = calm_after A B f s (p s).0 (p s).1 h k

given : (p : Spot) (ss : List Slot) (d : Run Value) (s : State) → Calm Value s (d s) → Calm Spot s (gives p ss d s)
given p ss d s h = calm_both Value Spot d (λ v. to p (slot.Value v ∷ ss)) s h (λ v t. refl)

acted : (p : Spot) (ss : List Slot) (d : Run (Unit {0})) (s : State) → Calm (Unit {0}) s (d s) → Calm Spot s (acts p ss d s)
acted p ss d s h = calm_both (Unit {0}) Spot d (λ u. to p ss) s h (λ u t. refl)

of_assign_at : (at : Option ℕ) (name : List ℕ) (v : Value) (s : State) → Calm (Unit {0}) s (assign_at at name v s)
of_assign_at None name v s = refl
of_assign_at (Some at) name v s = refl

of_clean : (v : Value) (s : State) → Calm (Unit {0}) s (cleaned v s)
of_clean v s = calm_if (Unit {0}) s (nat_lt 1024 (size v)) _ _ refl (calm_if (Unit {0}) s (nat_lt (length s.cleanups) 16) _ _ refl refl)

of_answer : (o : Option Answer) (key : List ℕ) (s : State) → Calm Value s (answered o key s)
of_answer None key s = refl
of_answer (Some a) key s = refl

of_yield : (g : Segment) (v : Value) (s : State) → Calm (Unit {0}) s (yielded g v s)
of_yield g v s = calm_if (Unit {0}) s (nat_lt 16384 (size v)) _ _ refl (calm_if (Unit {0}) s (nat_lt (length (s.yields ++ v ∷ [])) g.pulls) _ _ refl refl)

of_ask_at : (g : Segment) (x : value.Value-F Value) (s : State) → Calm Value s (ask_at g x s)
of_ask_at g (value.Text key) s = calm_if Value s (nat_lt 1024 (1 + length key)) _ _ refl (calm_if Value s (nat_lt s.fetches 64) _ _ (of_answer (slice_get g.answers s.taken) key (record s { fetches = s.fetches + 1 })) refl)
of_ask_at g x s = refl

on_value : (ss : List Slot) (f : Value → List Slot → Goes) (s : State) → ((v : Value) (rest : List Slot) → Calm Spot s (f v rest s)) → Calm Spot s (value_on ss f s)
on_value (slot.Value v ∷ ss) f s k = k v ss
on_value [] f s k = refl
on_value (slot.Unpaid ∷ ss) f s k = refl
on_value (slot.Values vs ∷ ss) f s k = refl
on_value (slot.Fields fs ∷ ss) f s k = refl
on_value (slot.Turns vs ∷ ss) f s k = refl
on_value (slot.Mark n ∷ ss) f s k = refl

on_values : (ss : List Slot) (f : List Value → List Slot → Goes) (s : State) → ((vs : List Value) (rest : List Slot) → Calm Spot s (f vs rest s)) → Calm Spot s (values_on ss f s)
on_values (slot.Values vs ∷ ss) f s k = k vs ss
on_values [] f s k = refl
on_values (slot.Value v ∷ ss) f s k = refl
on_values (slot.Unpaid ∷ ss) f s k = refl
on_values (slot.Fields fs ∷ ss) f s k = refl
on_values (slot.Turns vs ∷ ss) f s k = refl
on_values (slot.Mark n ∷ ss) f s k = refl

on_fields : (ss : List Slot) (f : List (Field Value) → List Slot → Goes) (s : State) → ((fs : List (Field Value)) (rest : List Slot) → Calm Spot s (f fs rest s)) → Calm Spot s (fields_on ss f s)
on_fields (slot.Fields fs ∷ ss) f s k = k fs ss
on_fields [] f s k = refl
on_fields (slot.Value v ∷ ss) f s k = refl
on_fields (slot.Unpaid ∷ ss) f s k = refl
on_fields (slot.Values vs ∷ ss) f s k = refl
on_fields (slot.Turns vs ∷ ss) f s k = refl
on_fields (slot.Mark n ∷ ss) f s k = refl

on_turns : (ss : List Slot) (f : List Value → List Slot → Goes) (s : State) → ((vs : List Value) (rest : List Slot) → Calm Spot s (f vs rest s)) → Calm Spot s (turns_on ss f s)
on_turns (slot.Turns vs ∷ ss) f s k = k vs ss
on_turns [] f s k = refl
on_turns (slot.Value v ∷ ss) f s k = refl
on_turns (slot.Unpaid ∷ ss) f s k = refl
on_turns (slot.Values vs ∷ ss) f s k = refl
on_turns (slot.Fields fs ∷ ss) f s k = refl
on_turns (slot.Mark n ∷ ss) f s k = refl

on_mark : (ss : List Slot) (f : ℕ → List Slot → Goes) (s : State) → ((n : ℕ) (rest : List Slot) → Calm Spot s (f n rest s)) → Calm Spot s (mark_on ss f s)
on_mark (slot.Mark n ∷ ss) f s k = k n ss
on_mark [] f s k = refl
on_mark (slot.Value v ∷ ss) f s k = refl
on_mark (slot.Unpaid ∷ ss) f s k = refl
on_mark (slot.Values vs ∷ ss) f s k = refl
on_mark (slot.Fields fs ∷ ss) f s k = refl
on_mark (slot.Turns vs ∷ ss) f s k = refl

of_owed : (ss : List Slot) (s : State) → owes ss ≡ false → Calm (Unit {0}) s (owed ss s)
of_owed [] s h = refl
of_owed (slot.Value v ∷ ss) s h = absurd (cc)
of_owed (slot.Unpaid ∷ ss) s h = absurd (cc)
of_owed (slot.Values vs ∷ ss) s h = refl
of_owed (slot.Fields fs ∷ ss) s h = refl
of_owed (slot.Turns vs ∷ ss) s h = refl
of_owed (slot.Mark n ∷ ss) s h = refl

left_of : (p : Spot) (skip : ℕ) (vs : List Value) (ss : List Slot) (s : State) → Calm Spot s (turns_left p skip vs ss s)
left_of p skip [] ss s = refl
left_of p skip (v ∷ vs) ss s = refl

taken : (p : Spot) (name : List ℕ) (vs : List Value) (ss : List Slot) (s : State) → Calm Spot s (take_turn p name vs ss s)
taken p name [] ss s = refl
taken p name (v ∷ vs) ss s = refl

module _ (g : Segment) where
  does_calm : (x : Instr) (p : Spot) (s : State) → is_pending (Some x) p.slots ≡ false → Calm Spot s (does g x p s)
  does_calm (i.Const v) p s h = refl
  does_calm (i.Name n) p s h = refl
  does_calm i.Charge p s h = acted p p.slots (owed p.slots) s (of_owed p.slots s h)
  does_calm i.Values p s h = refl
  does_calm i.Append p s h = on_value p.slots _ s (λ v ss. on_values ss _ s (λ vs rest. refl))
  does_calm i.List p s h = on_values p.slots _ s (λ vs ss. given p ss (lift (within_depth (V.List vs))) s refl)
  does_calm (i.Call f) p s h = on_values p.slots _ s (λ vs ss. calm_both Value Spot (lift (called f vs)) _ s refl (λ v t. refl))
  does_calm i.Fields p s h = refl
  does_calm (i.Put n) p s h = on_value p.slots _ s (λ v ss. on_fields ss _ s (λ fs rest. refl))
  does_calm i.Record p s h = on_fields p.slots _ s (λ fs ss. given p ss (lift (within_depth (V.Rec fs))) s refl)
  does_calm (i.Field n) p s h = on_value p.slots _ s (λ v ss. given p ss (lift (field_of n v)) s refl)
  does_calm i.At p s h = on_value p.slots _ s (λ at ss. on_value ss _ s (λ v rest. given p rest (lift (part_of v at)) s refl))
  does_calm (i.Unary sign) p s h = on_value p.slots _ s (λ v ss. given p ss (lift (signed sign v)) s refl)
  does_calm (i.Product sign) p s h = on_value p.slots _ s (λ w ss. on_value ss _ s (λ v rest. given p rest (lift (multiplied sign v w)) s refl))
  does_calm (i.Sum sign) p s h = on_value p.slots _ s (λ w ss. on_value ss _ s (λ v rest. given p rest (lift (summed sign v w)) s refl))
  does_calm (i.Compare sign) p s h = on_value p.slots _ s (λ w ss. on_value ss _ s (λ v rest. given p rest (lift (compared sign v w)) s refl))
  does_calm i.Fetch p s h = on_value p.slots _ s (λ key ss. given p ss (ask g key) s (of_ask_at g (out-Value key) s))
  does_calm (i.Unless w skip) p s h = on_value p.slots _ s (λ v ss. calm_both Bool Spot (lift (truth_of (text_of w) v)) _ s refl (λ b t. refl))
  does_calm (i.When w skip) p s h = on_value p.slots _ s (λ v ss. calm_both Bool Spot (lift (truth_of (text_of w) v)) _ s refl (λ b t. refl))
  does_calm (i.Go skip) p s h = refl
  does_calm (i.Back n) p s h = refl
  does_calm i.Tick p s h = absurd (cc)
  does_calm (i.Let n) p s h = on_value p.slots _ s (λ v ss. acted p ss (keep n v) s refl)
  does_calm (i.Assign n) p s h = on_value p.slots _ s (λ v ss. acted p ss (assign n v) s (of_assign_at (place n s.locals) n v s))
  does_calm i.Enter p s h = refl
  does_calm i.Leave p s h = on_mark p.slots _ s (λ n ss. acted p ss (cut_to n) s refl)
  does_calm i.Turns p s h = on_value p.slots _ s (λ v ss. calm_both (List Value) Spot (lift (items_of (codes "for") v)) _ s refl (λ vs t. refl))
  does_calm (i.Next skip) p s h = on_turns p.slots _ s (λ vs ss. left_of p skip vs ss s)
  does_calm (i.Take n) p s h = on_turns p.slots _ s (λ vs ss. taken p n vs ss s)
  does_calm i.Yield p s h = on_value p.slots _ s (λ v ss. acted p ss (yielded g v) s (of_yield g v s))
  does_calm i.Return p s h = on_value p.slots _ s (λ v ss. refl)
  does_calm i.Throw p s h = on_value p.slots _ s (λ v ss. acted p ss (lift (thrown v)) s refl)
  does_calm i.Cleanup p s h = on_value p.slots _ s (λ v ss. acted p ss (cleaned v) s (of_clean v s))

  -- no charge where none is pending
  pub step_calm : (o : Option Instr) (p : Spot) (s : State) → is_pending o p.slots ≡ false → (does_if g o p s).1.charges ≡ s.charges
  step_calm None p s h = refl
  step_calm (Some x) p s h = does_calm x p s h

  -- ---- and one where one is

  charged : (n : ℕ) (p : Spot) (ss : List Slot) (s : State) → (acts p ss (charge n) s).1.charges ≡ s.charges + 1
  charged n p ss s = by_fuel (nat_lt s.fuel n)
    where
      out : Bool → Out (Unit {0})
      out b = if b then (Err (Failed (error OutOfFuel [])), record s { charges = s.charges + 1 }) else (Ok tt, record s { fuel = s.fuel - n; charges = s.charges + 1 })

      by_fuel : (b : Bool) → (after (out b).0 (out b).1 (λ u. to p ss)).1.charges ≡ s.charges + 1
      by_fuel true = refl
      by_fuel false = refl

  owed_counts : (us : List Slot) (p : Spot) (ss : List Slot) (s : State) → owes us ≡ true → (acts p ss (owed us) s).1.charges ≡ s.charges + 1
  owed_counts [] p ss s h = absurd (cc)
  owed_counts (slot.Value v ∷ us) p ss s h = charged (1 + size v) p ss s
  owed_counts (slot.Unpaid ∷ us) p ss s h = refl
  owed_counts (slot.Values vs ∷ us) p ss s h = absurd (cc)
  owed_counts (slot.Fields fs ∷ us) p ss s h = absurd (cc)
  owed_counts (slot.Turns vs ∷ us) p ss s h = absurd (cc)
  owed_counts (slot.Mark n ∷ us) p ss s h = absurd (cc)

  pub step_counts : (o : Option Instr) (p : Spot) (s : State) → is_pending o p.slots ≡ true → (does_if g o p s).1.charges ≡ s.charges + 1
  step_counts (Some i.Charge) p s h = owed_counts p.slots p p.slots s h
  step_counts (Some i.Tick) p s h = charged 1 p p.slots s
  step_counts o p s h = absurd (cc)
