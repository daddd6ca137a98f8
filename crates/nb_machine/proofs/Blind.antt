-- An instruction sees of the yields no more than their number, and leaves no more than their number and the last.
use Rattle.std.proofs.Common.{◌≡◌, ℕ, ◌+◌, ◌-◌, Bool, true, false, List, [], ◌∷◌, ◌++◌, length, take, Option, Some, None, Result, Ok, Err, refl, sym, ap, ◌∙◌, subst, codes, arith, length-append}
use Rattle.std.specs.Prelude.{slice_get, slice_set, nat_lt, if◌then◌else◌}
use Rattle.nb_value.specs.declared.value.Value.{Value, out-Value}
use Rattle.nb_value.specs.declared.value.Value.TheOpen as value
use Rattle.nb_value.specs.declared.value.Value.TheVariants as V
use Rattle.nb_value.specs.declared.pairs.Field.{Field}
use Rattle.nb_value.specs.declared.outcome.Answer.{Answer}
use Rattle.nb_value.specs.declared.outcome.ErrorKind.TheVariants.{OutOfFuel, WrongKind}
use Rattle.nb_value.specs.Value.{size}
use Rattle.nb_builtins.specs.Apply.{called}
use Rattle.nb_eval.specs.declared.given.Segment.{Segment}
use Rattle.nb_eval.specs.declared.state.State.{State}
use Rattle.nb_eval.specs.declared.stop.Stop.{Stop}
use Rattle.nb_eval.specs.declared.stop.Stop.TheVariants as stops
use Rattle.nb_eval.specs.Locals.{place, name_value}
use Rattle.nb_eval.specs.Run.{Run, Out, Called, after, ◌>>=◌, lift, settled, failed, value_of, full_fuel, error, charge, tick, read, keep, assign, assign_at, cut_to, truth_of, items_of, within_depth, answered, ask_text, ask_at, ask, yielded, cleaned, thrown}
use Rattle.nb_eval.specs.Operate.{summed, multiplied, compared, signed, field_of, part_of}
use Rattle.nb_eval.specs.Evaluation.{last_of}
use Rattle.nb_machine.specs.declared.instr.Instr.{Instr}
use Rattle.nb_machine.specs.declared.instr.Instr.TheVariants as i
use Rattle.nb_machine.specs.declared.instr.Slot.{Slot}
use Rattle.nb_machine.specs.declared.instr.Slot.TheVariants as slot
use Rattle.nb_machine.specs.Machine.{Spot, spot, Goes, value_on, values_on, fields_on, turns_on, mark_on, to, gives, acts, owed, billed, jump, unless, turns_left, take_turn, text_of, does, does_if}
use Rattle.nb_machine.specs.Held.{Held, hold, with_yields}

-- the last of a list with one more
pub last_added : (ys : List Value) (v : Value) → last_of (ys ++ v ∷ []) ≡ Some v
last_added [] v = refl
last_added (y ∷ []) v = refl
last_added (y ∷ z ∷ ys) v = last_added (z ∷ ys) v

-- the same result, and states that are held alike
abbrev pub Alike : (A : Type 0) → Out A → Out A → Type 0
Alike A o o' = (o.0 ≡ o'.0) × (hold o.1 ≡ hold o'.1)

abbrev pub Blind : (A : Type 0) → Run A → Type 0
Blind A p = (s t : State) → hold s ≡ hold t → Alike A (p s) (p t)

-- from other yields alone
abbrev OverYields : (A : Type 0) → Run A → Type 0
OverYields A p = (h : Held) (ys zs : List Value) → length ys ≡ length zs → last_of ys ≡ last_of zs → Alike A (p (with_yields h ys)) (p (with_yields h zs))

over : (A : Type 0) (p : Run A) → OverYields A p → Blind A p
over A p k s t h =
    let m = k (hold s) s.yields t.yields (ap (λ (x : Held). x.made) h) (ap (λ (x : Held). x.last) h) in
    subst (λ (x : Held). Alike A (p s) (p (with_yields x t.yields))) h m

-- two states that differ in yields alone
same_held : (h : Held) (ys zs : List Value) → length ys ≡ length zs → last_of ys ≡ last_of zs → hold (with_yields h ys) ≡ hold (with_yields h zs)
same_held h ys zs l m =
    let kept : ℕ → Option Value → Held = λ n x. record { state = record h.state { yields = [] }; made = n; last = x } in
    ap (λ n. kept n (last_of ys)) l ∙ ap (λ x. kept (length zs) x) m

quiet : (A : Type 0) (r : Result A Stop) (h : Held) (ys zs : List Value) → length ys ≡ length zs → last_of ys ≡ last_of zs → Alike A (r, with_yields h ys) (r, with_yields h zs)
quiet A r h ys zs l m = (refl, same_held h ys zs l m)

alike_if : (A : Type 0) (b : Bool) (x x' y y' : Out A) → Alike A x x' → Alike A y y' → Alike A (if b then x else y) (if b then x' else y')
alike_if A true x x' y y' hx hy = hx
alike_if A false x x' y y' hx hy = hy

-- a result that doesn't read the state
pub fixed : (A : Type 0) (r : Result A Stop) → Blind A (λ s. (r, s))
fixed A r s t h = (refl, h)

module _ (A B : Type 0) (f : A → Run B) (k : (a : A) → Blind B (f a)) where
  by_result : (r r' : Result A Stop) (s t : State) → r ≡ r' → hold s ≡ hold t → Alike B (after r s f) (after r' t f)
  by_result (Ok a) r' s t e h = subst (λ (z : Result A Stop). Alike B (f a s) (after z t f)) e (k a s t h)
  by_result (Err x) r' s t e h = subst (λ (z : Result A Stop). Alike B (Err x, s) (after z t f)) e (refl, h)

  blind_then : (p : Run A) → Blind A p → Blind B (p >>= f)
  blind_then p hp s t h = let m = hp s t h in by_result (p s).0 (p t).0 (p s).1 (p t).1 m.0 m.1

-- ---- what instructions are made of

of_charge : (n : ℕ) → Blind (Unit {0}) (charge n)
of_charge n = over (Unit {0}) (charge n) (λ h ys zs l m. alike_if (Unit {0}) (nat_lt h.state.fuel n) _ _ _ _
    (quiet (Unit {0}) (Err (stops.Failed (error OutOfFuel []))) (record h { state = record h.state { charges = h.state.charges + 1 } }) ys zs l m)
    (quiet (Unit {0}) (Ok tt) (record h { state = record h.state { fuel = h.state.fuel - n; charges = h.state.charges + 1 } }) ys zs l m))

of_lift : (A : Type 0) (r : Called A) → Blind A (lift r)
of_lift A r = fixed A (settled r)

of_read : (g : Segment) (name : List ℕ) → Blind Value (read g name)
of_read g name = over Value (read g name) (λ h ys zs l m. quiet Value _ h ys zs l m)

of_keep : (name : List ℕ) (v : Value) → Blind (Unit {0}) (keep name v)
of_keep name v = over (Unit {0}) (keep name v) (λ h ys zs l m. quiet (Unit {0}) (Ok tt) (record h { state = record h.state { locals = h.state.locals ++ name_value name v ∷ [] } }) ys zs l m)

of_cut : (n : ℕ) → Blind (Unit {0}) (cut_to n)
of_cut n = over (Unit {0}) (cut_to n) (λ h ys zs l m. quiet (Unit {0}) (Ok tt) (record h { state = record h.state { locals = take n h.state.locals } }) ys zs l m)

of_assign_at : (at : Option ℕ) (name : List ℕ) (v : Value) → OverYields (Unit {0}) (assign_at at name v)
of_assign_at None name v h ys zs l m = quiet (Unit {0}) _ h ys zs l m
of_assign_at (Some at) name v h ys zs l m = quiet (Unit {0}) (Ok tt) (record h { state = record h.state { locals = slice_set h.state.locals at (name_value name v) } }) ys zs l m

of_assign : (name : List ℕ) (v : Value) → Blind (Unit {0}) (assign name v)
of_assign name v = over (Unit {0}) (assign name v) (λ h ys zs l m. of_assign_at (place name h.state.locals) name v h ys zs l m)

of_clean : (v : Value) → Blind (Unit {0}) (cleaned v)
of_clean v = over (Unit {0}) (cleaned v) (λ h ys zs l m. alike_if (Unit {0}) (nat_lt 1024 (size v)) _ _ _ _ (quiet (Unit {0}) _ h ys zs l m)
    (alike_if (Unit {0}) (nat_lt (length h.state.cleanups) 16) _ _ _ _ (quiet (Unit {0}) (Ok tt) (record h { state = record h.state { cleanups = h.state.cleanups ++ v ∷ [] } }) ys zs l m) (quiet (Unit {0}) _ h ys zs l m)))

of_answer : (o : Option Answer) (key : List ℕ) → OverYields Value (answered o key)
of_answer None key h ys zs l m = quiet Value (Err (stops.Needs key)) h ys zs l m
of_answer (Some a) key h ys zs l m = quiet Value (settled (value_of a)) (record h { state = record h.state { taken = h.state.taken + 1 } }) ys zs l m

of_ask_at : (g : Segment) (x : value.Value-F Value) → Blind Value (ask_at g x)
of_ask_at g (value.Text key) = over Value (ask_text g key) (λ h ys zs l m. alike_if Value (nat_lt 1024 (1 + length key)) _ _ _ _ (quiet Value _ h ys zs l m)
    (alike_if Value (nat_lt h.state.fetches 64) _ _ _ _ (of_answer (slice_get g.answers h.state.taken) key (record h { state = record h.state { fetches = h.state.fetches + 1 } }) ys zs l m) (quiet Value _ h ys zs l m)))
of_ask_at g x = of_lift Value (failed WrongKind (codes "fetch"))

of_yield : (g : Segment) (v : Value) → Blind (Unit {0}) (yielded g v)
of_yield g v = over (Unit {0}) (yielded g v) (λ h ys zs l m.
    let l' : length (ys ++ v ∷ []) ≡ length (zs ++ v ∷ []) = omega (arith, l, length-append ys (v ∷ []), length-append zs (v ∷ [])) in
    let m' = last_added ys v ∙ sym (last_added zs v) in
    let on : Bool → List Value → Out (Unit {0}) = λ b us. if b then (Ok tt, with_yields (record h { state = record h.state { fuel = full_fuel; fetches = 0 } }) us) else (Err stops.Paused, with_yields h us) in
    alike_if (Unit {0}) (nat_lt 16384 (size v)) _ _ _ _ (quiet (Unit {0}) _ h ys zs l m)
    (subst (λ (n : ℕ). Alike (Unit {0}) (on (nat_lt (length (ys ++ v ∷ [])) g.pulls) (ys ++ v ∷ [])) (on (nat_lt n g.pulls) (zs ++ v ∷ []))) l'
    (alike_if (Unit {0}) (nat_lt (length (ys ++ v ∷ [])) g.pulls) _ _ _ _ (quiet (Unit {0}) (Ok tt) (record h { state = record h.state { fuel = full_fuel; fetches = 0 } }) (ys ++ v ∷ []) (zs ++ v ∷ []) l' m') (quiet (Unit {0}) (Err stops.Paused) h (ys ++ v ∷ []) (zs ++ v ∷ []) l' m'))))

of_owed : (ss : List Slot) → Blind (Unit {0}) (owed ss)
of_owed (slot.Value v ∷ ss) = of_charge (1 + size v)
of_owed (slot.Unpaid ∷ ss) = over (Unit {0}) (owed (slot.Unpaid ∷ ss)) (λ h ys zs l m. quiet (Unit {0}) (Err (stops.Failed (error OutOfFuel []))) (record h { state = record h.state { charges = h.state.charges + 1 } }) ys zs l m)
of_owed [] = fixed (Unit {0}) (Err stops.Memory)
of_owed (slot.Values vs ∷ ss) = fixed (Unit {0}) (Err stops.Memory)
of_owed (slot.Fields fs ∷ ss) = fixed (Unit {0}) (Err stops.Memory)
of_owed (slot.Turns vs ∷ ss) = fixed (Unit {0}) (Err stops.Memory)
of_owed (slot.Mark n ∷ ss) = fixed (Unit {0}) (Err stops.Memory)

on_value : (ss : List Slot) (f : Value → List Slot → Goes) → ((v : Value) (rest : List Slot) → Blind Spot (f v rest)) → Blind Spot (value_on ss f)
on_value (slot.Value v ∷ ss) f k = k v ss
on_value [] f k = fixed Spot (Err stops.Memory)
on_value (slot.Unpaid ∷ ss) f k = fixed Spot (Err stops.Memory)
on_value (slot.Values vs ∷ ss) f k = fixed Spot (Err stops.Memory)
on_value (slot.Fields fs ∷ ss) f k = fixed Spot (Err stops.Memory)
on_value (slot.Turns vs ∷ ss) f k = fixed Spot (Err stops.Memory)
on_value (slot.Mark n ∷ ss) f k = fixed Spot (Err stops.Memory)

on_values : (ss : List Slot) (f : List Value → List Slot → Goes) → ((vs : List Value) (rest : List Slot) → Blind Spot (f vs rest)) → Blind Spot (values_on ss f)
on_values (slot.Values vs ∷ ss) f k = k vs ss
on_values [] f k = fixed Spot (Err stops.Memory)
on_values (slot.Value v ∷ ss) f k = fixed Spot (Err stops.Memory)
on_values (slot.Unpaid ∷ ss) f k = fixed Spot (Err stops.Memory)
on_values (slot.Fields fs ∷ ss) f k = fixed Spot (Err stops.Memory)
on_values (slot.Turns vs ∷ ss) f k = fixed Spot (Err stops.Memory)
on_values (slot.Mark n ∷ ss) f k = fixed Spot (Err stops.Memory)

on_fields : (ss : List Slot) (f : List (Field Value) → List Slot → Goes) → ((fs : List (Field Value)) (rest : List Slot) → Blind Spot (f fs rest)) → Blind Spot (fields_on ss f)
on_fields (slot.Fields fs ∷ ss) f k = k fs ss
on_fields [] f k = fixed Spot (Err stops.Memory)
on_fields (slot.Value v ∷ ss) f k = fixed Spot (Err stops.Memory)
on_fields (slot.Unpaid ∷ ss) f k = fixed Spot (Err stops.Memory)
on_fields (slot.Values vs ∷ ss) f k = fixed Spot (Err stops.Memory)
on_fields (slot.Turns vs ∷ ss) f k = fixed Spot (Err stops.Memory)
on_fields (slot.Mark n ∷ ss) f k = fixed Spot (Err stops.Memory)

on_turns : (ss : List Slot) (f : List Value → List Slot → Goes) → ((vs : List Value) (rest : List Slot) → Blind Spot (f vs rest)) → Blind Spot (turns_on ss f)
on_turns (slot.Turns vs ∷ ss) f k = k vs ss
on_turns [] f k = fixed Spot (Err stops.Memory)
on_turns (slot.Value v ∷ ss) f k = fixed Spot (Err stops.Memory)
on_turns (slot.Unpaid ∷ ss) f k = fixed Spot (Err stops.Memory)
on_turns (slot.Values vs ∷ ss) f k = fixed Spot (Err stops.Memory)
on_turns (slot.Fields fs ∷ ss) f k = fixed Spot (Err stops.Memory)
on_turns (slot.Mark n ∷ ss) f k = fixed Spot (Err stops.Memory)

on_mark : (ss : List Slot) (f : ℕ → List Slot → Goes) → ((n : ℕ) (rest : List Slot) → Blind Spot (f n rest)) → Blind Spot (mark_on ss f)
on_mark (slot.Mark n ∷ ss) f k = k n ss
on_mark [] f k = fixed Spot (Err stops.Memory)
on_mark (slot.Value v ∷ ss) f k = fixed Spot (Err stops.Memory)
on_mark (slot.Unpaid ∷ ss) f k = fixed Spot (Err stops.Memory)
on_mark (slot.Values vs ∷ ss) f k = fixed Spot (Err stops.Memory)
on_mark (slot.Fields fs ∷ ss) f k = fixed Spot (Err stops.Memory)
on_mark (slot.Turns vs ∷ ss) f k = fixed Spot (Err stops.Memory)

goes : (p : Spot) (ss : List Slot) → Blind Spot (to p ss)
goes p ss = fixed Spot (Ok (spot (p.pc + 1) ss))

given : (p : Spot) (ss : List Slot) (d : Run Value) → Blind Value d → Blind Spot (gives p ss d)
given p ss d h = blind_then Value Spot (λ v. to p (slot.Value v ∷ ss)) (λ v. goes p (slot.Value v ∷ ss)) d h

acted : (p : Spot) (ss : List Slot) (d : Run (Unit {0})) → Blind (Unit {0}) d → Blind Spot (acts p ss d)
acted p ss d h = blind_then (Unit {0}) Spot (λ u. to p ss) (λ u. goes p ss) d h

lifted : (A : Type 0) (r : Called A) (f : A → Goes) → ((a : A) → Blind Spot (f a)) → Blind Spot (lift r >>= f)
lifted A r f k = blind_then A Spot f k (lift r) (of_lift A r)

left_of : (p : Spot) (skip : ℕ) (vs : List Value) (ss : List Slot) → Blind Spot (turns_left p skip vs ss)
left_of p skip [] ss = fixed Spot (Ok (spot (p.pc + 1 + skip) ss))
left_of p skip (v ∷ vs) ss = goes p (slot.Turns (v ∷ vs) ∷ ss)

taken : (p : Spot) (name : List ℕ) (vs : List Value) (ss : List Slot) → Blind Spot (take_turn p name vs ss)
taken p name [] ss = fixed Spot (Err stops.Memory)
taken p name (v ∷ vs) ss = over Spot (take_turn p name (v ∷ vs) ss) (λ h ys zs l m. quiet Spot (Ok (spot (p.pc + 1) (slot.Mark (length h.state.locals) ∷ slot.Turns vs ∷ ss))) (record h { state = record h.state { locals = h.state.locals ++ name_value name v ∷ [] } }) ys zs l m)

module _ (g : Segment) where
  pub does_blind : (x : Instr) (p : Spot) → Blind Spot (does g x p)
  does_blind (i.Const v) p = goes p (slot.Value v ∷ p.slots)
  does_blind (i.Name n) p = given p p.slots (read g n) (of_read g n)
  does_blind i.Charge p = acted p p.slots (owed p.slots) (of_owed p.slots)
  does_blind i.Values p = goes p (slot.Values [] ∷ p.slots)
  does_blind i.Append p = on_value p.slots _ (λ v ss. on_values ss _ (λ vs rest. goes p (slot.Values (vs ++ v ∷ []) ∷ rest)))
  does_blind i.List p = on_values p.slots _ (λ vs ss. given p ss (lift (within_depth (V.List vs))) (of_lift Value (within_depth (V.List vs))))
  does_blind (i.Call f) p = on_values p.slots _ (λ vs ss. lifted Value (called f vs) (λ v s. to p (billed s.fuel v ∷ ss) s) (λ v. over Spot (λ s. to p (billed s.fuel v ∷ ss) s) (λ h ys zs l m. quiet Spot (Ok (spot (p.pc + 1) (billed h.state.fuel v ∷ ss))) h ys zs l m)))
  does_blind i.Fields p = goes p (slot.Fields [] ∷ p.slots)
  does_blind (i.Put n) p = on_value p.slots _ (λ v ss. on_fields ss _ (λ fs rest. goes p _))
  does_blind i.Record p = on_fields p.slots _ (λ fs ss. given p ss (lift (within_depth (V.Rec fs))) (of_lift Value (within_depth (V.Rec fs))))
  does_blind (i.Field n) p = on_value p.slots _ (λ v ss. given p ss (lift (field_of n v)) (of_lift Value (field_of n v)))
  does_blind i.At p = on_value p.slots _ (λ at ss. on_value ss _ (λ v rest. given p rest (lift (part_of v at)) (of_lift Value (part_of v at))))
  does_blind (i.Unary sign) p = on_value p.slots _ (λ v ss. given p ss (lift (signed sign v)) (of_lift Value (signed sign v)))
  does_blind (i.Product sign) p = on_value p.slots _ (λ w ss. on_value ss _ (λ v rest. given p rest (lift (multiplied sign v w)) (of_lift Value (multiplied sign v w))))
  does_blind (i.Sum sign) p = on_value p.slots _ (λ w ss. on_value ss _ (λ v rest. given p rest (lift (summed sign v w)) (of_lift Value (summed sign v w))))
  does_blind (i.Compare sign) p = on_value p.slots _ (λ w ss. on_value ss _ (λ v rest. given p rest (lift (compared sign v w)) (of_lift Value (compared sign v w))))
  does_blind i.Fetch p = on_value p.slots _ (λ key ss. given p ss (ask g key) (of_ask_at g (out-Value key)))
  does_blind (i.Unless w skip) p = on_value p.slots _ (λ v ss. lifted Bool (truth_of (text_of w) v) (unless p ss skip) (λ b. fixed Spot (Ok (spot (if b then p.pc + 1 else p.pc + 1 + skip) ss))))
  does_blind (i.When w skip) p = on_value p.slots _ (λ v ss. lifted Bool (truth_of (text_of w) v) (jump p ss skip) (λ b. fixed Spot (Ok (spot (if b then p.pc + 1 + skip else p.pc + 1) ss))))
  does_blind (i.Go skip) p = fixed Spot (Ok (spot (p.pc + 1 + skip) p.slots))
  does_blind (i.Back n) p = fixed Spot (Ok (spot (p.pc - n) p.slots))
  does_blind i.Tick p = acted p p.slots tick (of_charge 1)
  does_blind (i.Let n) p = on_value p.slots _ (λ v ss. acted p ss (keep n v) (of_keep n v))
  does_blind (i.Assign n) p = on_value p.slots _ (λ v ss. acted p ss (assign n v) (of_assign n v))
  does_blind i.Enter p = over Spot (does g i.Enter p) (λ h ys zs l m. quiet Spot (Ok (spot (p.pc + 1) (slot.Mark (length h.state.locals) ∷ p.slots))) h ys zs l m)
  does_blind i.Leave p = on_mark p.slots _ (λ n ss. acted p ss (cut_to n) (of_cut n))
  does_blind i.Turns p = on_value p.slots _ (λ v ss. lifted (List Value) (items_of (codes "for") v) (λ vs. to p (slot.Turns vs ∷ ss)) (λ vs. goes p (slot.Turns vs ∷ ss)))
  does_blind (i.Next skip) p = on_turns p.slots _ (λ vs ss. left_of p skip vs ss)
  does_blind (i.Take n) p = on_turns p.slots _ (λ vs ss. taken p n vs ss)
  does_blind i.Yield p = on_value p.slots _ (λ v ss. acted p ss (yielded g v) (of_yield g v))
  does_blind i.Return p = on_value p.slots _ (λ v ss. fixed Spot (Err (stops.Done v)))
  does_blind i.Throw p = on_value p.slots _ (λ v ss. acted p ss (lift (thrown v)) (of_lift (Unit {0}) (thrown v)))
  does_blind i.Cleanup p = on_value p.slots _ (λ v ss. acted p ss (cleaned v) (of_clean v))

  pub step_blind : (o : Option Instr) (p : Spot) → Blind Spot (does_if g o p)
  step_blind None p = fixed Spot (Err stops.Memory)
  step_blind (Some x) p = does_blind x p
