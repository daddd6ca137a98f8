-- What an instruction does over one segment, it does over each that keeps the answers that were taken and has the pulls
-- to come so far; and it takes back no charge.
use Rattle.std.proofs.Common.{◌≡◌, ℕ, ◌+◌, ◌-◌, ◌<◌, ◌≤◌, Bool, true, false, List, [], ◌∷◌, ◌++◌, length, Option, Some, None, Result, Ok, Err, refl, sym, ap, subst, codes, arith, length-append}
use Rattle.std.specs.Prelude.{slice_get, nat_lt, if◌then◌else◌}
use Rattle.std.proofs.lemmas.Bool.Decides.{nat_tests}
use Rattle.nb_value.specs.declared.value.Value.{Value, out-Value}
use Rattle.nb_value.specs.declared.value.Value.TheOpen as value
use Rattle.nb_value.specs.declared.value.Value.TheVariants as V
use Rattle.nb_value.specs.declared.pairs.Field.{Field}
use Rattle.nb_value.specs.declared.outcome.Answer.{Answer}
use Rattle.nb_value.specs.declared.outcome.ErrorKind.TheVariants.{OutOfFuel}
use Rattle.nb_value.specs.Value.{size}
use Rattle.nb_builtins.specs.Apply.{called}
use Rattle.nb_eval.specs.declared.given.Segment.{Segment}
use Rattle.nb_eval.specs.declared.state.State.{State}
use Rattle.nb_eval.specs.declared.stop.Stop.{Stop}
use Rattle.nb_eval.specs.declared.stop.Stop.TheVariants as stops
use Rattle.nb_eval.specs.Locals.{place}
use Rattle.nb_eval.specs.Run.{Run, Out, Called, after, ◌>>=◌, lift, stop, settled, error, charge, tick, read, keep, assign, assign_at, cut_to, truth_of, items_of, within_depth, value_of, answered, ask_text, ask_at, ask, go_on, yielded, cleaned, thrown, full_fuel}
use Rattle.nb_eval.specs.Operate.{summed, multiplied, compared, signed, field_of, part_of}
use Rattle.nb_machine.specs.declared.instr.Instr.{Instr}
use Rattle.nb_machine.specs.declared.instr.Instr.TheVariants as i
use Rattle.nb_machine.specs.declared.instr.Slot.{Slot}
use Rattle.nb_machine.specs.declared.instr.Slot.TheVariants as slot
use Rattle.nb_machine.specs.Machine.{Spot, spot, Goes, value_on, values_on, fields_on, turns_on, mark_on, to, gives, acts, owed, turns_left, take_turn, text_of, does, does_if}
use Rattle.nb_machine.specs.Suspended.{with_more, Keeps, IsPulled}

abbrev pub the_out : (A : Type 0) → A → State → Out A
the_out A a t = (Ok a, t)

result_of : (A : Type 0) (o : Out A) (a : A) (t : State) → o ≡ the_out A a t → o.0 ≡ Ok a
result_of A o a t h = ap (λ (x : Out A). x.0) h

state_of : (A : Type 0) (o : Out A) (a : A) (t : State) → o ≡ the_out A a t → o.1 ≡ t
state_of A o a t h = ap (λ (x : Out A). x.1) h

module _ (g : Segment) (answers : List Answer) (pulls : ℕ) where
  abbrev pub other : Segment
  other = with_more g answers pulls

  abbrev pub Fits : State → Type 0
  Fits t = Keeps t.taken g.answers answers × IsPulled pulls t

  -- where it goes on over the one segment, it does so over the other
  pub record Same (A : Type 0) (s : State) (o o' : Out A) : Type 0 where
    pub charges : s.charges ≤ o.1.charges
    pub pulled : (a : A) (t : State) → o ≡ the_out A a t → IsPulled g.pulls s → IsPulled g.pulls t
    pub fits : (a : A) (t : State) → o ≡ the_out A a t → Fits t → Fits s
    pub same : (a : A) (t : State) → o ≡ the_out A a t → Fits t → o' ≡ the_out A a t

  -- what takes no answers and yields nothing
  steady : (A : Type 0) (s : State) (o : Out A) → o.1.taken ≡ s.taken → o.1.yields ≡ s.yields → s.charges ≤ o.1.charges → Same A s o o
  steady A s o taken yields le = record {
    charges = le;
    pulled = λ a t h k. subst (λ (u : State). IsPulled g.pulls u) (state_of A o a t h) (subst (λ ys. length ys ≤ g.pulls - 1) (sym yields) k);
    fits = λ a t h k.
        let k' = subst Fits (sym (state_of A o a t h)) k in
        (subst (λ n. Keeps n g.answers answers) taken k'.0, subst (λ ys. length ys ≤ pulls - 1) yields k'.1);
    same = λ a t h k. h;
  }

  idle : (A : Type 0) (s : State) (r : Result A Stop) → Same A s (r, s) (r, s)
  idle A s r = steady A s (r, s) refl refl (omega arith)

  same_if : (A : Type 0) (s : State) (b : Bool) (x x' y y' : Out A) → Same A s x x' → Same A s y y' → Same A s (if b then x else y) (if b then x' else y')
  same_if A s true x x' y y' hx hy = hx
  same_if A s false x x' y y' hx hy = hy

  -- two steps in a row
  module _ (A B : Type 0) (f f' : A → Run B) (k : (a : A) (t : State) → Same B t (f a t) (f' a t)) (s : State) where
    by_result : (r : Result A Stop) (u : State) (o' : Out A) → Same A s (r, u) o' → Same B s (after r u f) (after o'.0 o'.1 f')
    by_result (Ok a) u o' h =
        let m = k a u in
        let c : s.charges ≤ u.charges = h.charges in
        record {
          charges = omega (arith, c, m.charges);
          pulled = λ b t x y. m.pulled b t x (h.pulled a u refl y);
          fits = λ b t x y. h.fits a u refl (m.fits b t x y);
          same = λ b t x y. subst (λ (o : Out A). after o.0 o.1 f' ≡ the_out B b t) (sym (h.same a u refl (m.fits b t x y))) (m.same b t x y);
        }
    by_result (Err e) u o' h =
        record {
          charges = h.charges;
          pulled = λ b t x y. let z = result_of B (Err e, u) b t x in absurd (cc);
          fits = λ b t x y. let z = result_of B (Err e, u) b t x in absurd (cc);
          same = λ b t x y. let z = result_of B (Err e, u) b t x in absurd (cc);
        }

  both : (A B : Type 0) (p p' : Run A) (f f' : A → Run B) (s : State) → Same A s (p s) (p' s) → ((a : A) (t : State) → Same B t (f a t) (f' a t)) → Same B s ((p >>= f) s) ((p' >>= f') s)
  both A B p p' f f' s h k = by_result A B f f' k s (p s).0 (p s).1 (p' s) h

  -- ---- what instructions are made of

  of_charge : (n : ℕ) (s : State) → Same (Unit {0}) s (charge n s) (charge n s)
  of_charge n s = same_if (Unit {0}) s (nat_lt s.fuel n) _ _ _ _ (steady (Unit {0}) s (Err (stops.Failed (error OutOfFuel [])), record s { charges = s.charges + 1 }) refl refl (omega arith)) (steady (Unit {0}) s (Ok tt, record s { fuel = s.fuel - n; charges = s.charges + 1 }) refl refl (omega arith))

  of_lift : (A : Type 0) (r : Called A) (s : State) → Same A s (lift r s) (lift r s)
  of_lift A r s = idle A s (settled r)

  of_assign_at : (at : Option ℕ) (name : List ℕ) (v : Value) (s : State) → Same (Unit {0}) s (assign_at at name v s) (assign_at at name v s)
  of_assign_at None name v s = idle (Unit {0}) s _
  of_assign_at (Some at) name v s = steady (Unit {0}) s (assign_at (Some at) name v s) refl refl (omega arith)

  of_clean : (v : Value) (s : State) → Same (Unit {0}) s (cleaned v s) (cleaned v s)
  of_clean v s =
      same_if (Unit {0}) s (nat_lt 1024 (size v)) _ _ _ _ (idle (Unit {0}) s _)
      (same_if (Unit {0}) s (nat_lt (length s.cleanups) 16) _ _ _ _ (steady (Unit {0}) s (Ok tt, record s { cleanups = s.cleanups ++ v ∷ [] }) refl refl (omega arith)) (idle (Unit {0}) s _))

  of_owed : (ss : List Slot) (s : State) → Same (Unit {0}) s (owed ss s) (owed ss s)
  of_owed [] s = idle (Unit {0}) s _
  of_owed (slot.Value v ∷ ss) s = of_charge (1 + size v) s
  of_owed (slot.Unpaid ∷ ss) s = steady (Unit {0}) s (owed (slot.Unpaid ∷ ss) s) refl refl (omega arith)
  of_owed (slot.Values vs ∷ ss) s = idle (Unit {0}) s _
  of_owed (slot.Fields fs ∷ ss) s = idle (Unit {0}) s _
  of_owed (slot.Turns vs ∷ ss) s = idle (Unit {0}) s _
  of_owed (slot.Mark n ∷ ss) s = idle (Unit {0}) s _

  -- a taken answer stands in the other segment too
  of_answer : (o : Option Answer) (key : List ℕ) (s : State) → slice_get g.answers s.taken ≡ o → Same Value s (answered o key (record s { fetches = s.fetches + 1 })) (answered (slice_get answers s.taken) key (record s { fetches = s.fetches + 1 }))
  of_answer None key s h = record {
    charges = omega arith;
    pulled = λ a t x y. let z = result_of Value (stop (stops.Needs key) (record s { fetches = s.fetches + 1 })) a t x in absurd (cc);
    fits = λ a t x y. let z = result_of Value (stop (stops.Needs key) (record s { fetches = s.fetches + 1 })) a t x in absurd (cc);
    same = λ a t x y. let z = result_of Value (stop (stops.Needs key) (record s { fetches = s.fetches + 1 })) a t x in absurd (cc);
  }
  of_answer (Some w) key s h =
      let r : State = record s { fetches = s.fetches + 1; taken = s.taken + 1 } in
      let o : Out Value = (settled (value_of w), r) in
      let before : (a : Value) (t : State) → o ≡ the_out Value a t → Fits t → Fits r = λ a t x y. subst Fits (sym (state_of Value o a t x)) y in
      record {
        charges = omega arith;
        pulled = λ a t x y. subst (λ (u : State). IsPulled g.pulls u) (state_of Value o a t x) y;
        fits = λ a t x y. let k = before a t x y in (λ at b lt m. k.0 at b (omega (arith, lt)) m, k.1);
        same = λ a t x y.
            let k = before a t x y in
            let there : slice_get answers s.taken ≡ Some w = k.0 s.taken w (omega arith) h in
            subst (λ z. answered z key (record s { fetches = s.fetches + 1 }) ≡ the_out Value a t) (sym there) x;
      }

  of_ask_text : (key : List ℕ) (s : State) → Same Value s (ask_text g key s) (ask_text other key s)
  of_ask_text key s =
      same_if Value s (nat_lt 1024 (1 + length key)) _ _ _ _ (idle Value s _)
      (same_if Value s (nat_lt s.fetches 64) _ _ _ _ (of_answer (slice_get g.answers s.taken) key s refl) (idle Value s _))

  of_ask_at : (x : value.Value-F Value) (s : State) → Same Value s (ask_at g x s) (ask_at other x s)
  of_ask_at (value.Text key) s = of_ask_text key s
  of_ask_at x s = idle Value s _

  -- where it went on, there were pulls enough
  of_go_on : (v : Value) (s : State) (b : Bool) → nat_lt (length (s.yields ++ v ∷ [])) g.pulls ≡ b →
      let r : State = record s { yields = s.yields ++ v ∷ [] } in
      Same (Unit {0}) s (if b then (Ok tt, record r { fuel = full_fuel; fetches = 0 }) else (Err stops.Paused, r)) (go_on other r)
  of_go_on v s false h =
      let r : State = record s { yields = s.yields ++ v ∷ [] } in
      record {
        charges = omega arith;
        pulled = λ a t x y. let z = result_of (Unit {0}) (stop stops.Paused r) a t x in absurd (cc);
        fits = λ a t x y. let z = result_of (Unit {0}) (stop stops.Paused r) a t x in absurd (cc);
        same = λ a t x y. let z = result_of (Unit {0}) (stop stops.Paused r) a t x in absurd (cc);
      }
  of_go_on v s true h =
      let r : State = record s { yields = s.yields ++ v ∷ []; fuel = full_fuel; fetches = 0 } in
      let o : Out (Unit {0}) = (Ok tt, r) in
      let longer : length (s.yields ++ v ∷ []) ≡ length s.yields + 1 = omega (arith, length-append s.yields (v ∷ [])) in
      let lt : length (s.yields ++ v ∷ []) < g.pulls = grind (arith, nat_tests) in
      record {
        charges = omega arith;
        pulled = λ a t x y. subst (λ (u : State). IsPulled g.pulls u) (state_of (Unit {0}) o a t x) (omega (arith, lt));
        fits = λ a t x y. let k = subst Fits (sym (state_of (Unit {0}) o a t x)) y in (k.0, omega (arith, longer, k.1));
        same = λ a t x y.
            let k = subst Fits (sym (state_of (Unit {0}) o a t x)) y in
            let there : nat_lt (length (s.yields ++ v ∷ [])) pulls ≡ true = let m : length (s.yields ++ v ∷ []) < pulls = omega (arith, longer, k.1) in grind (arith, nat_tests) in
            subst (λ q. (if q then (Ok tt, r) else (Err stops.Paused, record s { yields = s.yields ++ v ∷ [] })) ≡ the_out (Unit {0}) a t) (sym there) x;
      }

  of_yield : (v : Value) (s : State) → Same (Unit {0}) s (yielded g v s) (yielded other v s)
  of_yield v s = same_if (Unit {0}) s (nat_lt 16384 (size v)) _ _ _ _ (idle (Unit {0}) s _) (of_go_on v s (nat_lt (length (s.yields ++ v ∷ [])) g.pulls) refl)

  -- ---- what stands on top

  stuck : (s : State) → Same Spot s (stop stops.Memory s) (stop stops.Memory s)
  stuck s = idle Spot s (Err stops.Memory)

  on_value : (ss : List Slot) (f f' : Value → List Slot → Goes) (s : State) → ((v : Value) (rest : List Slot) → Same Spot s (f v rest s) (f' v rest s)) → Same Spot s (value_on ss f s) (value_on ss f' s)
  on_value (slot.Value v ∷ ss) f f' s k = k v ss
  on_value [] f f' s k = stuck s
  on_value (slot.Unpaid ∷ ss) f f' s k = stuck s
  on_value (slot.Values vs ∷ ss) f f' s k = stuck s
  on_value (slot.Fields fs ∷ ss) f f' s k = stuck s
  on_value (slot.Turns vs ∷ ss) f f' s k = stuck s
  on_value (slot.Mark n ∷ ss) f f' s k = stuck s

  on_values : (ss : List Slot) (f : List Value → List Slot → Goes) (s : State) → ((vs : List Value) (rest : List Slot) → Same Spot s (f vs rest s) (f vs rest s)) → Same Spot s (values_on ss f s) (values_on ss f s)
  on_values (slot.Values vs ∷ ss) f s k = k vs ss
  on_values [] f s k = stuck s
  on_values (slot.Unpaid ∷ ss) f s k = stuck s
  on_values (slot.Value v ∷ ss) f s k = stuck s
  on_values (slot.Fields fs ∷ ss) f s k = stuck s
  on_values (slot.Turns vs ∷ ss) f s k = stuck s
  on_values (slot.Mark n ∷ ss) f s k = stuck s

  on_fields : (ss : List Slot) (f : List (Field Value) → List Slot → Goes) (s : State) → ((fs : List (Field Value)) (rest : List Slot) → Same Spot s (f fs rest s) (f fs rest s)) → Same Spot s (fields_on ss f s) (fields_on ss f s)
  on_fields (slot.Fields fs ∷ ss) f s k = k fs ss
  on_fields [] f s k = stuck s
  on_fields (slot.Unpaid ∷ ss) f s k = stuck s
  on_fields (slot.Value v ∷ ss) f s k = stuck s
  on_fields (slot.Values vs ∷ ss) f s k = stuck s
  on_fields (slot.Turns vs ∷ ss) f s k = stuck s
  on_fields (slot.Mark n ∷ ss) f s k = stuck s

  on_turns : (ss : List Slot) (f : List Value → List Slot → Goes) (s : State) → ((vs : List Value) (rest : List Slot) → Same Spot s (f vs rest s) (f vs rest s)) → Same Spot s (turns_on ss f s) (turns_on ss f s)
  on_turns (slot.Turns vs ∷ ss) f s k = k vs ss
  on_turns [] f s k = stuck s
  on_turns (slot.Unpaid ∷ ss) f s k = stuck s
  on_turns (slot.Value v ∷ ss) f s k = stuck s
  on_turns (slot.Values vs ∷ ss) f s k = stuck s
  on_turns (slot.Fields fs ∷ ss) f s k = stuck s
  on_turns (slot.Mark n ∷ ss) f s k = stuck s

  on_mark : (ss : List Slot) (f : ℕ → List Slot → Goes) (s : State) → ((n : ℕ) (rest : List Slot) → Same Spot s (f n rest s) (f n rest s)) → Same Spot s (mark_on ss f s) (mark_on ss f s)
  on_mark (slot.Mark n ∷ ss) f s k = k n ss
  on_mark [] f s k = stuck s
  on_mark (slot.Unpaid ∷ ss) f s k = stuck s
  on_mark (slot.Value v ∷ ss) f s k = stuck s
  on_mark (slot.Values vs ∷ ss) f s k = stuck s
  on_mark (slot.Fields fs ∷ ss) f s k = stuck s
  on_mark (slot.Turns vs ∷ ss) f s k = stuck s

  goes : (q : Spot) (s : State) → Same Spot s (the_out Spot q s) (the_out Spot q s)
  goes q s = idle Spot s (Ok q)

  given : (p : Spot) (ss : List Slot) (d d' : Run Value) (s : State) → Same Value s (d s) (d' s) → Same Spot s (gives p ss d s) (gives p ss d' s)
  given p ss d d' s h = both Value Spot d d' (λ v. to p (slot.Value v ∷ ss)) (λ v. to p (slot.Value v ∷ ss)) s h (λ v t. goes (spot (p.pc + 1) (slot.Value v ∷ ss)) t)

  acted : (p : Spot) (ss : List Slot) (d d' : Run (Unit {0})) (s : State) → Same (Unit {0}) s (d s) (d' s) → Same Spot s (acts p ss d s) (acts p ss d' s)
  acted p ss d d' s h = both (Unit {0}) Spot d d' (λ u. to p ss) (λ u. to p ss) s h (λ u t. goes (spot (p.pc + 1) ss) t)

  lifted : (A : Type 0) (r : Called A) (f : A → Goes) (s : State) → ((a : A) (t : State) → Same Spot t (f a t) (f a t)) → Same Spot s ((lift r >>= f) s) ((lift r >>= f) s)
  lifted A r f s k = both A Spot (lift r) (lift r) f f s (of_lift A r s) k

  left_of : (p : Spot) (skip : ℕ) (vs : List Value) (ss : List Slot) (s : State) → Same Spot s (turns_left p skip vs ss s) (turns_left p skip vs ss s)
  left_of p skip [] ss s = goes _ s
  left_of p skip (v ∷ vs) ss s = goes _ s

  taken : (p : Spot) (name : List ℕ) (vs : List Value) (ss : List Slot) (s : State) → Same Spot s (take_turn p name vs ss s) (take_turn p name vs ss s)
  taken p name [] ss s = stuck s
  taken p name (v ∷ vs) ss s =
      let f : Unit {0} → Goes = λ u. to p (slot.Mark (length s.locals) ∷ slot.Turns vs ∷ ss) in
      both (Unit {0}) Spot (keep name v) (keep name v) f f s (steady (Unit {0}) s (keep name v s) refl refl (omega arith)) (λ u t. goes _ t)

  -- an instruction does the same over both
  pub does_same : (x : Instr) (p : Spot) (s : State) → Same Spot s (does g x p s) (does other x p s)
  does_same (i.Const v) p s = goes _ s
  does_same (i.Name n) p s = given p p.slots (read g n) (read other n) s (idle Value s _)
  does_same i.Charge p s = acted p p.slots (owed p.slots) (owed p.slots) s (of_owed p.slots s)
  does_same i.Values p s = goes _ s
  does_same i.Append p s = on_value p.slots _ _ s (λ v ss. on_values ss _ s (λ vs rest. goes _ s))
  does_same i.List p s = on_values p.slots _ s (λ vs ss. given p ss (lift (within_depth (V.List vs))) (lift (within_depth (V.List vs))) s (of_lift Value (within_depth (V.List vs)) s))
  does_same (i.Call f) p s = on_values p.slots _ s (λ vs ss. lifted Value (called f vs) _ s (λ v t. goes _ t))
  does_same i.Fields p s = goes _ s
  does_same (i.Put n) p s = on_value p.slots _ _ s (λ v ss. on_fields ss _ s (λ fs rest. goes _ s))
  does_same i.Record p s = on_fields p.slots _ s (λ fs ss. given p ss (lift (within_depth (V.Rec fs))) (lift (within_depth (V.Rec fs))) s (of_lift Value (within_depth (V.Rec fs)) s))
  does_same (i.Field n) p s = on_value p.slots _ _ s (λ v ss. given p ss (lift (field_of n v)) (lift (field_of n v)) s (of_lift Value (field_of n v) s))
  does_same i.At p s = on_value p.slots _ _ s (λ at ss. on_value ss _ _ s (λ v rest. given p rest (lift (part_of v at)) (lift (part_of v at)) s (of_lift Value (part_of v at) s)))
  does_same (i.Unary sign) p s = on_value p.slots _ _ s (λ v ss. given p ss (lift (signed sign v)) (lift (signed sign v)) s (of_lift Value (signed sign v) s))
  does_same (i.Product sign) p s = on_value p.slots _ _ s (λ w ss. on_value ss _ _ s (λ v rest. given p rest (lift (multiplied sign v w)) (lift (multiplied sign v w)) s (of_lift Value (multiplied sign v w) s)))
  does_same (i.Sum sign) p s = on_value p.slots _ _ s (λ w ss. on_value ss _ _ s (λ v rest. given p rest (lift (summed sign v w)) (lift (summed sign v w)) s (of_lift Value (summed sign v w) s)))
  does_same (i.Compare sign) p s = on_value p.slots _ _ s (λ w ss. on_value ss _ _ s (λ v rest. given p rest (lift (compared sign v w)) (lift (compared sign v w)) s (of_lift Value (compared sign v w) s)))
  does_same i.Fetch p s = on_value p.slots _ _ s (λ key ss. given p ss (ask g key) (ask other key) s (of_ask_at (out-Value key) s))
  does_same (i.Unless w skip) p s = on_value p.slots _ _ s (λ v ss. lifted Bool (truth_of (text_of w) v) _ s (λ b t. goes _ t))
  does_same (i.When w skip) p s = on_value p.slots _ _ s (λ v ss. lifted Bool (truth_of (text_of w) v) _ s (λ b t. goes _ t))
  does_same (i.Go skip) p s = goes _ s
  does_same (i.Back n) p s = goes _ s
  does_same i.Tick p s = acted p p.slots tick tick s (of_charge 1 s)
  does_same (i.Let n) p s = on_value p.slots _ _ s (λ v ss. acted p ss (keep n v) (keep n v) s (steady (Unit {0}) s (keep n v s) refl refl (omega arith)))
  does_same (i.Assign n) p s = on_value p.slots _ _ s (λ v ss. acted p ss (assign n v) (assign n v) s (of_assign_at (place n s.locals) n v s))
  does_same i.Enter p s = goes _ s
  does_same i.Leave p s = on_mark p.slots _ s (λ n ss. acted p ss (cut_to n) (cut_to n) s (steady (Unit {0}) s (cut_to n s) refl refl (omega arith)))
  does_same i.Turns p s = on_value p.slots _ _ s (λ v ss. lifted (List Value) (items_of (codes "for") v) _ s (λ vs t. goes _ t))
  does_same (i.Next skip) p s = on_turns p.slots _ s (λ vs ss. left_of p skip vs ss s)
  does_same (i.Take n) p s = on_turns p.slots _ s (λ vs ss. taken p n vs ss s)
  does_same i.Yield p s = on_value p.slots _ _ s (λ v ss. acted p ss (yielded g v) (yielded other v) s (of_yield v s))
  does_same i.Return p s = on_value p.slots _ _ s (λ v ss. idle Spot s _)
  does_same i.Throw p s = on_value p.slots _ _ s (λ v ss. acted p ss (lift (thrown v)) (lift (thrown v)) s (of_lift (Unit {0}) (thrown v) s))
  does_same i.Cleanup p s = on_value p.slots _ _ s (λ v ss. acted p ss (cleaned v) (cleaned v) s (of_clean v s))

  pub step_same : (o : Option Instr) (p : Spot) (s : State) → Same Spot s (does_if g o p s) (does_if other o p s)
  step_same None p s = stuck s
  step_same (Some x) p s = does_same x p s
