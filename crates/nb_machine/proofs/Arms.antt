-- What the instructions of values are over what is held.
use Rattle.std.proofs.Common.{◌≡◌, ◌≢◌, ℕ, ◌+◌, ◌-◌, Bool, true, false, List, [], ◌∷◌, ◌++◌, length, Option, Some, None, Result, Ok, Err, refl, sym, ap, ◌∙◌, subst}
use Rattle.std.specs.Prelude.{slice_get, nat_lt, if◌then◌else◌}
use Rattle.nb_value.specs.declared.value.Value.{Value}
use Rattle.nb_value.specs.declared.value.Value.TheVariants as V
use Rattle.nb_value.specs.declared.function.Function.{Function}
use Rattle.nb_value.specs.declared.pairs.Field.{Field}
use Rattle.nb_value.specs.declared.outcome.CellError.{CellError}
use Rattle.nb_value.specs.declared.outcome.ErrorKind.TheVariants.{OutOfFuel, WrongKind}
use Rattle.nb_value.specs.Value.{size}
use Rattle.nb_value.specs.Fields.{put}
use Rattle.nb_value.specs.Function.{arity, function_name}
use Rattle.nb_builtins.specs.Apply.{called, afforded, applied}
use Rattle.nb_builtins.specs.Calls.{and_then, failed}
use Rattle.nb_syntax.specs.declared.tree.Sign.{Sign}
use Rattle.nb_eval.specs.declared.given.Segment.{Segment}
use Rattle.nb_eval.specs.declared.stop.Stop.{Stop}
use Rattle.nb_eval.specs.declared.stop.Stop.TheVariants as stops
use Rattle.nb_eval.specs.Run.{Run, Out, ◌>>=◌, pure, Called, settled, lift, error, charge, read, within_depth}
use Rattle.nb_eval.specs.Operate.{summed, multiplied, compared, signed, field_of, part_of}
use Rattle.nb_eval.proofs.Calls.{NotFuel, called_not, wrong_count}
use Rattle.nb_machine.specs.declared.instr.Instr.{Instr}
use Rattle.nb_machine.specs.declared.instr.Instr.TheVariants as i
use Rattle.nb_machine.specs.declared.instr.Slot.{Slot}
use Rattle.nb_machine.specs.declared.instr.Slot.TheVariants as slot
use Rattle.nb_machine.specs.Machine.{Spot, spot, Goes, value_on, values_on, fields_on, gives, acts, to, owed, billed}
use Rattle.std.specs.Prelude.{OnOk, IfErr}
use Rattle.nb_machine.specs.Held.{Held, IsHeld, state_of, held_out, held_does, over, moved}
use Rattle.nb_machine.proofs.Deaf.{Deaf, of_charge, of_lift, of_read, of_owed, over_held, then_at}

module _ (g : Segment) (p : Spot) (h : Held) (held : IsHeld h) where
  -- to another spot
  abbrev goes : Spot → Result Spot Stop × Held
  goes q = (Ok q, h)

  stays : (q : Spot) → held_out (pure q (state_of h)) ≡ goes q
  stays q = ap (λ (x : Held). let z : Result Spot Stop × Held = (Ok q, x) in z) held

  -- a value, on this stack
  abbrev on : List Slot → Value → Spot
  on ss v = spot (p.pc + 1) (slot.Value v ∷ ss)

  given : (ss : List Slot) (d : Run Value) → Deaf Value d → held_out (gives p ss d (state_of h)) ≡ then_at (on ss) (over h (d h.state))
  given ss d deaf = over_held Value d deaf (on ss) h held

  lifted : (ss : List Slot) (r : Called Value) → held_out (gives p ss (lift r) (state_of h)) ≡ then_at (on ss) (settled r, h)
  lifted ss r = given ss (lift r) (of_lift Value r)

  pub at_const : (v : Value) → held_does g (i.Const v) p h ≡ goes (on p.slots v)
  at_const v = stays (on p.slots v)

  pub at_name : (n : List ℕ) → held_does g (i.Name n) p h ≡ then_at (on p.slots) (over h (read g n h.state))
  at_name n = given p.slots (read g n) (of_read g n)

  -- ---- the charge of what is on top

  charged : held_does g i.Charge p h ≡ then_at (λ u. spot (p.pc + 1) p.slots) (over h (owed p.slots h.state))
  charged = over_held (Unit {0}) (owed p.slots) (of_owed p.slots) (λ u. spot (p.pc + 1) p.slots) h held

  owed_value : (ss : List Slot) (v : Value) → slice_get ss 0 ≡ Some (slot.Value v) → (s : Slot) (rest : List Slot) → ss ≡ s ∷ rest → owed ss ≡ charge (1 + size v)
  owed_value ss v e s rest is =
      let top : s ≡ slot.Value v = cc in
      ap owed is ∙ ap (λ t. owed (t ∷ rest)) top

  pub at_charge : (v : Value) → slice_get p.slots 0 ≡ Some (slot.Value v) → held_does g i.Charge p h ≡ then_at (λ u. spot (p.pc + 1) p.slots) (over h (charge (1 + size v) h.state))
  at_charge v e = charged ∙ ap (λ (d : Run (Unit {0})). then_at (λ u. spot (p.pc + 1) p.slots) (over h (d h.state))) (by_slots p.slots e)
    where
      by_slots : (ss : List Slot) → slice_get ss 0 ≡ Some (slot.Value v) → owed ss ≡ charge (1 + size v)
      by_slots [] x = absurd (cc)
      by_slots (s ∷ ss) x = owed_value (s ∷ ss) v x s ss refl

  -- the charge of a value that the fuel doesn't pay for
  abbrev unpaid : Result Spot Stop × Held
  unpaid = (Err (stops.Failed (error OutOfFuel [])), record h { state = record h.state { charges = h.state.charges + 1 } })

  pub at_unpaid : slice_get p.slots 0 ≡ Some slot.Unpaid → held_does g i.Charge p h ≡ unpaid
  at_unpaid e = charged ∙ by_slots p.slots e
    where
      by_slots : (ss : List Slot) → slice_get ss 0 ≡ Some slot.Unpaid → then_at (λ u. spot (p.pc + 1) p.slots) (over h (owed ss h.state)) ≡ unpaid
      by_slots [] x = absurd (cc)
      by_slots (s ∷ ss) x = let top : s ≡ slot.Unpaid = cc in ap (λ t. then_at (λ u. spot (p.pc + 1) p.slots) (over h (owed (t ∷ ss) h.state))) top

  -- ---- lists and records

  pub at_values : held_does g i.Values p h ≡ goes (spot (p.pc + 1) (slot.Values [] ∷ p.slots))
  at_values = stays (spot (p.pc + 1) (slot.Values [] ∷ p.slots))

  pub at_append : (v : Value) (vs : List Value) (mid rest : List Slot) → p.slots ≡ slot.Value v ∷ mid → mid ≡ slot.Values vs ∷ rest → held_does g i.Append p h ≡ goes (spot (p.pc + 1) (slot.Values (vs ++ v ∷ []) ∷ rest))
  at_append v vs mid rest e f =
      ap (λ ss. held_out (value_on ss (λ w us. values_on us (λ ws os. to p (slot.Values (ws ++ w ∷ []) ∷ os))) (state_of h))) (e ∙ ap (λ us. slot.Value v ∷ us) f)
      ∙ stays (spot (p.pc + 1) (slot.Values (vs ++ v ∷ []) ∷ rest))

  pub at_list : (vs : List Value) (rest : List Slot) → p.slots ≡ slot.Values vs ∷ rest → held_does g i.List p h ≡ then_at (on rest) (settled (within_depth (V.List vs)), h)
  at_list vs rest e = ap (λ ss. held_out (values_on ss (λ ws us. gives p us (lift (within_depth (V.List ws)))) (state_of h))) e ∙ lifted rest (within_depth (V.List vs))

  pub at_fields : held_does g i.Fields p h ≡ goes (spot (p.pc + 1) (slot.Fields [] ∷ p.slots))
  at_fields = stays (spot (p.pc + 1) (slot.Fields [] ∷ p.slots))

  pub at_put : (n : List ℕ) (v : Value) (fs : List (Field Value)) (mid rest : List Slot) → p.slots ≡ slot.Value v ∷ mid → mid ≡ slot.Fields fs ∷ rest → held_does g (i.Put n) p h ≡ goes (spot (p.pc + 1) (slot.Fields (put (record { name = n; value = v }) fs) ∷ rest))
  at_put n v fs mid rest e f =
      ap (λ ss. held_out (value_on ss (λ w us. fields_on us (λ ws os. to p (slot.Fields (put (record { name = n; value = w }) ws) ∷ os))) (state_of h))) (e ∙ ap (λ us. slot.Value v ∷ us) f)
      ∙ stays (spot (p.pc + 1) (slot.Fields (put (record { name = n; value = v }) fs) ∷ rest))

  pub at_record : (fs : List (Field Value)) (rest : List Slot) → p.slots ≡ slot.Fields fs ∷ rest → held_does g i.Record p h ≡ then_at (on rest) (settled (within_depth (V.Rec fs)), h)
  at_record fs rest e = ap (λ ss. held_out (fields_on ss (λ ws us. gives p us (lift (within_depth (V.Rec ws)))) (state_of h))) e ∙ lifted rest (within_depth (V.Rec fs))

  -- ---- operators of one value

  pub at_field : (n : List ℕ) (v : Value) (rest : List Slot) → p.slots ≡ slot.Value v ∷ rest → held_does g (i.Field n) p h ≡ then_at (on rest) (settled (field_of n v), h)
  at_field n v rest e = ap (λ ss. held_out (value_on ss (λ w us. gives p us (lift (field_of n w))) (state_of h))) e ∙ lifted rest (field_of n v)

  pub at_unary : (sign : Sign) (v : Value) (rest : List Slot) → p.slots ≡ slot.Value v ∷ rest → held_does g (i.Unary sign) p h ≡ then_at (on rest) (settled (signed sign v), h)
  at_unary sign v rest e = ap (λ ss. held_out (value_on ss (λ w us. gives p us (lift (signed sign w))) (state_of h))) e ∙ lifted rest (signed sign v)

  -- ---- operators of two values, the second of which is on top

  both : (f : Value → Value → Called Value) (w v : Value) (mid rest : List Slot) → p.slots ≡ slot.Value w ∷ mid → mid ≡ slot.Value v ∷ rest → held_out (value_on p.slots (λ b us. value_on us (λ a os. gives p os (lift (f a b)))) (state_of h)) ≡ then_at (on rest) (settled (f v w), h)
  both f w v mid rest e k =
      ap (λ ss. held_out (value_on ss (λ b us. value_on us (λ a os. gives p os (lift (f a b)))) (state_of h))) (e ∙ ap (λ us. slot.Value w ∷ us) k) ∙ lifted rest (f v w)

  pub at_at : (w v : Value) (mid rest : List Slot) → p.slots ≡ slot.Value w ∷ mid → mid ≡ slot.Value v ∷ rest → held_does g i.At p h ≡ then_at (on rest) (settled (part_of v w), h)
  at_at w v mid rest e k = both part_of w v mid rest e k

  pub at_product : (sign : Sign) (w v : Value) (mid rest : List Slot) → p.slots ≡ slot.Value w ∷ mid → mid ≡ slot.Value v ∷ rest → held_does g (i.Product sign) p h ≡ then_at (on rest) (settled (multiplied sign v w), h)
  at_product sign w v mid rest e k = both (multiplied sign) w v mid rest e k

  pub at_sum : (sign : Sign) (w v : Value) (mid rest : List Slot) → p.slots ≡ slot.Value w ∷ mid → mid ≡ slot.Value v ∷ rest → held_does g (i.Sum sign) p h ≡ then_at (on rest) (settled (summed sign v w), h)
  at_sum sign w v mid rest e k = both (summed sign) w v mid rest e k

  pub at_compare : (sign : Sign) (w v : Value) (mid rest : List Slot) → p.slots ≡ slot.Value w ∷ mid → mid ≡ slot.Value v ∷ rest → held_does g (i.Compare sign) p h ≡ then_at (on rest) (settled (compared sign v w), h)
  at_compare sign w v mid rest e k = both (compared sign) w v mid rest e k

  -- ---- calls

  -- a value as the fuel pays for it
  abbrev billed_on : List Slot → Value → Spot
  billed_on rest v = spot (p.pc + 1) (billed h.state.fuel v ∷ rest)

  called_by : (rest : List Slot) (r : Called Value) → held_out ((lift r >>= (λ v s. to p (billed s.fuel v ∷ rest) s)) (state_of h)) ≡ then_at (billed_on rest) (settled r, h)
  called_by rest (Ok v) = stays (billed_on rest v)
  called_by rest (Err e) = ap (λ (x : Held). let z : Result Spot Stop × Held = (Err (stops.Failed e), x) in z) held

  pub at_call : (f : Function) (vs : List Value) (rest : List Slot) → p.slots ≡ slot.Values vs ∷ rest → held_does g (i.Call f) p h ≡ then_at (billed_on rest) (settled (called f vs), h)
  at_call f vs rest e = ap (λ ss. held_out (values_on ss (λ ws us. lift (called f ws) >>= (λ v s. to p (billed s.fuel v ∷ us) s)) (state_of h))) e ∙ called_by rest (called f vs)

  -- what is made of what `apply` answers with the fuel that is left
  module _ (f : Function) (vs : List Value) (rest : List Slot) (on_top : p.slots ≡ slot.Values vs ∷ rest) where
    abbrev answered : Called Value → Called Value
    answered r = and_then r (afforded h.state.fuel)

    paid_by : (v w : Value) (b : Bool) → (let r : Called Value = if b then failed OutOfFuel [] else Ok w in r) ≡ Ok v → goes (spot (p.pc + 1) ((if b then slot.Unpaid else slot.Value w) ∷ rest)) ≡ goes (on rest v)
    paid_by v w true is = absurd (cc)
    paid_by v w false is = let same : w ≡ v = cc in ap (λ x. goes (on rest x)) same

    paid : (v : Value) (r : Called Value) → answered r ≡ Ok v → then_at (billed_on rest) (settled r, h) ≡ goes (on rest v)
    paid v (Ok w) is = paid_by v w (nat_lt h.state.fuel (1 + size w)) is
    paid v (Err e) is = absurd (cc)

    pub at_paid : (v : Value) → applied f vs h.state.fuel ≡ Ok v → held_does g (i.Call f) p h ≡ goes (on rest v)
    at_paid v is = at_call f vs rest on_top ∙ paid v (called f vs) is

    unpaid_by : (e : CellError) (w : Value) (b : Bool) → (let r : Called Value = if b then failed OutOfFuel [] else Ok w in r) ≡ Err e → goes (spot (p.pc + 1) ((if b then slot.Unpaid else slot.Value w) ∷ rest)) ≡ goes (spot (p.pc + 1) (slot.Unpaid ∷ rest))
    unpaid_by e w true is = refl
    unpaid_by e w false is = absurd (cc)

    unpaid_of : (e : CellError) (r : Called Value) → NotFuel r → answered r ≡ Err e → e.kind ≡ OutOfFuel → then_at (billed_on rest) (settled r, h) ≡ goes (spot (p.pc + 1) (slot.Unpaid ∷ rest))
    unpaid_of e (Ok w) not is k = unpaid_by e w (nat_lt h.state.fuel (1 + size w)) is
    unpaid_of e (Err x) not is k = let same : x ≡ e = cc in absurd (not (ap (λ z. z.kind) same ∙ k))

    pub at_unbilled : (e : CellError) → applied f vs h.state.fuel ≡ Err e → e.kind ≡ OutOfFuel → held_does g (i.Call f) p h ≡ goes (spot (p.pc + 1) (slot.Unpaid ∷ rest))
    at_unbilled e is k = at_call f vs rest on_top ∙ unpaid_of e (called f vs) (called_not f vs) is k

    abbrev ends : CellError → Result Spot Stop × Held
    ends e = (Err (stops.Failed e), h)

    failed_by : (e : CellError) (w : Value) (b : Bool) → (let r : Called Value = if b then failed OutOfFuel [] else Ok w in r) ≡ Err e → e.kind ≢ OutOfFuel → ⊥
    failed_by e w true is k = k (let same : error OutOfFuel [] ≡ e = cc in ap (λ z. z.kind) (sym same))
    failed_by e w false is k = cc

    failed_of : (e : CellError) (r : Called Value) → answered r ≡ Err e → e.kind ≢ OutOfFuel → then_at (billed_on rest) (settled r, h) ≡ ends e
    failed_of e (Ok w) is k = absurd (failed_by e w (nat_lt h.state.fuel (1 + size w)) is k)
    failed_of e (Err x) is k = let same : x ≡ e = cc in ap (λ z. ends z) same

    pub at_failed : (e : CellError) → applied f vs h.state.fuel ≡ Err e → e.kind ≢ OutOfFuel → held_does g (i.Call f) p h ≡ ends e
    at_failed e is k = at_call f vs rest on_top ∙ failed_of e (called f vs) is k

    pub at_wrong_count : length vs ≢ arity f → held_does g (i.Call f) p h ≡ ends (error WrongKind (function_name f))
    at_wrong_count n = at_call f vs rest on_top ∙ ap (λ (r : Called Value). then_at (billed_on rest) (settled r, h)) (wrong_count f vs n)

-- where it goes on with something on top, unless memory runs out
pub goes_unless : (d : Result Spot Stop × Held) (h : Held) (at q : Spot) (r : Result (Unit {0}) Stop) → d ≡ (let z : Result Spot Stop × Held = (Ok at, h) in z) → OnOk r (q ≡ at) → IfErr r (λ e. e ≡ stops.Memory) → r ≢ Err stops.Memory → d ≡ (moved r q, h)
goes_unless d h at q (Ok u) is ok err other = is ∙ ap (λ (x : Spot). let z : Result Spot Stop × Held = (Ok x, h) in z) (sym ok)
goes_unless d h at q (Err e) is ok err other = absurd (other (ap Err err))
