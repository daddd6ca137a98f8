-- What the instructions of fetches, yields, cleanups and throws are over what is held.
use Rattle.std.proofs.Common.{◌≡◌, ℕ, ◌+◌, ◌-◌, Bool, true, false, List, [], ◌∷◌, ◌++◌, length, Option, Some, None, Result, Ok, Err, refl, sym, ap, ◌∙◌, subst, codes, arith, length-append}
use Rattle.std.specs.Prelude.{slice_get, nat_lt, if◌then◌else◌}
use Rattle.nb_value.specs.declared.value.Value.{Value, out-Value}
use Rattle.nb_value.specs.declared.value.Value.TheOpen as value
use Rattle.nb_value.specs.declared.outcome.Answer.{Answer}
use Rattle.nb_value.specs.declared.outcome.ErrorKind.TheVariants.{TooLarge}
use Rattle.nb_value.specs.Value.{size}
use Rattle.nb_eval.specs.declared.given.Segment.{Segment}
use Rattle.nb_eval.specs.declared.state.State.{State}
use Rattle.nb_eval.specs.declared.stop.Stop.{Stop}
use Rattle.nb_eval.specs.declared.stop.Stop.TheVariants as stops
use Rattle.std.specs.Prelude.{◌<◌, ◌≤◌}
use Rattle.std.proofs.lemmas.Bool.Decides.{nat_tests}
use Rattle.nb_eval.specs.Run.{Run, Out, after, failed, ◌>>=◌, pure, error, full_fuel, settled, lift, ask, ask_at, answered, yielded, cleaned, thrown}
use Rattle.nb_eval.specs.Evaluation.{last_of}
use Rattle.nb_machine.specs.declared.instr.Instr.{Instr}
use Rattle.nb_machine.specs.declared.instr.Instr.TheVariants as i
use Rattle.nb_machine.specs.declared.instr.Slot.{Slot}
use Rattle.nb_machine.specs.declared.instr.Slot.TheVariants as slot
use Rattle.nb_machine.specs.Machine.{Spot, spot, acts, gives, value_on}
use Rattle.nb_machine.specs.Held.{Held, IsHeld, some_yields, state_of, hold, held_out, held_does, over, left_by, top_value}
use Rattle.nb_machine.proofs.Blind.{last_added}
use Rattle.nb_machine.proofs.Deaf.{Deaf, no_yields, of_lift, of_ask, of_clean, over_held, then_at}

module _ (g : Segment) (p : Spot) (h : Held) (held : IsHeld h) where
  -- an action, with this stack after it
  acted : (ss : List Slot) (d : Run (Unit {0})) → Deaf (Unit {0}) d → held_out (acts p ss d (state_of h)) ≡ then_at (λ u. spot (p.pc + 1) ss) (over h (d h.state))
  acted ss d deaf = over_held (Unit {0}) d deaf (λ u. spot (p.pc + 1) ss) h held

  pub at_throw : (v : Value) (rest : List Slot) → p.slots ≡ slot.Value v ∷ rest → held_does g i.Throw p h ≡ then_at (λ u. spot (p.pc + 1) rest) (settled (thrown v), h)
  at_throw v rest e = ap (λ ss. held_out (value_on ss (λ w us. acts p us (lift (thrown w))) (state_of h))) e ∙ acted rest (lift (thrown v)) (of_lift (Unit {0}) (thrown v))

  pub at_cleanup : (v : Value) (rest : List Slot) → p.slots ≡ slot.Value v ∷ rest → held_does g i.Cleanup p h ≡ then_at (λ u. spot (p.pc + 1) rest) (over h (cleaned v h.state))
  at_cleanup v rest e = ap (λ ss. held_out (value_on ss (λ w us. acts p us (cleaned w)) (state_of h))) e ∙ acted rest (cleaned v) (of_clean v)

  pub at_fetch : (v : Value) (rest : List Slot) → p.slots ≡ slot.Value v ∷ rest → held_does g i.Fetch p h ≡ then_at (λ w. spot (p.pc + 1) (slot.Value w ∷ rest)) (over h (ask g v h.state))
  at_fetch v rest e = ap (λ ss. held_out (value_on ss (λ x us. gives p us (ask g x)) (state_of h))) e ∙ over_held Value (ask g v) (of_ask g v) (λ w. spot (p.pc + 1) (slot.Value w ∷ rest)) h held

  -- ---- yields

  abbrev ys : List Value
  ys = some_yields h.made h.last

  same_state : record h.state { yields = [] } ≡ h.state
  same_state = ap (λ us. record h.state { yields = us }) (sym (no_yields h held))

  module _ (v : Value) where
    one_more : length (ys ++ v ∷ []) ≡ h.made + 1
    one_more = let count : length ys ≡ h.made = ap (λ (x : Held). x.made) held in omega (arith, count, length-append ys (v ∷ []))

    -- what is held with the value, with full fuel or not
    abbrev yields_in : (State → State) → ℕ → Option Value → Held
    yields_in f n last = record { state = f (record h.state { yields = [] }); made = n; last = last }

    abbrev counted : (State → State) → Held
    counted f = record { state = f h.state; made = h.made + 1; last = Some v }

    counts : (f : State → State) → yields_in f (length (ys ++ v ∷ [])) (last_of (ys ++ v ∷ [])) ≡ counted f
    counts f =
        ap (λ n. yields_in f n (last_of (ys ++ v ∷ []))) one_more ∙ ap (λ x. yields_in f (h.made + 1) x) (last_added ys v)
        ∙ ap (λ (s : State). let k : Held = record { state = f s; made = h.made + 1; last = Some v } in k) same_state

    abbrev full_of : State → State
    full_of s = record s { fuel = full_fuel; fetches = 0 }

    abbrev on_yields : Bool → Out (Unit {0})
    on_yields b = if b then (Ok tt, record h.state { yields = ys ++ v ∷ []; fuel = full_fuel; fetches = 0 }) else (Err stops.Paused, record h.state { yields = ys ++ v ∷ [] })

    abbrev held_yields : Bool → Result (Unit {0}) Stop × Held
    held_yields b = if b then (Ok tt, counted full_of) else (Err stops.Paused, counted (λ s. s))

    goes_on_with : (rest : List Slot) (b : Bool) → held_out (after (on_yields b).0 (on_yields b).1 (λ u. pure (spot (p.pc + 1) rest))) ≡ then_at (λ u. spot (p.pc + 1) rest) (held_yields b)
    goes_on_with rest true = ap (λ (k : Held). let z : Result Spot Stop × Held = (Ok (spot (p.pc + 1) rest), k) in z) (counts full_of)
    goes_on_with rest false = ap (λ (k : Held). let z : Result Spot Stop × Held = (Err stops.Paused, k) in z) (counts (λ s. s))

    abbrev too_large : Result (Unit {0}) Stop × Held
    too_large = (Err (stops.Failed (error TooLarge (codes "value"))), h)

    by_size : (rest : List Slot) (b : Bool) → held_out (let o : Out (Unit {0}) = if b then (settled (failed TooLarge (codes "value")), state_of h) else on_yields (nat_lt (length (ys ++ v ∷ [])) g.pulls) in after o.0 o.1 (λ u. pure (spot (p.pc + 1) rest)))
        ≡ then_at (λ u. spot (p.pc + 1) rest) (if b then too_large else held_yields (nat_lt (h.made + 1) g.pulls))
    by_size rest true = ap (λ (k : Held). let z : Result Spot Stop × Held = (Err (stops.Failed (error TooLarge (codes "value"))), k) in z) held
    by_size rest false = goes_on_with rest (nat_lt (length (ys ++ v ∷ [])) g.pulls) ∙ ap (λ n. then_at (λ u. spot (p.pc + 1) rest) (held_yields (nat_lt n g.pulls))) one_more

    at_yield : (rest : List Slot) → p.slots ≡ slot.Value v ∷ rest → held_does g i.Yield p h ≡ then_at (λ u. spot (p.pc + 1) rest) (if nat_lt 16384 (size v) then too_large else held_yields (nat_lt (h.made + 1) g.pulls))
    at_yield rest e = ap (λ ss. held_out (value_on ss (λ x us. acts p us (yielded g x)) (state_of h))) e ∙ by_size rest (nat_lt 16384 (size v))

    -- by the size of the value and the number of pulls
    abbrev choice : List Slot → Bool → Bool → Result Spot Stop × Held
    choice rest b c = then_at (λ u. spot (p.pc + 1) rest) (if b then too_large else held_yields c)

    top_is : (ss : List Slot) → top_value ss ≡ Some v → (rest : List Slot) × (ss ≡ slot.Value v ∷ rest)
    top_is [] e = absurd (cc)
    top_is (slot.Value w ∷ ss) e = let same : w ≡ v = cc in (ss, ap (λ x. slot.Value x ∷ ss) same)
    top_is (slot.Unpaid ∷ ss) e = absurd (cc)
    top_is (slot.Values vs ∷ ss) e = absurd (cc)
    top_is (slot.Fields fs ∷ ss) e = absurd (cc)
    top_is (slot.Turns vs ∷ ss) e = absurd (cc)
    top_is (slot.Mark n ∷ ss) e = absurd (cc)

    pub at_too_large : top_value p.slots ≡ Some v → 16384 < size v → held_does g i.Yield p h ≡ (let z : Result Spot Stop × Held = (Err (stops.Failed (error TooLarge (codes "value"))), h) in z)
    at_too_large top lt =
        let at = top_is p.slots top in
        let large : nat_lt 16384 (size v) ≡ true = grind (arith, nat_tests) in
        at_yield at.0 at.1 ∙ ap (λ b. choice at.0 b (nat_lt (h.made + 1) g.pulls)) large

    pub at_paused : top_value p.slots ≡ Some v → size v ≤ 16384 → g.pulls ≤ h.made + 1 → held_does g i.Yield p h ≡ (let z : Result Spot Stop × Held = (Err stops.Paused, record h { made = h.made + 1; last = top_value p.slots }) in z)
    at_paused top le last =
        let at = top_is p.slots top in
        let small : nat_lt 16384 (size v) ≡ false = grind (arith, nat_tests) in
        let paused : nat_lt (h.made + 1) g.pulls ≡ false = grind (arith, nat_tests) in
        at_yield at.0 at.1 ∙ ap (λ b. choice at.0 b (nat_lt (h.made + 1) g.pulls)) small ∙ ap (λ c. choice at.0 false c) paused
        ∙ ap (λ x. let z : Result Spot Stop × Held = (Err stops.Paused, record h { made = h.made + 1; last = x }) in z) (sym top)

    pub at_yielded : (rest : List Slot) → p.slots ≡ slot.Value v ∷ rest → size v ≤ 16384 → h.made + 1 < g.pulls → held_does g i.Yield p h ≡ (let z : Result Spot Stop × Held = (Ok (spot (p.pc + 1) rest), record { state = record h.state { fuel = full_fuel; fetches = 0 }; made = h.made + 1; last = Some v }) in z)
    at_yielded rest e le more =
        let small : nat_lt 16384 (size v) ≡ false = grind (arith, nat_tests) in
        let pulled : nat_lt (h.made + 1) g.pulls ≡ true = grind (arith, nat_tests) in
        at_yield rest e ∙ ap (λ b. choice rest b (nat_lt (h.made + 1) g.pulls)) small ∙ ap (λ c. choice rest false c) pulled
