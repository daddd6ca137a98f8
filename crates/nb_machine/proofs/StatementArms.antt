-- What the instructions of statements are over what is held.
use Rattle.std.proofs.Common.{◌≡◌, ℕ, ◌+◌, ◌-◌, Bool, true, false, List, [], ◌∷◌, length, Option, Some, None, Result, Ok, Err, refl, sym, ap, ◌∙◌, subst, codes}
use Rattle.std.specs.Prelude.{if◌then◌else◌}
use Rattle.nb_value.specs.declared.value.Value.{Value}
use Rattle.nb_eval.specs.declared.given.Segment.{Segment}
use Rattle.nb_eval.specs.declared.stop.Stop.{Stop}
use Rattle.nb_eval.specs.declared.stop.Stop.TheVariants as stops
use Rattle.nb_eval.specs.Run.{Run, Out, ◌>>=◌, pure, settled, lift, tick, keep, assign, cut_to, as_truth, truth_of, items_of}
use Rattle.nb_machine.specs.declared.instr.Instr.{Instr}
use Rattle.nb_machine.specs.declared.instr.Instr.TheVariants as i
use Rattle.nb_machine.specs.declared.instr.Slot.{Slot}
use Rattle.nb_machine.specs.declared.instr.Slot.TheVariants as slot
use Rattle.nb_machine.specs.declared.instr.Word.{Word}
use Rattle.nb_machine.specs.Machine.{Spot, spot, Goes, text_of, acts, to, value_on, mark_on, turns_on, jump, unless, turns_left, take_turn}
use Rattle.nb_machine.specs.Held.{Held, IsHeld, state_of, held_out, held_does, over, left_by}
use Rattle.nb_machine.proofs.Deaf.{Deaf, of_charge, of_lift, of_keep, of_assign, of_cut, over_held, then_at}

module _ (g : Segment) (p : Spot) (h : Held) (held : IsHeld h) where
  -- an action, with this stack after it
  acted : (ss : List Slot) (d : Run (Unit {0})) → Deaf (Unit {0}) d → held_out (acts p ss d (state_of h)) ≡ then_at (λ u. spot (p.pc + 1) ss) (over h (d h.state))
  acted ss d deaf = over_held (Unit {0}) d deaf (λ u. spot (p.pc + 1) ss) h held

  -- to another spot, or to an end
  abbrev goes : Spot → Result Spot Stop × Held
  goes q = (Ok q, h)

  stays : (q : Spot) → held_out (pure q (state_of h)) ≡ goes q
  stays q = ap (λ (x : Held). let z : Result Spot Stop × Held = (Ok q, x) in z) held

  ends : (x : Stop) → held_out (let o : Out Spot = (Err x, state_of h) in o) ≡ (let z : Result Spot Stop × Held = (Err x, h) in z)
  ends x = ap (λ (k : Held). let z : Result Spot Stop × Held = (Err x, k) in z) held

  pub at_tick : held_does g i.Tick p h ≡ then_at (λ u. spot (p.pc + 1) p.slots) (over h (tick h.state))
  at_tick = acted p.slots tick (of_charge 1)

  pub at_unless : (w : Word) (skip : ℕ) (v : Value) (rest : List Slot) → p.slots ≡ slot.Value v ∷ rest → held_does g (i.Unless w skip) p h ≡ then_at (λ b. spot (if b then p.pc + 1 else p.pc + 1 + skip) rest) (settled (truth_of (text_of w) v), h)
  at_unless w skip v rest e = ap (λ ss. held_out (value_on ss (λ x us. as_truth (text_of w) x >>= unless p us skip) (state_of h))) e ∙ over_held Bool (as_truth (text_of w) v) (of_lift Bool (truth_of (text_of w) v)) (λ b. spot (if b then p.pc + 1 else p.pc + 1 + skip) rest) h held

  pub at_when : (w : Word) (skip : ℕ) (v : Value) (rest : List Slot) → p.slots ≡ slot.Value v ∷ rest → held_does g (i.When w skip) p h ≡ then_at (λ b. spot (if b then p.pc + 1 + skip else p.pc + 1) rest) (settled (truth_of (text_of w) v), h)
  at_when w skip v rest e = ap (λ ss. held_out (value_on ss (λ x us. as_truth (text_of w) x >>= jump p us skip) (state_of h))) e ∙ over_held Bool (as_truth (text_of w) v) (of_lift Bool (truth_of (text_of w) v)) (λ b. spot (if b then p.pc + 1 + skip else p.pc + 1) rest) h held

  pub at_go : (skip : ℕ) → held_does g (i.Go skip) p h ≡ goes (spot (p.pc + 1 + skip) p.slots)
  at_go skip = stays (spot (p.pc + 1 + skip) p.slots)

  pub at_back : (n : ℕ) → held_does g (i.Back n) p h ≡ goes (spot (p.pc - n) p.slots)
  at_back n = stays (spot (p.pc - n) p.slots)

  pub at_let : (n : List ℕ) (v : Value) (rest : List Slot) → p.slots ≡ slot.Value v ∷ rest → held_does g (i.Let n) p h ≡ then_at (λ u. spot (p.pc + 1) rest) (over h (keep n v h.state))
  at_let n v rest e = ap (λ ss. held_out (value_on ss (λ w us. acts p us (keep n w)) (state_of h))) e ∙ acted rest (keep n v) (of_keep n v)

  pub at_assign : (n : List ℕ) (v : Value) (rest : List Slot) → p.slots ≡ slot.Value v ∷ rest → held_does g (i.Assign n) p h ≡ then_at (λ u. spot (p.pc + 1) rest) (over h (assign n v h.state))
  at_assign n v rest e = ap (λ ss. held_out (value_on ss (λ w us. acts p us (assign n w)) (state_of h))) e ∙ acted rest (assign n v) (of_assign n v)

  pub at_enter : held_does g i.Enter p h ≡ goes (spot (p.pc + 1) (slot.Mark (length h.state.locals) ∷ p.slots))
  at_enter = stays (spot (p.pc + 1) (slot.Mark (length h.state.locals) ∷ p.slots))

  pub at_leave : (n : ℕ) (rest : List Slot) → p.slots ≡ slot.Mark n ∷ rest → held_does g i.Leave p h ≡ then_at (λ u. spot (p.pc + 1) rest) (over h (cut_to n h.state))
  at_leave n rest e = ap (λ ss. held_out (mark_on ss (λ m us. acts p us (cut_to m)) (state_of h))) e ∙ acted rest (cut_to n) (of_cut n)

  pub at_turns : (v : Value) (rest : List Slot) → p.slots ≡ slot.Value v ∷ rest → held_does g i.Turns p h ≡ then_at (λ vs. spot (p.pc + 1) (slot.Turns vs ∷ rest)) (settled (items_of (codes "for") v), h)
  at_turns v rest e = ap (λ ss. held_out (value_on ss (λ x us. lift (items_of (codes "for") x) >>= (λ vs. to p (slot.Turns vs ∷ us))) (state_of h))) e ∙ over_held (List Value) (lift (items_of (codes "for") v)) (of_lift (List Value) (items_of (codes "for") v)) (λ vs. spot (p.pc + 1) (slot.Turns vs ∷ rest)) h held

  -- where no turns are left, and where one is
  pub at_last : (skip : ℕ) (rest : List Slot) → p.slots ≡ slot.Turns [] ∷ rest → held_does g (i.Next skip) p h ≡ goes (spot (p.pc + 1 + skip) rest)
  at_last skip rest e = ap (λ ss. held_out (turns_on ss (turns_left p skip) (state_of h))) e ∙ stays (spot (p.pc + 1 + skip) rest)

  pub at_next : (skip : ℕ) (v : Value) (vs : List Value) (rest : List Slot) → p.slots ≡ slot.Turns (v ∷ vs) ∷ rest → held_does g (i.Next skip) p h ≡ goes (spot (p.pc + 1) (slot.Turns (v ∷ vs) ∷ rest))
  at_next skip v vs rest e = ap (λ ss. held_out (turns_on ss (turns_left p skip) (state_of h))) e ∙ stays (spot (p.pc + 1) (slot.Turns (v ∷ vs) ∷ rest))

  pub at_take : (n : List ℕ) (v : Value) (vs : List Value) (rest : List Slot) → p.slots ≡ slot.Turns (v ∷ vs) ∷ rest → held_does g (i.Take n) p h ≡ then_at (λ u. spot (p.pc + 1) (slot.Mark (length h.state.locals) ∷ slot.Turns vs ∷ rest)) (over h (keep n v h.state))
  at_take n v vs rest e = ap (λ ss. held_out (turns_on ss (take_turn p n) (state_of h))) e ∙ acted (slot.Mark (length h.state.locals) ∷ slot.Turns vs ∷ rest) (keep n v) (of_keep n v)

  pub at_return : (v : Value) (rest : List Slot) → p.slots ≡ slot.Value v ∷ rest → held_does g i.Return p h ≡ (let z : Result Spot Stop × Held = (Err (stops.Done v), h) in z)
  at_return v rest e = ap (λ ss. held_out (value_on ss (λ w us s. (Err (stops.Done w), s)) (state_of h))) e ∙ ends (stops.Done v)
