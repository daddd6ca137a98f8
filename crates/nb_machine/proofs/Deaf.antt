-- What doesn't look at the yields does the same over what is held.
use Rattle.std.proofs.Common.{◌≡◌, ℕ, ◌+◌, ◌-◌, Bool, true, false, List, [], ◌∷◌, ◌++◌, length, Option, Some, None, Result, Ok, Err, refl, sym, ap, ◌∙◌, subst, take}
use Rattle.std.specs.Prelude.{slice_get, slice_set, nat_lt, codes, if◌then◌else◌}
use Rattle.nb_value.specs.declared.value.Value.{Value, out-Value}
use Rattle.nb_value.specs.declared.value.Value.TheOpen as value
use Rattle.nb_value.specs.declared.pairs.Field.{Field}
use Rattle.nb_value.specs.declared.outcome.Answer.{Answer}
use Rattle.nb_value.specs.declared.outcome.ErrorKind.TheVariants.{WrongKind, OutOfFuel}
use Rattle.nb_value.specs.Value.{size}
use Rattle.nb_eval.specs.declared.given.Segment.{Segment}
use Rattle.nb_eval.specs.declared.state.State.{State}
use Rattle.nb_eval.specs.declared.stop.Stop.{Stop}
use Rattle.nb_eval.specs.declared.stop.Stop.TheVariants as stops
use Rattle.nb_eval.specs.Locals.{name_value, place}
use Rattle.nb_eval.specs.Run.{Run, Out, after, ◌>>=◌, pure, Called, failed, settled, lift, error, charge, read, keep, assign, assign_at, cut_to, ask, ask_at, ask_text, answered, cleaned}
use Rattle.nb_eval.specs.Evaluation.{last_of}
use Rattle.nb_machine.specs.declared.instr.Slot.{Slot}
use Rattle.nb_machine.specs.declared.instr.Slot.TheVariants as slot
use Rattle.nb_machine.specs.Machine.{Spot, owed}
use Rattle.nb_machine.specs.Held.{Held, hold, some_yields, state_of, held_out, over, IsHeld}

-- with these yields
abbrev pub put : (A : Type 0) → List Value → Out A → Out A
put A ys o = (o.0, record o.1 { yields = ys })

abbrev pub Deaf : (A : Type 0) → Run A → Type 0
Deaf A p = (s : State) (ys : List Value) → p (record s { yields = ys }) ≡ put A ys (p s)

put_if : (A : Type 0) (ys : List Value) (b : Bool) (x x' y y' : Out A) → x' ≡ put A ys x → y' ≡ put A ys y → (if b then x' else y') ≡ put A ys (if b then x else y)
put_if A ys true x x' y y' hx hy = hx
put_if A ys false x x' y y' hx hy = hy

pub of_charge : (n : ℕ) → Deaf (Unit {0}) (charge n)
of_charge n s ys = put_if (Unit {0}) ys (nat_lt s.fuel n) _ _ _ _ refl refl

pub of_lift : (A : Type 0) (r : Called A) → Deaf A (lift r)
of_lift A r s ys = refl

pub of_read : (g : Segment) (name : List ℕ) → Deaf Value (read g name)
of_read g name s ys = refl

pub of_keep : (name : List ℕ) (v : Value) → Deaf (Unit {0}) (keep name v)
of_keep name v s ys = refl

pub of_cut : (n : ℕ) → Deaf (Unit {0}) (cut_to n)
of_cut n s ys = refl

of_assign_at : (at : Option ℕ) (name : List ℕ) (v : Value) → Deaf (Unit {0}) (assign_at at name v)
of_assign_at None name v s ys = refl
of_assign_at (Some at) name v s ys = refl

pub of_assign : (name : List ℕ) (v : Value) → Deaf (Unit {0}) (assign name v)
of_assign name v s ys = of_assign_at (place name s.locals) name v s ys

of_answer : (o : Option Answer) (key : List ℕ) → Deaf Value (answered o key)
of_answer None key s ys = refl
of_answer (Some a) key s ys = refl

of_ask_at : (g : Segment) (x : value.Value-F Value) → Deaf Value (ask_at g x)
of_ask_at g (value.Text key) s ys =
    put_if Value ys (nat_lt 1024 (1 + length key)) _ _ _ _ refl (put_if Value ys (nat_lt s.fetches 64) _ _ _ _ (of_answer (slice_get g.answers s.taken) key (record s { fetches = s.fetches + 1 }) ys) refl)
of_ask_at g x s ys = refl

pub of_ask : (g : Segment) (v : Value) → Deaf Value (ask g v)
of_ask g v = of_ask_at g (out-Value v)

pub of_clean : (v : Value) → Deaf (Unit {0}) (cleaned v)
of_clean v s ys = put_if (Unit {0}) ys (nat_lt 1024 (size v)) _ _ _ _ refl (put_if (Unit {0}) ys (nat_lt (length s.cleanups) 16) _ _ _ _ refl refl)

pub of_owed : (ss : List Slot) → Deaf (Unit {0}) (owed ss)
of_owed (slot.Value v ∷ ss) s ys = of_charge (1 + size v) s ys
of_owed (slot.Unpaid ∷ ss) s ys = refl
of_owed [] s ys = refl
of_owed (slot.Values vs ∷ ss) s ys = refl
of_owed (slot.Fields fs ∷ ss) s ys = refl
of_owed (slot.Turns vs ∷ ss) s ys = refl
of_owed (slot.Mark n ∷ ss) s ys = refl

-- ---- over what is held

-- no yields are held
pub no_yields : (h : Held) → IsHeld h → h.state.yields ≡ []
no_yields h held = sym (ap (λ (x : Held). x.state.yields) held)

-- what was done, and where it goes on by what it gave
abbrev pub then_at : {A : Type 0} → (A → Spot) → Result A Stop × Held → Result Spot Stop × Held
then_at q (Ok a, k) = (Ok (q a), k)
then_at q (Err x, k) = (Err x, k)

module _ (A : Type 0) (d : Run A) (deaf : Deaf A d) (q : A → Spot) (h : Held) (held : IsHeld h) where
  abbrev zs : List Value
  zs = some_yields h.made h.last

  same_state : record h.state { yields = [] } ≡ h.state
  same_state = ap (λ us. record h.state { yields = us }) (sym (no_yields h held))

  quiet : d h.state ≡ put A [] (d h.state)
  quiet = ap d (sym same_state) ∙ deaf h.state []

  held_as : (t : State) → record t { yields = [] } ≡ t → hold (record t { yields = zs }) ≡ record h { state = t }
  held_as t e =
      ap (λ (x : Held). record x { state = record t { yields = [] } }) held ∙ ap (λ (u : State). record h { state = u }) e

  by_result : (r : Result A Stop) (t : State) → record t { yields = [] } ≡ t → held_out (after r (record t { yields = zs }) (λ a. pure (q a))) ≡ then_at q (r, record h { state = t })
  by_result (Ok a) t e = ap (λ (x : Held). let z : Result Spot Stop × Held = (Ok (q a), x) in z) (held_as t e)
  by_result (Err x) t e = ap (λ (y : Held). let z : Result Spot Stop × Held = (Err x, y) in z) (held_as t e)

  -- an action, and the spot after it
  pub over_held : held_out ((d >>= (λ a. pure (q a))) (state_of h)) ≡ then_at q (over h (d h.state))
  over_held =
      ap (λ (o : Out A). held_out (after o.0 o.1 (λ a. pure (q a)))) (deaf h.state zs)
      ∙ by_result (d h.state).0 (d h.state).1 (sym (ap (λ (o : Out A). o.1) quiet))
