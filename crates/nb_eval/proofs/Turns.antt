-- One more turn of a loop: of a `while`, and of a `for`.
use Rattle.std.proofs.Common.{◌≡◌, ◌≤◌, ◌<◌, ℕ, zero, suc, Bool, true, false, List, ◌∷◌, length, take, codes, Ok, Err, if◌then◌else◌, refl, sym, ap, ◌∙◌, subst, arith}
use Rattle.std.specs.Prelude.{nat_lt}
use Rattle.std.proofs.lemmas.List.{length-take-le}
use Rattle.nb_value.specs.declared.value.Value.{Value}
use Rattle.nb_eval.specs.declared.given.Segment.{Segment}
use Rattle.nb_eval.specs.declared.state.State.{State}
use Rattle.nb_eval.specs.declared.stop.Stop.{Stop}
use Rattle.nb_eval.specs.Run.{Run, Out, ◌>>◌, charge, tick, keep, scoped, budget, truth_of, settled, Meets, Gives}
use Rattle.nb_eval.specs.Evaluation.{turns, each}
use Rattle.nb_eval.proofs.Spending.{WentTo, if_case, the_out}

-- as many turns are left as the budget has, and they come to out
abbrev pub LeftTo : Segment → Run Value → Run (Unit {0}) → State → Out (Unit {0}) → Type 0
LeftTo given test body s out = (n : ℕ) × (budget given s ≤ n) × (turns (suc n) test body s ≡ out)

next : (given : Segment) (test : Run Value) (body : Run (Unit {0})) (s s1 s2 : State) (v : Value) (out : Out (Unit {0})) (n : ℕ) → budget given s ≤ n → turns (suc n) test body s ≡ out → test s ≡ (Ok v, s1) → settled (truth_of (codes "while") v) ≡ Ok true → body s1 ≡ (Ok tt, s2) → budget given s2 < budget given s → LeftTo given test body s2 out
next given test body s s1 s2 v out zero le e ht hv hb lt = absurd (omega arith)
next given test body s s1 s2 v out (suc m) le e ht hv hb lt =
    let step : turns (suc (suc m)) test body s ≡ turns (suc m) test body s2 = rw (ht, hv, hb) in
    (m, omega arith, sym step ∙ e)

pub next_turn : (given : Segment) (test : Run Value) (body : Run (Unit {0})) (s s1 s2 : State) (v : Value) (b : Bool) (out : Out (Unit {0})) → LeftTo given test body s out → Meets (Ok v) s1 (test s) → Gives (Ok b) (truth_of (codes "while") v) → b ≡ true → Meets (Ok tt) s2 (body s1) → budget given s2 < budget given s → LeftTo given test body s2 out
next_turn given test body s s1 s2 v b out left ht hv eb hb lt =
    next given test body s s1 s2 v out left.0 left.1 left.2 (ht (λ e. cc)) (hv (λ e. cc) ∙ ap (λ x. Ok x) eb) (hb (λ e. cc)) lt

-- ---- a turn of a `for`, at whose start the local of the turn before may stand

abbrev pub cut : ℕ → State → State
cut len s = record s { locals = take len s.locals }

if_cut : (len : ℕ) (b : Bool) (o p o' p' : Out (Unit {0})) → o' ≡ (o.0, cut len o.1) → p' ≡ (p.0, cut len p.1) → (if b then o' else p') ≡ ((if b then o else p).0, cut len (if b then o else p).1)
if_cut len true o p o' p' e f = e
if_cut len false o p o' p' e f = f

-- a charge doesn't see the locals
charge_cut : (len n : ℕ) (s : State) → charge n (cut len s) ≡ ((charge n s).0, cut len (charge n s).1)
charge_cut len n s = if_cut len (nat_lt s.fuel n) _ _ _ _ refl refl

tick_cut : (len : ℕ) (s t : State) → tick s ≡ (the_out (Unit {0}) tt t) → tick (cut len s) ≡ (the_out (Unit {0}) tt (cut len t))
tick_cut len s t e = charge_cut len 1 s ∙ ap (λ (o : Out (Unit {0})). (o.0, cut len o.1)) e

charge_locals : (n : ℕ) (s : State) → WentTo (Unit {0}) (λ t. t.locals ≡ s.locals) (charge n s).0 (charge n s).1
charge_locals n s = if_case (Unit {0}) (λ o. WentTo (Unit {0}) (λ t. t.locals ≡ s.locals) o.0 o.1) (nat_lt s.fuel n) _ _ (λ e. tt) (λ e. refl)

pub tick_locals : (s t : State) → tick s ≡ (the_out (Unit {0}) tt t) → t.locals ≡ s.locals
tick_locals s t e = subst (λ (o : Out (Unit {0})). WentTo (Unit {0}) (λ t. t.locals ≡ s.locals) o.0 o.1) e (charge_locals 1 s)

module _ (charges keeps body rest : Run (Unit {0})) (s t u v : State) where
  turned : charges s ≡ (the_out (Unit {0}) tt t) → keeps t ≡ (the_out (Unit {0}) tt u) → body u ≡ (the_out (Unit {0}) tt v) → (charges >> scoped (keeps >> body) >> rest) s ≡ rest (cut (length t.locals) v)
  turned hc hk hb = rw (hc, hk, hb)

  unpaid : (e : Stop) → charges s ≡ (Err e, t) → (charges >> scoped (keeps >> body) >> rest) s ≡ (Err e, t)
  unpaid e hc = rw hc

  stopped : (e : Stop) → charges s ≡ (the_out (Unit {0}) tt t) → keeps t ≡ (the_out (Unit {0}) tt u) → body u ≡ (Err e, v) → (charges >> scoped (keeps >> body) >> rest) s ≡ (Err e, v)
  stopped e hc hk hb = rw (hc, hk, hb)

module _ (name : List ℕ) (body : Run (Unit {0})) (w : Value) (ws : List Value) (len : ℕ) (s t u v : State) where
  pub next_item : tick s ≡ (the_out (Unit {0}) tt t) → keep name w (cut len t) ≡ (the_out (Unit {0}) tt u) → body u ≡ (the_out (Unit {0}) tt v) → len ≤ length t.locals → each name body (w ∷ ws) (cut len s) ≡ each name body ws (cut len v)
  next_item hc hk hb le =
      turned tick (keep name w) body (each name body ws) (cut len s) (cut len t) u v (tick_cut len s t hc) hk hb ∙ ap (λ n. each name body ws (cut n v)) (length-take-le len t.locals le)

  pub unpaid_item : (e : Stop) → tick (cut len s) ≡ (Err e, t) → each name body (w ∷ ws) (cut len s) ≡ (Err e, t)
  unpaid_item e hc = unpaid tick (keep name w) body (each name body ws) (cut len s) t u v e hc

  pub stopped_item : (e : Stop) → tick s ≡ (the_out (Unit {0}) tt t) → keep name w (cut len t) ≡ (the_out (Unit {0}) tt u) → body u ≡ (Err e, v) → each name body (w ∷ ws) (cut len s) ≡ (Err e, v)
  stopped_item e hc hk hb = stopped tick (keep name w) body (each name body ws) (cut len s) (cut len t) u v e (tick_cut len s t hc) hk hb
