-- A greater pull count only extends the yields and the cleanups.
use Rattle.std.proofs.Common.{◌≡◌, ◌⊎◌, inl, inr, ℕ, suc, ◌+◌, ◌≤◌, Bool, true, false, [], ◌∷◌, ◌++◌, length, Result, Ok, Err, refl, sym, ap, subst, arith}
use Rattle.std.specs.Prelude.{nat_lt, if◌then◌else◌}
use Rattle.std.proofs.lemmas.Bool.Decides.{nat_tests}
use Rattle.nb_syntax.specs.declared.tree.Body.{Body}
use Rattle.nb_value.specs.declared.value.Value.{Value}
use Rattle.nb_value.specs.Value.{size}
use Rattle.nb_eval.specs.declared.stop.Stop.{Stop}
use Rattle.nb_eval.specs.declared.stop.Stop.TheVariants.{Paused}
use Rattle.nb_eval.specs.declared.given.Segment.{Segment}
use Rattle.nb_eval.specs.declared.state.State.{State}
use Rattle.nb_eval.specs.Run.{Run, Out, after, charge, read, yielded, cleaned, ask_text, budget, full_fuel}
use Rattle.nb_eval.specs.Evaluation.{eval_body, loop, turns, Did, Acts}
use Rattle.nb_eval.proofs.Closed.{Closed, Claim, both_turns, both_body}
use Rattle.nb_eval.proofs.MoreAnswers.{Grown, grown_refl, grown_trans, grown_same, prefix_refl, extends_charge, extends_clean, extends_ask}
use Rattle.nb_eval.proofs.Spending as paying

-- it stopped at its pull count, and the other went on from there
abbrev pub PulledOn : (A : Type 0) → Out A → Out A → Type 0
PulledOn A o o' = (o.0 ≡ Err Paused) × Grown o.1 o'.1

pub record Extends (A : Type 0) (s : State) (o o' : Out A) : Type 0 where
  pub same_or_on : (o ≡ o') ⊎ PulledOn A o o'
  pub grown : Grown s o'.1

same : (A : Type 0) (s : State) (o : Out A) → Grown s o.1 → Extends A s o o
same A s o h = record { same_or_on = inl refl; grown = h }

module _ (A B : Type 0) (f f' : A → Run B) (hf : (a : A) (t : State) → Extends B t (f a t) (f' a t)) where
  after_same : (s t : State) (r : Result A Stop) → Grown s t → Extends B s (after r t f) (after r t f')
  after_same s t (Ok a) h = let k = hf a t in record { same_or_on = k.same_or_on; grown = grown_trans s t (f' a t).1 h k.grown }
  after_same s t (Err e) h = same B s (Err e, t) h

  grows_on : (t : State) (r : Result A Stop) → Grown t (after r t f').1
  grows_on t (Ok a) = (hf a t).grown
  grows_on t (Err e) = grown_refl t

  bind : (s : State) (o o' : Out A) → Extends A s o o' → Extends B s (after o.0 o.1 f) (after o'.0 o'.1 f')
  bind s o o' h = elim h.same_or_on [
    | inl e ↦ rw e (after_same s o'.1 o'.0 h.grown)
    | inr w ↦ record {
      same_or_on = inr (ap (λ r. (after r o.1 f).0) w.0, subst (λ (r : Result A Stop). Grown (after r o.1 f).1 (after o'.0 o'.1 f').1) (sym w.0) (grown_trans o.1 o'.1 (after o'.0 o'.1 f').1 w.1 (grows_on o'.1 o'.0)));
      grown = grown_trans s o'.1 (after o'.0 o'.1 f').1 h.grown (grows_on o'.1 o'.0);
    }
  ]

extends_if : (A : Type 0) (s : State) (b : Bool) (x x' y y' : Out A) → Extends A s x x' → Extends A s y y' → Extends A s (if b then x else y) (if b then x' else y')
extends_if A s true x x' y y' hx hy = hx
extends_if A s false x x' y y' hx hy = hy

module _ (g : Segment) (most : ℕ) (le : g.pulls ≤ most) where
  abbrev pub with_pulls : Segment
  with_pulls = record g { pulls = most }

  -- and where it went on, the budget paid
  abbrev pub Weak : Claim
  Weak A s o o' = Extends A s o o' × paying.WentTo A (paying.Pays g s) o.0 o.1

  abbrev pub Strong : Claim
  Strong A s o o' = Extends A s o o' × paying.WentTo A (paying.PaysMore g s) o.0 o.1

  by_pulls : (s : State) (b c : Bool) → nat_lt (length s.yields) g.pulls ≡ b → nat_lt (length s.yields) most ≡ c → Extends (Unit {0}) s (if b then (Ok tt, record s { fuel = full_fuel; fetches = 0 }) else (Err Paused, s)) (if c then (Ok tt, record s { fuel = full_fuel; fetches = 0 }) else (Err Paused, s))
  by_pulls s true true e f = same (Unit {0}) s _ (grown_same s (record s { fuel = full_fuel; fetches = 0 }) refl refl refl)
  by_pulls s true false e f = absurd (grind (arith, nat_tests))
  by_pulls s false true e f =
      let on = grown_same s (record s { fuel = full_fuel; fetches = 0 }) refl refl refl in
      record { same_or_on = inr (refl, on); grown = on }
  by_pulls s false false e f = same (Unit {0}) s _ (grown_refl s)

  after_grown : (A : Type 0) (s t : State) (o o' : Out A) → Grown s t → Extends A t o o' → Extends A s o o'
  after_grown A s t o o' h k = record { same_or_on = k.same_or_on; grown = grown_trans s t o'.1 h k.grown }

  of_yield : (v : Value) (s : State) → Extends (Unit {0}) s (yielded g v s) (yielded with_pulls v s)
  of_yield v s =
      let t : State = record s { yields = s.yields ++ v ∷ [] } in
      let grown : Grown s t = record { yields = (v ∷ [], refl); cleanups = prefix_refl Value s.cleanups; charges = omega arith } in
      extends_if (Unit {0}) s (nat_lt 16384 (size v)) _ _ _ _ (same (Unit {0}) s _ (grown_refl s))
      (after_grown (Unit {0}) s t _ _ grown (by_pulls t (nat_lt (length t.yields) g.pulls) (nat_lt (length t.yields) most) refl refl))

  pub closed : Closed false true g with_pulls Weak Strong
  closed =
      let pays = paying.closed g in
      record {
        weaken = λ A s o o' h. (h.0, pays.weaken A s o o' h.1);
        strong_charge = λ n s. (same (Unit {0}) s (charge (1 + n) s) (extends_charge (1 + n) s), pays.strong_charge n s);
        strong_left = λ A B p p' f f' s hp hf. (bind A B f f' (λ a t. (hf a t).0) s (p s) (p' s) hp.0, pays.strong_left A B p p f f s hp.1 (λ a t. (hf a t).1));
        strong_right = λ A B p p' f f' s hp hf. (bind A B f f' (λ a t. (hf a t).0) s (p s) (p' s) hp.0, pays.strong_right A B p p f f s hp.1 (λ a t. (hf a t).1));
        of_pure = λ A a s. (same A s (Ok a, s) (grown_refl s), pays.of_pure A a s);
        of_failure = λ A e s. (same A s _ (grown_refl s), pays.of_failure A e s);
        of_return = λ v s. (same (Unit {0}) s _ (grown_refl s), pays.of_return v s);
        of_bind = λ A B p p' f f' s hp hf. (bind A B f f' (λ a t. (hf a t).0) s (p s) (p' s) hp.0, pays.of_bind A B p p f f s hp.1 (λ a t. (hf a t).1));
        of_read = λ name s. (same Value s (read g name s) (grown_refl s), pays.of_read name s);
        of_locals = λ ls s. (same (Unit {0}) s (Ok tt, record s { locals = ls }) (grown_same s (record s { locals = ls }) refl refl refl), pays.of_locals ls s);
        of_yield = λ p q v s. (of_yield v s, pays.of_yield p q v s);
        of_clean = λ p v s. (same (Unit {0}) s (cleaned v s) (extends_clean g v s), pays.of_clean p v s);
        of_ask = λ p key s. (same Value s (ask_text g key s) (extends_ask g key s), pays.of_ask p key s);
      }

  fewer : (s : State) → budget g s ≤ budget with_pulls s
  fewer s = omega arith

  loop_too : (t t' : Did) (b b' : Acts) → ((s : State) → Strong Value s (t s) (t' s)) → ((s : State) → Weak (Unit {0}) s (b s) (b' s)) → (s : State) → Weak (Unit {0}) s (loop g t b s) (loop with_pulls t' b' s)
  loop_too t t' b b' ht hb s =
      let n = suc (budget with_pulls s) in
      let raise : turns n t b s ≡ loop g t b s = paying.turns_same g t b
      (λ x y v e. let p = paying.went g Value (paying.PaysMore g x) (t x) v y e (ht x).1 in omega (arith, p.0, p.1))
      (λ x y e. let p = paying.went g (Unit {0}) (paying.Pays g x) (b x) tt y e (hb x).1 in omega (arith, p.0, p.1))
      n (suc (budget g s)) s (omega (arith, fewer s)) (omega arith) in
      subst (λ (o : Out (Unit {0})). Weak (Unit {0}) s o (loop with_pulls t' b' s)) raise
      (both_turns false true g with_pulls Weak Strong closed n t t' b b' (λ x. closed.weaken Value x (t x) (t' x) (ht x)) hb s)

  -- the law
  pub more_pulls : (b : Body) (s : State) → Extends Value s (eval_body g b s) (eval_body with_pulls b s)
  more_pulls b s = (both_body false true g with_pulls Weak Strong closed loop_too b (λ p. absurd (cc)) (λ p. absurd (cc)) s).0
