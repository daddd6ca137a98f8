-- Answers added at the end only extend the yields and the cleanups.
use Rattle.std.proofs.Common.{◌≡◌, ◌⊎◌, inl, inr, ℕ, zero, suc, ◌+◌, ◌≤◌, Bool, true, false, List, [], ◌∷◌, ◌++◌, length, Option, Some, None, Result, Ok, Err, refl, sym, ap, ◌∙◌, subst, arith, append_assoc, append-nil}
use Rattle.std.specs.Prelude.{slice_get, nat_lt, if◌then◌else◌}
use Rattle.nb_value.specs.declared.value.Value.{Value}
use Rattle.nb_value.specs.Value.{size}
use Rattle.nb_syntax.specs.declared.tree.Body.{Body}
use Rattle.nb_eval.specs.declared.stop.Stop.{Stop}
use Rattle.nb_eval.specs.declared.stop.Stop.TheVariants.{Needs}
use Rattle.nb_value.specs.declared.outcome.Answer.{Answer}
use Rattle.nb_eval.specs.declared.given.Segment.{Segment}
use Rattle.nb_eval.specs.declared.state.State.{State}
use Rattle.nb_eval.specs.Run.{Run, Out, after, charge, read, yielded, cleaned, ask_text, answered, budget}
use Rattle.nb_eval.specs.Evaluation.{eval_body, loop, Did, Acts}
use Rattle.nb_eval.proofs.Closed.{Closed, both_turns, both_body}

abbrev pub IsPrefix : (A : Type 0) → List A → List A → Type 0
IsPrefix A xs ys = (zs : List A) × (ys ≡ xs ++ zs)

pub prefix_refl : (A : Type 0) (xs : List A) → IsPrefix A xs xs
prefix_refl A xs = ([], sym (append-nil xs))

prefix_trans : (A : Type 0) (xs ys zs : List A) → IsPrefix A xs ys → IsPrefix A ys zs → IsPrefix A xs zs
prefix_trans A xs ys zs h k = (h.0 ++ k.0, k.1 ∙ ap (λ l. l ++ k.0) h.1 ∙ append_assoc xs h.0 k.0)

pub record Grown (s t : State) : Type 0 where
  pub yields : IsPrefix Value s.yields t.yields
  pub cleanups : IsPrefix Value s.cleanups t.cleanups
  pub charges : s.charges ≤ t.charges

pub grown_refl : (s : State) → Grown s s
grown_refl s = record { yields = prefix_refl Value s.yields; cleanups = prefix_refl Value s.cleanups; charges = omega arith }

-- a state with the same yields, cleanups and charges
pub grown_same : (s t : State) → t.yields ≡ s.yields → t.cleanups ≡ s.cleanups → t.charges ≡ s.charges → Grown s t
grown_same s t y k h = record { yields = ([], y ∙ sym (append-nil s.yields)); cleanups = ([], k ∙ sym (append-nil s.cleanups)); charges = omega arith }

pub grown_trans : (s t u : State) → Grown s t → Grown t u → Grown s u
grown_trans s t u h k = record {
  yields = prefix_trans Value s.yields t.yields u.yields h.yields k.yields;
  cleanups = prefix_trans Value s.cleanups t.cleanups u.cleanups h.cleanups k.cleanups;
  charges = omega (arith, h.charges, k.charges);
}

-- it stopped for want of an answer, and the other went on from there
abbrev pub WentOn : (A : Type 0) → Out A → Out A → Type 0
WentOn A o o' = (key : List ℕ) × (o.0 ≡ Err (Needs key)) × Grown o.1 o'.1

pub record Extends (A : Type 0) (s : State) (o o' : Out A) : Type 0 where
  pub same_or_on : (o ≡ o') ⊎ WentOn A o o'
  pub grown : Grown s o'.1

same : (A : Type 0) (s : State) (o : Out A) → Grown s o.1 → Extends A s o o
same A s o h = record { same_or_on = inl refl; grown = h }

pub grown_if : (A : Type 0) (s : State) (b : Bool) (x y : Out A) → Grown s x.1 → Grown s y.1 → Grown s (if b then x else y).1
grown_if A s true x y hx hy = hx
grown_if A s false x y hx hy = hy

module _ (A B : Type 0) (f f' : A → Run B) (hf : (a : A) (t : State) → Extends B t (f a t) (f' a t)) where
  after_same : (s t : State) (r : Result A Stop) → Grown s t → Extends B s (after r t f) (after r t f')
  after_same s t (Ok a) h = let k = hf a t in record { same_or_on = k.same_or_on; grown = grown_trans s t (f' a t).1 h k.grown }
  after_same s t (Err e) h = same B s (Err e, t) h

  grows_on : (t : State) (r : Result A Stop) → Grown t (after r t f').1
  grows_on t (Ok a) = (hf a t).grown
  grows_on t (Err e) = grown_refl t

  bind : (s : State) (o o' : Out A) → Extends A s o o' → Extends B s (after o.0 o.1 f) (after o'.0 o'.1 f')
  bind s o o' h = elim h.same_or_on [
    | inl e ↦ rw e (after_same s o'.1 o'.0 h.grown)
    | inr w ↦ record {
      same_or_on = inr (w.0, ap (λ r. (after r o.1 f).0) w.1, subst (λ (r : Result A Stop). Grown (after r o.1 f).1 (after o'.0 o'.1 f').1) (sym w.1) (grown_trans o.1 o'.1 (after o'.0 o'.1 f').1 w.2 (grows_on o'.1 o'.0)));
      grown = grown_trans s o'.1 (after o'.0 o'.1 f').1 h.grown (grows_on o'.1 o'.0);
    }
  ]

-- ---- each step

slice_get_more : (xs ys : List Answer) (k : ℕ) (x : Answer) → slice_get xs k ≡ Some x → slice_get (xs ++ ys) k ≡ Some x
slice_get_more [] ys k x e = absurd (cc)
slice_get_more (y ∷ xs) ys zero x e = e
slice_get_more (y ∷ xs) ys (suc k) x e = slice_get_more xs ys k x e

of_charge : (n : ℕ) (s : State) → Extends (Unit {0}) s (charge n s) (charge n s)
of_charge n s = same (Unit {0}) s (charge n s)
    (grown_if (Unit {0}) s (nat_lt s.fuel n) _ _
    (record { yields = prefix_refl Value s.yields; cleanups = prefix_refl Value s.cleanups; charges = omega arith })
    (record { yields = prefix_refl Value s.yields; cleanups = prefix_refl Value s.cleanups; charges = omega arith }))

module _ (g : Segment) (more : List Answer) where
  abbrev pub with_more : Segment
  with_more = record g { answers = g.answers ++ more }

  next_value : (o : Option Answer) (key : List ℕ) (s t : State) → slice_get g.answers s.taken ≡ o → t.taken ≡ s.taken → Grown s t → Extends Value s (answered o key t) (answered (slice_get (g.answers ++ more) s.taken) key t)
  next_value None key s t e same_taken h = from_none (slice_get (g.answers ++ more) s.taken)
    where
      from_none : (o : Option Answer) → Extends Value s (answered None key t) (answered o key t)
      from_none None = same Value s (answered None key t) h
      from_none (Some a) =
          let on : Grown t (record t { taken = t.taken + 1 }) = grown_same t (record t { taken = t.taken + 1 }) refl refl refl in
          record { same_or_on = inr (key, refl, on); grown = grown_trans s t (record t { taken = t.taken + 1 }) h on }
  next_value (Some a) key s t e same_taken h =
      rw (slice_get_more g.answers more s.taken a e)
      (same Value s (answered (Some a) key t) (grown_trans s t (record t { taken = t.taken + 1 }) h (grown_same t (record t { taken = t.taken + 1 }) refl refl refl)))

  extends_if : (A : Type 0) (s : State) (b : Bool) (x x' y y' : Out A) → Extends A s x x' → Extends A s y y' → Extends A s (if b then x else y) (if b then x' else y')
  extends_if A s true x x' y y' hx hy = hx
  extends_if A s false x x' y y' hx hy = hy

  of_ask : (key : List ℕ) (s : State) → Extends Value s (ask_text g key s) (ask_text with_more key s)
  of_ask key s =
      extends_if Value s (nat_lt 1024 (1 + length key)) _ _ _ _ (same Value s _ (grown_refl s))
      (extends_if Value s (nat_lt s.fetches 64) _ _ _ _
      (next_value (slice_get g.answers s.taken) key s (record s { fetches = s.fetches + 1 }) refl refl (grown_same s (record s { fetches = s.fetches + 1 }) refl refl refl))
      (same Value s _ (grown_refl s)))

  of_yield : (v : Value) (s : State) → Extends (Unit {0}) s (yielded g v s) (yielded with_more v s)
  of_yield v s =
      same (Unit {0}) s (yielded g v s)
      (grown_if (Unit {0}) s (nat_lt 16384 (size v)) _ _ (grown_refl s)
      (grown_if (Unit {0}) s (nat_lt (length (s.yields ++ v ∷ [])) g.pulls) _ _
      (record { yields = (v ∷ [], refl); cleanups = prefix_refl Value s.cleanups; charges = omega arith })
      (record { yields = (v ∷ [], refl); cleanups = prefix_refl Value s.cleanups; charges = omega arith })))

  of_clean : (v : Value) (s : State) → Extends (Unit {0}) s (cleaned v s) (cleaned v s)
  of_clean v s =
      same (Unit {0}) s (cleaned v s)
      (grown_if (Unit {0}) s (nat_lt 1024 (size v)) _ _ (grown_refl s)
      (grown_if (Unit {0}) s (nat_lt (length s.cleanups) 16) _ _
      (record { yields = prefix_refl Value s.yields; cleanups = (v ∷ [], refl); charges = omega arith })
      (grown_refl s)))

  closed : Closed false true g with_more Extends Extends
  closed = record {
    of_pure = λ A a s. same A s (Ok a, s) (grown_refl s);
    of_failure = λ A e s. same A s _ (grown_refl s);
    of_return = λ v s. same (Unit {0}) s _ (grown_refl s);
    of_bind = λ A B p p' f f' s hp hf. bind A B f f' hf s (p s) (p' s) hp;
    weaken = λ A s o o' h. h;
    strong_charge = λ n s. of_charge (1 + n) s;
    strong_left = λ A B p p' f f' s hp hf. bind A B f f' hf s (p s) (p' s) hp;
    strong_right = λ A B p p' f f' s hp hf. bind A B f f' hf s (p s) (p' s) hp;
    of_read = λ name s. same _ s (read g name s) (grown_refl s);
    of_locals = λ ls s. same (Unit {0}) s (Ok tt, record s { locals = ls }) (grown_same s (record s { locals = ls }) refl refl refl);
    of_yield = λ p q. of_yield;
    of_clean = λ p. of_clean;
    of_ask = λ p. of_ask;
  }

  loop_too : (t t' : Did) (b b' : Acts) → ((s : State) → Extends Value s (t s) (t' s)) → ((s : State) → Extends (Unit {0}) s (b s) (b' s)) → (s : State) → Extends (Unit {0}) s (loop g t b s) (loop with_more t' b' s)
  loop_too t t' b b' ht hb s = both_turns false true g with_more Extends Extends closed (suc (budget g s)) t t' b b' ht hb s

  -- the law
  pub more_answers : (b : Body) (s : State) → Extends Value s (eval_body g b s) (eval_body with_more b s)
  more_answers b s = both_body false true g with_more Extends Extends closed loop_too b (λ p. absurd (cc)) (λ p. absurd (cc)) s

-- a charge, a cleanup and a fetch only extend
pub extends_charge : (n : ℕ) (s : State) → Grown s (charge n s).1
extends_charge n s = (of_charge n s).grown

pub extends_clean : (g : Segment) (v : Value) (s : State) → Grown s (cleaned v s).1
extends_clean g v s = (of_clean g [] v s).grown

pub extends_ask : (g : Segment) (key : List ℕ) (s : State) → Grown s (ask_text g key s).1
extends_ask g key s = subst (λ (x : List Answer). Grown s (ask_text (record g { answers = x }) key s).1) (append-nil g.answers) (of_ask g [] key s).grown
