-- The budget pays for each charge, and an expression makes one.
use Rattle.std.proofs.Common.{◌≡◌, ℕ, zero, suc, ◌+◌, ◌-◌, ◌<◌, ◌≤◌, Bool, true, false, List, [], ◌∷◌, ◌++◌, length, Option, Some, None, Result, Ok, Err, refl, subst, codes, arith, length-append}
use Rattle.std.specs.Prelude.{slice_get, nat_lt, if◌then◌else◌}
use Rattle.std.proofs.lemmas.Bool.Decides.{nat_tests}
use Rattle.nb_syntax.specs.declared.tree.Expr.{Expr}
use Rattle.nb_syntax.specs.declared.tree.Block.{Block}
use Rattle.nb_value.specs.declared.value.Value.{Value}
use Rattle.nb_value.specs.Value.{size}
use Rattle.nb_eval.specs.declared.stop.Stop.{Stop}
use Rattle.nb_value.specs.declared.outcome.Answer.{Answer}
use Rattle.nb_value.specs.declared.outcome.Answer.TheVariants as answer
use Rattle.nb_eval.specs.declared.given.Segment.{Segment}
use Rattle.nb_eval.specs.declared.state.State.{State}
use Rattle.nb_eval.specs.Run.{Run, Out, after, ◌>>=◌, ◌>>◌, pure, Called, lift, truth_of, as_truth, charge, yielded, cleaned, ask_text, answered, budget, full_fuel}
use Rattle.nb_eval.specs.Evaluation.{eval, act_block, loop, turns, either, Did, Acts}
use Rattle.nb_eval.proofs.Closed.{Closed, Claim, both_turns, both_eval, both_block}

-- the result of a run that went on
abbrev pub WentTo : (A : Type 0) → (State → Type 0) → Result A Stop → State → Type 0
WentTo A P (Ok a) t = P t
WentTo A P (Err e) t = Unit {0}

pub if_case : (A : Type 0) (P : Out A → Type 0) (b : Bool) (x y : Out A) → (b ≡ true → P x) → (b ≡ false → P y) → P (if b then x else y)
if_case A P true x y hx hy = hx refl
if_case A P false x y hx hy = hy refl

abbrev pub the_out : (A : Type 0) → A → State → Out A
the_out A a t = (Ok a, t)

module _ (g : Segment) where
  abbrev pub Pays : State → State → Type 0
  Pays s t = (s.charges ≤ t.charges) × (t.charges + budget g t ≤ s.charges + budget g s)

  abbrev pub PaysMore : State → State → Type 0
  PaysMore s t = (s.charges < t.charges) × (t.charges + budget g t ≤ s.charges + budget g s)

  abbrev pub Weak : Claim
  Weak A s o o' = WentTo A (Pays s) o.0 o.1

  abbrev pub Strong : Claim
  Strong A s o o' = WentTo A (PaysMore s) o.0 o.1

  weaken : (A : Type 0) (s t : State) (r : Result A Stop) → WentTo A (PaysMore s) r t → WentTo A (Pays s) r t
  weaken A s t (Ok a) h = (omega (arith, h.0), h.1)
  weaken A s t (Err e) h = tt

  on : (A : Type 0) (s t u : State) (r : Result A Stop) → Pays s t → WentTo A (Pays t) r u → WentTo A (Pays s) r u
  on A s t u (Ok a) h k = (omega (arith, h.0, k.0), omega (arith, h.1, k.1))
  on A s t u (Err e) h k = tt

  on_left : (A : Type 0) (s t u : State) (r : Result A Stop) → PaysMore s t → WentTo A (Pays t) r u → WentTo A (PaysMore s) r u
  on_left A s t u (Ok a) h k = (omega (arith, h.0, k.0), omega (arith, h.1, k.1))
  on_left A s t u (Err e) h k = tt

  on_right : (A : Type 0) (s t u : State) (r : Result A Stop) → Pays s t → WentTo A (PaysMore t) r u → WentTo A (PaysMore s) r u
  on_right A s t u (Ok a) h k = (omega (arith, h.0, k.0), omega (arith, h.1, k.1))
  on_right A s t u (Err e) h k = tt

  module _ (A B : Type 0) (f : A → Run B) (s : State) where
    bind : (t : State) (r : Result A Stop) → WentTo A (Pays s) r t → ((a : A) (u : State) → WentTo B (Pays u) (f a u).0 (f a u).1) → WentTo B (Pays s) (after r t f).0 (after r t f).1
    bind t (Ok a) h k = on B s t (f a t).1 (f a t).0 h (k a t)
    bind t (Err e) h k = tt

    left : (t : State) (r : Result A Stop) → WentTo A (PaysMore s) r t → ((a : A) (u : State) → WentTo B (Pays u) (f a u).0 (f a u).1) → WentTo B (PaysMore s) (after r t f).0 (after r t f).1
    left t (Ok a) h k = on_left B s t (f a t).1 (f a t).0 h (k a t)
    left t (Err e) h k = tt

    right : (t : State) (r : Result A Stop) → WentTo A (Pays s) r t → ((a : A) (u : State) → WentTo B (PaysMore u) (f a u).0 (f a u).1) → WentTo B (PaysMore s) (after r t f).0 (after r t f).1
    right t (Ok a) h k = on_right B s t (f a t).1 (f a t).0 h (k a t)
    right t (Err e) h k = tt

  pub pays_same : (s t : State) → t.charges ≡ s.charges → t.fuel ≡ s.fuel → t.yields ≡ s.yields → Pays s t
  pays_same s t c f y = let b : budget g t ≡ budget g s = cc in (omega arith, omega arith)

  paid : (n : ℕ) (s : State) → nat_lt s.fuel (1 + n) ≡ false → PaysMore s (record s { fuel = s.fuel - (1 + n); charges = s.charges + 1 })
  paid n s e = let le : 1 + n ≤ s.fuel = grind (arith, nat_tests) in (omega arith, omega arith)

  refilled : (v : Value) (s : State) → nat_lt (length (s.yields ++ v ∷ [])) g.pulls ≡ true → Pays s (record s { yields = s.yields ++ v ∷ []; fuel = full_fuel; fetches = 0 })
  refilled v s e =
      let more : length (s.yields ++ v ∷ []) ≡ length s.yields + 1 = omega (arith, length-append s.yields (v ∷ [])) in
      let lt : length (s.yields ++ v ∷ []) < g.pulls = grind (arith, nat_tests) in
      (omega arith, omega arith)

  strong_charge : (n : ℕ) (s : State) → WentTo (Unit {0}) (PaysMore s) (charge (1 + n) s).0 (charge (1 + n) s).1
  strong_charge n s =
      if_case (Unit {0}) (λ o. WentTo (Unit {0}) (PaysMore s) o.0 o.1) (nat_lt s.fuel (1 + n)) _ _ (λ e. tt) (λ e. paid n s e)

  of_yield : (v : Value) (s : State) → WentTo (Unit {0}) (Pays s) (yielded g v s).0 (yielded g v s).1
  of_yield v s =
      if_case (Unit {0}) (λ o. WentTo (Unit {0}) (Pays s) o.0 o.1) (nat_lt 16384 (size v)) _ _ (λ e. tt)
      (λ e. if_case (Unit {0}) (λ o. WentTo (Unit {0}) (Pays s) o.0 o.1) (nat_lt (length (s.yields ++ v ∷ [])) g.pulls) _ _ (λ f. refilled v s f) (λ f. tt))

  of_clean : (v : Value) (s : State) → WentTo (Unit {0}) (Pays s) (cleaned v s).0 (cleaned v s).1
  of_clean v s =
      if_case (Unit {0}) (λ o. WentTo (Unit {0}) (Pays s) o.0 o.1) (nat_lt 1024 (size v)) _ _ (λ e. tt)
      (λ e. if_case (Unit {0}) (λ o. WentTo (Unit {0}) (Pays s) o.0 o.1) (nat_lt (length s.cleanups) 16) _ _ (λ f. (omega arith, omega arith)) (λ f. tt))

  of_answer : (o : Option Answer) (key : List ℕ) (s : State) → let t : State = record s { fetches = s.fetches + 1 } in WentTo Value (Pays s) (answered o key t).0 (answered o key t).1
  of_answer None key s = tt
  of_answer (Some (answer.Value v)) key s = (omega arith, omega arith)
  of_answer (Some (answer.Failure x)) key s = tt

  of_ask : (key : List ℕ) (s : State) → WentTo Value (Pays s) (ask_text g key s).0 (ask_text g key s).1
  of_ask key s =
      if_case Value (λ o. WentTo Value (Pays s) o.0 o.1) (nat_lt 1024 (1 + length key)) _ _ (λ e. tt)
      (λ e. if_case Value (λ o. WentTo Value (Pays s) o.0 o.1) (nat_lt s.fetches 64) _ _ (λ f. of_answer (slice_get g.answers s.taken) key s) (λ f. tt))

  pub closed : Closed false true g g Weak Strong
  closed = record {
    weaken = λ A s o o' h. weaken A s o.1 o.0 h;
    strong_charge = strong_charge;
    strong_left = λ A B p p' f f' s hp hf. left A B f s (p s).1 (p s).0 hp hf;
    strong_right = λ A B p p' f f' s hp hf. right A B f s (p s).1 (p s).0 hp hf;
    of_pure = λ A a s. (omega arith, omega arith);
    of_failure = λ A e s. tt;
    of_return = λ v s. tt;
    of_bind = λ A B p p' f f' s hp hf. bind A B f s (p s).1 (p s).0 hp hf;
    of_read = λ name s. (omega arith, omega arith);
    of_locals = λ ls s. (omega arith, omega arith);
    of_yield = λ p q. of_yield;
    of_clean = λ p. of_clean;
    of_ask = λ p. of_ask;
  }

  pub went : (A : Type 0) (P : State → Type 0) (o : Out A) (a : A) (t : State) → o ≡ (the_out A a t) → WentTo A P o.0 o.1 → P t
  went A P o a t e h = subst (λ (x : Out A). WentTo A P x.0 x.1) e h

  -- a loop keeps to it too
  loop_too : (t t' : Did) (b b' : Acts) → ((s : State) → Strong Value s (t s) (t' s)) → ((s : State) → Weak (Unit {0}) s (b s) (b' s)) → (s : State) → Weak (Unit {0}) s (loop g t b s) (loop g t' b' s)
  loop_too t t' b b' ht hb s = both_turns false true g g Weak Strong closed (suc (budget g s)) t t' b b' (λ u. weaken Value u (t u).1 (t u).0 (ht u)) hb s

  pub eval_pays : (e : Expr) (s : State) → WentTo Value (PaysMore s) (eval g e s).0 (eval g e s).1
  eval_pays e s = both_eval false true g g Weak Strong closed e (λ p. absurd (cc)) s

  pub block_pays : (b : Block) (s : State) → WentTo (Unit {0}) (Pays s) (act_block g b s).0 (act_block g b s).1
  block_pays b s = both_block false true g g Weak Strong closed loop_too b (λ p. absurd (cc)) (λ p. absurd (cc)) s

  pub eval_less : (e : Expr) (s t : State) (v : Value) → eval g e s ≡ the_out Value v t → budget g t < budget g s
  eval_less e s t v h = let p = went Value (PaysMore s) (eval g e s) v t h (eval_pays e s) in omega (arith, p.0, p.1)

  -- ---- a loop needs no more turns than its budget, so it is one turn and then the loop

  module _ (d : Did) (b : Acts) (less : (s t : State) (v : Value) → d s ≡ the_out Value v t → budget g t < budget g s) (no_more : (s t : State) → b s ≡ the_out (Unit {0}) tt t → budget g t ≤ budget g s) where
    after_body : (p q : Acts) (t : State) (o : Out (Unit {0})) → b t ≡ o → ((u : State) → budget g u ≤ budget g t → p u ≡ q u) → after o.0 o.1 (λ _. p) ≡ after o.0 o.1 (λ _. q)
    after_body p q t o e ih = by_cases o.0 o.1 e
      where
        by_cases : (r : Result (Unit {0}) Stop) (u : State) → b t ≡ (r, u) → after r u (λ _. p) ≡ after r u (λ _. q)
        by_cases (Ok x) u f = ih u (no_more t u f)
        by_cases (Err x) u f = refl

    after_test : (p q : Acts) (t : State) (x : Bool) → ((u : State) → budget g u ≤ budget g t → p u ≡ q u) → either (b >> p) (pure tt) x t ≡ either (b >> q) (pure tt) x t
    after_test p q t true ih = after_body p q t (b t) refl ih
    after_test p q t false ih = refl

    after_value : (p q : Acts) (v : Value) (t : State) → ((u : State) → budget g u ≤ budget g t → p u ≡ q u) → (as_truth (codes "while") v >>= (either (b >> p) (pure tt))) t ≡ (as_truth (codes "while") v >>= (either (b >> q) (pure tt))) t
    after_value p q v t ih = by_kind (truth_of (codes "while") v)
      where
        by_kind : (r : Called Bool) → (lift r >>= (either (b >> p) (pure tt))) t ≡ (lift r >>= (either (b >> q) (pure tt))) t
        by_kind (Ok x) = after_test p q t x ih
        by_kind (Err e) = refl

    one_turn : (p q : Acts) (s : State) → ((u : State) → budget g u < budget g s → p u ≡ q u) → (d >>= as_truth (codes "while") >>= (either (b >> p) (pure tt))) s ≡ (d >>= as_truth (codes "while") >>= (either (b >> q) (pure tt))) s
    one_turn p q s ih = by_cases (d s).0 (d s).1 refl
      where
        by_cases : (r : Result Value Stop) (t : State) → d s ≡ (r, t) → after (after r t (as_truth (codes "while"))).0 (after r t (as_truth (codes "while"))).1 (either (b >> p) (pure tt)) ≡ after (after r t (as_truth (codes "while"))).0 (after r t (as_truth (codes "while"))).1 (either (b >> q) (pure tt))
        by_cases (Ok v) t e = after_value p q v t (λ u le. ih u (omega (arith, less s t v e)))
        by_cases (Err x) t e = refl

    pub turns_same : (n m : ℕ) (s : State) → budget g s < n → budget g s < m → turns n d b s ≡ turns m d b s
    turns_same zero m s hn hm = absurd (omega arith)
    turns_same (suc n) zero s hn hm = absurd (omega arith)
    turns_same (suc n) (suc m) s hn hm = one_turn (turns n d b) (turns m d b) s (λ u lt. turns_same n m u (omega arith) (omega arith))

    -- one turn, and then the loop again
    pub loop_is : (s : State) → loop g d b s ≡ (d >>= as_truth (codes "while") >>= (either (b >> loop g d b) (pure tt))) s
    loop_is s = one_turn (turns (budget g s) d b) (loop g d b) s (λ u lt. turns_same (budget g s) (suc (budget g u)) u lt (omega arith))
