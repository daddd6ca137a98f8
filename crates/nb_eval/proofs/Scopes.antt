-- What evaluation leaves of the locals: those that stood keep their names, and a block leaves no others.
use Rattle.std.proofs.Common.{◌≡◌, ◌≤◌, ℕ, suc, ◌+◌, true, false, List, [], ◌∷◌, ◌++◌, length, map, take, Option, Some, None, Result, Ok, Err, refl, sym, ap, ◌∙◌, append-nil, append_assoc, length-append, arith}
use Rattle.std.specs.Prelude.{slice_get, nat_lt}
use Rattle.std.proofs.lemmas.List.{length-take}
use Rattle.std.proofs.Math.Seq.{take-append_seam}
use Rattle.nb_value.specs.declared.value.Value.{Value}
use Rattle.nb_value.specs.Value.{size}
use Rattle.nb_value.specs.Fields.{names}
use Rattle.nb_value.specs.declared.outcome.Answer.{Answer}
use Rattle.nb_value.specs.declared.outcome.Answer.TheVariants as answer
use Rattle.nb_syntax.specs.declared.tree.Block.{Block, fold_out-Block}
use Rattle.nb_eval.specs.declared.given.Segment.{Segment}
use Rattle.nb_eval.specs.declared.state.State.{State}
use Rattle.nb_eval.specs.declared.stop.Stop.{Stop}
use Rattle.nb_eval.specs.Locals.{name_value, place}
use Rattle.nb_eval.specs.Run.{Run, Out, after, charge, budget, assign_at, cut_to, scoped, yielded, cleaned, ask_text, answered}
use Rattle.nb_eval.specs.Evaluation.{Did, Acts, act, act_block, in_order, stmt_step, arm_step, block_step, loop}
use Rattle.nb_eval.proofs.IndexLemmas.{place-last, named, names-set, names-take, names-snoc, length-names}
use Rattle.nb_eval.proofs.Spending.{WentTo, if_case, the_out, went}
use Rattle.nb_eval.proofs.Wholes.{Steps, Claim, both_turns, both_block}

-- the first names, and more after them
abbrev More : List (List ℕ) → List (List ℕ) → Type 0
More ns ms = (more : List (List ℕ)) × (ms ≡ ns ++ more)

more_same : (ns ms : List (List ℕ)) → ms ≡ ns → More ns ms
more_same ns ms e = ([], e ∙ sym (append-nil ns))

more_again : (ns ms os : List (List ℕ)) → More ns ms → More ms os → More ns os
more_again ns ms os h k = (h.0 ++ k.0, k.1 ∙ ap (λ xs. xs ++ k.0) h.1 ∙ append_assoc ns h.0 k.0)

-- what went on has the names of s, and more
abbrev Keeps : Claim
Keeps A s o o' = WentTo A (λ t. More (names s.locals) (names t.locals)) o.0 o.1

abbrev Went : (A : Type 0) → State → Out A → Type 0
Went A s o = Keeps A s o o

on : (A : Type 0) (s t u : State) (r : Result A Stop) → More (names s.locals) (names t.locals) → Keeps A t (r, u) (r, u) → Keeps A s (r, u) (r, u)
on A s t u (Ok a) h k = more_again (names s.locals) (names t.locals) (names u.locals) h k
on A s t u (Err e) h k = tt

bind : (A B : Type 0) (f : A → Run B) (s t : State) (r : Result A Stop) → Keeps A s (r, t) (r, t) → ((a : A) (u : State) → Went B u (f a u)) → Went B s (after r t f)
bind A B f s t (Ok a) h k = on B s t (f a t).1 (f a t).0 h (k a t)
bind A B f s t (Err e) h k = tt

-- a step that leaves the locals as they are
same : (A : Type 0) (s t : State) (r : Result A Stop) → t.locals ≡ s.locals → Keeps A s (r, t) (r, t)
same A s t (Ok a) e = more_same (names s.locals) (names t.locals) (ap names e)
same A s t (Err x) e = tt

of_charge : (n : ℕ) (s : State) → Went (Unit {0}) s (charge n s)
of_charge n s = if_case (Unit {0}) (Went (Unit {0}) s) (nat_lt s.fuel n) _ _ (λ e. tt) (λ e. more_same (names s.locals) (names s.locals) refl)

of_assign : (o : Option ℕ) (name : List ℕ) (v : Value) (s : State) → place name s.locals ≡ o → Went (Unit {0}) s (assign_at o name v s)
of_assign None name v s e = tt
of_assign (Some at) name v s e =
    let there : slice_get (names s.locals) at ≡ Some name = named name (names s.locals) at (sym (place-last name s.locals) ∙ e) in
    more_same _ _ (names-set s.locals at name v there)

-- the locals past those of the start go
cut_back : (s t : State) (r : Result (Unit {0}) Stop) → Keeps (Unit {0}) s (r, t) (r, t) → WentTo (Unit {0}) (λ u. names u.locals ≡ names s.locals) (after r t (λ _. cut_to (length s.locals))).0 (after r t (λ _. cut_to (length s.locals))).1
cut_back s t (Ok a) h =
    names-take (length s.locals) t.locals ∙ ap (λ n. take n (names t.locals)) (sym (length-names s.locals)) ∙ ap (take (length (names s.locals))) h.1 ∙ take-append_seam (names s.locals) h.0
cut_back s t (Err e) h = tt

exactly : (A : Type 0) (s t : State) (r : Result A Stop) → WentTo A (λ u. names u.locals ≡ names s.locals) r t → Keeps A s (r, t) (r, t)
exactly A s t (Ok a) h = more_same (names s.locals) (names t.locals) h
exactly A s t (Err e) h = tt

of_scoped : (p : Run (Unit {0})) (s : State) → Went (Unit {0}) s (p s) → Went (Unit {0}) s (scoped p s)
of_scoped p s h = exactly (Unit {0}) s (scoped p s).1 (scoped p s).0 (cut_back s (p s).1 (p s).0 h)

of_clean : (v : Value) (s : State) → Went (Unit {0}) s (cleaned v s)
of_clean v s =
    if_case (Unit {0}) (Went (Unit {0}) s) (nat_lt 1024 (size v)) _ _ (λ e. tt)
    (λ e. if_case (Unit {0}) (Went (Unit {0}) s) (nat_lt (length s.cleanups) 16) _ _ (λ f. more_same (names s.locals) (names s.locals) refl) (λ f. tt))

of_answer : (o : Option Answer) (key : List ℕ) (s t : State) → t.locals ≡ s.locals → Went Value s (answered o key t)
of_answer None key s t e = tt
of_answer (Some (answer.Value v)) key s t e = more_same (names s.locals) (names t.locals) (ap names e)
of_answer (Some (answer.Failure x)) key s t e = tt

module _ (g : Segment) where
  of_yield : (v : Value) (s : State) → Went (Unit {0}) s (yielded g v s)
  of_yield v s =
      if_case (Unit {0}) (Went (Unit {0}) s) (nat_lt 16384 (size v)) _ _ (λ e. tt)
      (λ e. if_case (Unit {0}) (Went (Unit {0}) s) (nat_lt (length (s.yields ++ v ∷ [])) g.pulls) _ _ (λ f. more_same (names s.locals) (names s.locals) refl) (λ f. tt))

  of_ask : (key : List ℕ) (s : State) → Went Value s (ask_text g key s)
  of_ask key s =
      if_case Value (Went Value s) (nat_lt 1024 (1 + length key)) _ _ (λ e. tt)
      (λ e. if_case Value (Went Value s) (nat_lt s.fetches 64) _ _ (λ f. of_answer (slice_get g.answers s.taken) key s (record s { fetches = s.fetches + 1 }) refl) (λ f. tt))

  steps : Steps false true g g Keeps Keeps
  steps = record {
    weaken = λ A s o o' h. h;
    strong_charge = λ n s. of_charge (1 + n) s;
    strong_left = λ A B p p' f f' s hp hf. bind A B f s (p s).1 (p s).0 hp hf;
    strong_right = λ A B p p' f f' s hp hf. bind A B f s (p s).1 (p s).0 hp hf;
    of_pure = λ A a s. more_same (names s.locals) (names s.locals) refl;
    of_failure = λ A e s. tt;
    of_return = λ v s. tt;
    of_bind = λ A B p p' f f' s hp hf. bind A B f s (p s).1 (p s).0 hp hf;
    of_read = λ name s. more_same (names s.locals) (names s.locals) refl;
    of_keep = λ name v s. (name ∷ [], names-snoc s.locals (name_value name v));
    of_assign = λ name v s. of_assign (place name s.locals) name v s refl;
    of_scoped = λ p p' s h. of_scoped p s h;
    of_yield = λ p q. of_yield;
    of_clean = λ p. of_clean;
    of_ask = λ p. of_ask;
  }

  loop_too : (t t' : Did) (b b' : Acts) → ((s : State) → Keeps Value s (t s) (t' s)) → ((s : State) → Keeps (Unit {0}) s (b s) (b' s)) → (s : State) → Keeps (Unit {0}) s (loop g t b s) (loop g t' b' s)
  loop_too t t' b b' ht hb s = both_turns false true g g Keeps Keeps steps (suc (budget g s)) t t' b b' ht hb s

  block_keeps : (b : Block) (s : State) → Went (Unit {0}) s (act_block g b s)
  block_keeps b s = both_block false true g g Keeps Keeps steps loop_too b (λ p. absurd (cc)) (λ p. absurd (cc)) s

  short : (s t : State) (r : Result (Unit {0}) Stop) → WentTo (Unit {0}) (λ u. length u.locals ≤ length s.locals) (after r t (λ _. cut_to (length s.locals))).0 (after r t (λ _. cut_to (length s.locals))).1
  short s t (Ok a) = omega (arith, length-take (length s.locals) t.locals)
  short s t (Err e) = tt

  block_short : (b : Block) (s : State) → WentTo (Unit {0}) (λ u. length u.locals ≤ length s.locals) (act_block g b s).0 (act_block g b s).1
  block_short b s =
      let inside : Acts = in_order (map (act g) b.stmts) in
      let is : act_block g b ≡ scoped inside = fold_out-Block Acts (Did × Acts) Acts (stmt_step g) (arm_step g) (block_step g) b in
      rw is (short s (inside s).1 (inside s).0)

  exact : (ns ms more : List (List ℕ)) → ms ≡ ns ++ more → length ms ≤ length ns → ms ≡ ns
  exact ns ms [] e le = e ∙ append-nil ns
  exact ns ms (m ∷ more) e le = absurd (omega (arith, le, ap length e, length-append ns (m ∷ more)))

  -- after a block the same names stand as before it
  pub block_names : (b : Block) (s t : State) → act_block g b s ≡ (the_out (Unit {0}) tt t) → names t.locals ≡ names s.locals
  block_names b s t e =
      let longer = went g (Unit {0}) (λ u. More (names s.locals) (names u.locals)) (act_block g b s) tt t e (block_keeps b s) in
      let shorter = went g (Unit {0}) (λ u. length u.locals ≤ length s.locals) (act_block g b s) tt t e (block_short b s) in
      exact (names s.locals) (names t.locals) longer.0 longer.1 (omega (arith, shorter, length-names s.locals, length-names t.locals))
