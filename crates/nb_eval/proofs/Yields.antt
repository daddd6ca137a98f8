-- An evaluation that pauses has yielded as often as it was pulled, and any other less often; a cell that is no generator
-- doesn't pause.
use Rattle.std.proofs.Common.{◌≡◌, ◌≢◌, ℕ, suc, ◌+◌, ◌-◌, ◌<◌, ◌≤◌, Bool, true, false, [], ◌∷◌, ◌++◌, List, length, Option, Some, None, Result, Ok, Err, refl, arith, codes, length-append}
use Rattle.std.specs.Prelude.{slice_get, nat_lt, if◌then◌else◌}
use Rattle.std.proofs.lemmas.Bool.Decides.{nat_tests}
use Rattle.nb_value.specs.declared.value.Value.{Value}
use Rattle.nb_value.specs.declared.pairs.Field.{Field}
use Rattle.nb_value.specs.declared.outcome.Answer.{Answer}
use Rattle.nb_value.specs.declared.outcome.Answer.TheVariants as answer
use Rattle.nb_value.specs.declared.outcome.ErrorKind.TheVariants.{TooLarge}
use Rattle.nb_value.specs.Value.{size}
use Rattle.nb_syntax.specs.declared.tree.Cell.{Cell}
use Rattle.nb_syntax.specs.Generator.{is_generator}
use Rattle.nb_eval.specs.declared.given.Ending.TheVariants as ending
use Rattle.nb_eval.specs.declared.given.Segment.{Segment}
use Rattle.nb_eval.specs.declared.state.State.{State}
use Rattle.nb_eval.specs.declared.stop.Stop.{Stop}
use Rattle.nb_eval.specs.declared.stop.Stop.TheVariants as stops
use Rattle.nb_eval.specs.Run.{Run, Out, after, charge, yielded, cleaned, ask_text, answered, budget, error, start_state}
use Rattle.nb_eval.specs.Evaluation.{Did, Acts, loop, run, within_size, ending_of, segment_of, evaluation}
use Rattle.nb_eval.proofs.Closed.{Closed, Claim, both_turns, both_body}

if_case : (A : Type 0) (P : Out A → Type 0) (b : Bool) (x y : Out A) → (b ≡ true → P x) → (b ≡ false → P y) → P (if b then x else y)
if_case A P true x y hx hy = hx refl
if_case A P false x y hx hy = hy refl

-- the pulls, and 1 where there are none
abbrev pub most : ℕ → ℕ
most pulls = 1 + (pulls - 1)

-- ---- how many yields

module _ (g : Segment) where
  abbrev Counts : {A : Type 0} → Result A Stop → State → Type 0
  Counts (Ok a) t = length t.yields < most g.pulls
  Counts (Err (stops.Failed e)) t = length t.yields < most g.pulls
  Counts (Err (stops.Done v)) t = length t.yields < most g.pulls
  Counts (Err (stops.Needs key)) t = length t.yields < most g.pulls
  Counts (Err stops.Paused) t = length t.yields ≡ most g.pulls
  Counts (Err stops.Memory) t = ⊥

  abbrev Keeps : Claim
  Keeps A s o o' = length s.yields < most g.pulls → Counts o.0 o.1

  stays : (A B : Type 0) (e : Stop) (t : State) → Counts {A = A} (Err e) t → Counts {A = B} (Err e) t
  stays A B (stops.Failed e) t h = h
  stays A B (stops.Done v) t h = h
  stays A B (stops.Needs key) t h = h
  stays A B stops.Paused t h = h
  stays A B stops.Memory t h = h

  bind : (A B : Type 0) (f : A → Run B) (r : Result A Stop) (t : State) → Counts r t → ((a : A) (u : State) → length u.yields < most g.pulls → Counts (f a u).0 (f a u).1) → Counts (after r t f).0 (after r t f).1
  bind A B f (Ok a) t h k = k a t h
  bind A B f (Err e) t h k = stays A B e t h

  of_charge : (n : ℕ) (s : State) → Keeps (Unit {0}) s (charge n s) (charge n s)
  of_charge n s h = if_case (Unit {0}) (λ o. Counts o.0 o.1) (nat_lt s.fuel n) _ _ (λ e. h) (λ e. h)

  of_yield : (v : Value) (s : State) → Keeps (Unit {0}) s (yielded g v s) (yielded g v s)
  of_yield v s h =
      let more : length (s.yields ++ v ∷ []) ≡ length s.yields + 1 = omega (arith, length-append s.yields (v ∷ [])) in
      if_case (Unit {0}) (λ o. Counts o.0 o.1) (nat_lt 16384 (size v)) _ _ (λ e. h)
      (λ e. if_case (Unit {0}) (λ o. Counts o.0 o.1) (nat_lt (length (s.yields ++ v ∷ [])) g.pulls) _ _
      (λ f. let lt : length (s.yields ++ v ∷ []) < g.pulls = grind (arith, nat_tests) in omega (arith, lt))
      (λ f. let ge : g.pulls ≤ length (s.yields ++ v ∷ []) = grind (arith, nat_tests) in omega (arith, h, more, ge)))

  of_clean : (v : Value) (s : State) → Keeps (Unit {0}) s (cleaned v s) (cleaned v s)
  of_clean v s h =
      if_case (Unit {0}) (λ o. Counts o.0 o.1) (nat_lt 1024 (size v)) _ _ (λ e. h)
      (λ e. if_case (Unit {0}) (λ o. Counts o.0 o.1) (nat_lt (length s.cleanups) 16) _ _ (λ f. h) (λ f. h))

  of_answer : (o : Option Answer) (key : List ℕ) (s : State) → length s.yields < most g.pulls → Counts (answered o key s).0 (answered o key s).1
  of_answer None key s h = h
  of_answer (Some (answer.Value v)) key s h = h
  of_answer (Some (answer.Failure x)) key s h = h

  of_ask : (key : List ℕ) (s : State) → Keeps Value s (ask_text g key s) (ask_text g key s)
  of_ask key s h =
      if_case Value (λ o. Counts o.0 o.1) (nat_lt 1024 (1 + length key)) _ _ (λ e. h)
      (λ e. if_case Value (λ o. Counts o.0 o.1) (nat_lt s.fetches 64) _ _ (λ f. of_answer (slice_get g.answers s.taken) key (record s { fetches = s.fetches + 1 }) h) (λ f. h))

  closed : Closed false true g g Keeps Keeps
  closed = record {
    weaken = λ A s o o' h. h;
    strong_charge = λ n s. of_charge (1 + n) s;
    strong_left = λ A B p p' f f' s hp hf h. bind A B f (p s).0 (p s).1 (hp h) hf;
    strong_right = λ A B p p' f f' s hp hf h. bind A B f (p s).0 (p s).1 (hp h) hf;
    of_pure = λ A a s h. h;
    of_failure = λ A e s h. h;
    of_return = λ v s h. h;
    of_bind = λ A B p p' f f' s hp hf h. bind A B f (p s).0 (p s).1 (hp h) hf;
    of_read = λ name s h. h;
    of_locals = λ ls s h. h;
    of_yield = λ p q. of_yield;
    of_clean = λ p. of_clean;
    of_ask = λ p. of_ask;
  }

  loop_too : (t t' : Did) (b b' : Acts) → ((s : State) → Keeps Value s (t s) (t' s)) → ((s : State) → Keeps (Unit {0}) s (b s) (b' s)) → (s : State) → Keeps (Unit {0}) s (loop g t b s) (loop g t' b' s)
  loop_too t t' b b' ht hb s = both_turns false true g g Keeps Keeps closed (suc (budget g s)) t t' b b' ht hb s

  counts : Counts (run g).0 (run g).1
  counts = both_body false true g g Keeps Keeps closed loop_too g.cell.body (λ p. absurd (cc)) (λ p. absurd (cc)) start_state (omega arith)

  at_most : (r : Result Value Stop) (t : State) → Counts r t → length t.yields ≤ most g.pulls
  at_most (Ok a) t h = omega (arith, h)
  at_most (Err (stops.Failed e)) t h = omega (arith, h)
  at_most (Err (stops.Done v)) t h = omega (arith, h)
  at_most (Err (stops.Needs key)) t h = omega (arith, h)
  at_most (Err stops.Paused) t h = omega (arith, h)
  at_most (Err stops.Memory) t h = absurd h

  -- it yields at most as often as it is pulled
  pub few_yields : length (run g).1.yields ≤ most g.pulls
  few_yields = at_most (run g).0 (run g).1 counts

-- ---- what isn't a generator

abbrev GoesOn : {A : Type 0} → Result A Stop → Type 0
GoesOn (Ok a) = Unit {0}
GoesOn (Err (stops.Failed e)) = Unit {0}
GoesOn (Err (stops.Done v)) = Unit {0}
GoesOn (Err (stops.Needs key)) = Unit {0}
GoesOn (Err stops.Paused) = ⊥
GoesOn (Err stops.Memory) = ⊥

module _ (g : Segment) where
  abbrev Silent : Claim
  Silent A s o o' = GoesOn o.0

  silent_stays : (A B : Type 0) (e : Stop) → GoesOn {A = A} (Err e) → GoesOn {A = B} (Err e)
  silent_stays A B (stops.Failed e) h = tt
  silent_stays A B (stops.Done v) h = tt
  silent_stays A B (stops.Needs key) h = tt
  silent_stays A B stops.Paused h = h
  silent_stays A B stops.Memory h = h

  silent_bind : (A B : Type 0) (f : A → Run B) (r : Result A Stop) (t : State) → GoesOn r → ((a : A) (u : State) → GoesOn (f a u).0) → GoesOn (after r t f).0
  silent_bind A B f (Ok a) t h k = k a t
  silent_bind A B f (Err e) t h k = silent_stays A B e h

  silent_charge : (n : ℕ) (s : State) → GoesOn (charge n s).0
  silent_charge n s = if_case (Unit {0}) (λ o. GoesOn o.0) (nat_lt s.fuel n) _ _ (λ e. tt) (λ e. tt)

  silent_clean : (v : Value) (s : State) → GoesOn (cleaned v s).0
  silent_clean v s =
      if_case (Unit {0}) (λ o. GoesOn o.0) (nat_lt 1024 (size v)) _ _ (λ e. tt)
      (λ e. if_case (Unit {0}) (λ o. GoesOn o.0) (nat_lt (length s.cleanups) 16) _ _ (λ f. tt) (λ f. tt))

  silent_answer : (o : Option Answer) (key : List ℕ) (s : State) → GoesOn (answered o key s).0
  silent_answer None key s = tt
  silent_answer (Some (answer.Value v)) key s = tt
  silent_answer (Some (answer.Failure x)) key s = tt

  silent_ask : (key : List ℕ) (s : State) → GoesOn (ask_text g key s).0
  silent_ask key s =
      if_case Value (λ o. GoesOn o.0) (nat_lt 1024 (1 + length key)) _ _ (λ e. tt)
      (λ e. if_case Value (λ o. GoesOn o.0) (nat_lt s.fetches 64) _ _ (λ f. silent_answer (slice_get g.answers s.taken) key (record s { fetches = s.fetches + 1 })) (λ f. tt))

  silent_closed : Closed false false g g Silent Silent
  silent_closed = record {
    weaken = λ A s o o' h. h;
    strong_charge = λ n s. silent_charge (1 + n) s;
    strong_left = λ A B p p' f f' s hp hf. silent_bind A B f (p s).0 (p s).1 hp hf;
    strong_right = λ A B p p' f f' s hp hf. silent_bind A B f (p s).0 (p s).1 hp hf;
    of_pure = λ A a s. tt;
    of_failure = λ A e s. tt;
    of_return = λ v s. tt;
    of_bind = λ A B p p' f f' s hp hf. silent_bind A B f (p s).0 (p s).1 hp hf;
    of_read = λ name s. tt;
    of_locals = λ ls s. tt;
    of_yield = λ p q. absurd (cc);
    of_clean = λ p. silent_clean;
    of_ask = λ p. silent_ask;
  }

  silent_loop : (t t' : Did) (b b' : Acts) → ((s : State) → Silent Value s (t s) (t' s)) → ((s : State) → Silent (Unit {0}) s (b s) (b' s)) → (s : State) → Silent (Unit {0}) s (loop g t b s) (loop g t' b' s)
  silent_loop t t' b b' ht hb s = both_turns false false g g Silent Silent silent_closed (suc (budget g s)) t t' b b' ht hb s

  silent_run : is_generator g.cell ≡ false → GoesOn (run g).0
  silent_run h = both_body false false g g Silent Silent silent_closed silent_loop g.cell.body (λ p. absurd (cc)) (λ p. h) start_state

-- ---- endings

within_not_paused : (b : Bool) (v : Value) → within_size b v ≢ ending.Paused
within_not_paused true v e = cc
within_not_paused false v e = by_size (nat_lt 16384 (size v)) e
  where
    by_size : (c : Bool) → (if c then ending.Failed (error TooLarge (codes "value")) else ending.Done v) ≡ ending.Paused → ⊥
    by_size true k = cc
    by_size false k = cc

counts_end : (g : Segment) (b : Bool) (r : Result Value Stop) (t : State) → Counts g r t
    → (ending_of b r ≡ ending.Paused → length t.yields ≡ most g.pulls) × (ending_of b r ≢ ending.Paused → length t.yields < most g.pulls)
counts_end g b (Ok v) t h = (λ e. absurd (within_not_paused b v e), λ n. h)
counts_end g b (Err (stops.Done v)) t h = (λ e. absurd (within_not_paused b v e), λ n. h)
counts_end g b (Err (stops.Failed e)) t h = (λ e. absurd (cc), λ n. h)
counts_end g b (Err (stops.Needs key)) t h = (λ e. absurd (cc), λ n. h)
counts_end g b (Err stops.Paused) t h = (λ e. h, λ n. absurd (n refl))
counts_end g b (Err stops.Memory) t h = absurd h

silent_end : (b : Bool) (r : Result Value Stop) → GoesOn r → ending_of b r ≢ ending.Paused
silent_end b (Ok v) h e = within_not_paused b v e
silent_end b (Err (stops.Done v)) h e = within_not_paused b v e
silent_end b (Err (stops.Failed d)) h e = cc
silent_end b (Err (stops.Needs key)) h e = cc
silent_end b (Err stops.Paused) h e = h
silent_end b (Err stops.Memory) h e = h

module _ (cell : Cell) (inputs : List (Field Value)) (answers : List Answer) (pulls : ℕ) where
  -- it paused exactly where it yielded as often as it was pulled
  pub yields_count : ((evaluation cell inputs answers pulls).ending ≡ ending.Paused → length (evaluation cell inputs answers pulls).yields ≡ most pulls)
      × ((evaluation cell inputs answers pulls).ending ≢ ending.Paused → length (evaluation cell inputs answers pulls).yields < most pulls)
  unfolding evaluation
  yields_count = counts_end (segment_of cell inputs answers pulls) (is_generator cell) (run (segment_of cell inputs answers pulls)).0 (run (segment_of cell inputs answers pulls)).1 (counts (segment_of cell inputs answers pulls))

  pub not_paused : is_generator cell ≡ false → (evaluation cell inputs answers pulls).ending ≢ ending.Paused
  unfolding evaluation
  not_paused h = silent_end (is_generator cell) (run (segment_of cell inputs answers pulls)).0 (silent_run (segment_of cell inputs answers pulls) h)
