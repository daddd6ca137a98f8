-- An evaluation asks at most 64 times a pull: one that needs an answer has fewer answers than that.
use Rattle.std.proofs.Common.{◌≡◌, ℕ, zero, suc, ◌+◌, ◌-◌, ◌*◌, ◌<◌, ◌≤◌, Bool, true, false, List, [], ◌∷◌, ◌++◌, length, Option, Some, None, Result, Ok, Err, refl, sym, arith, length-append, codes}
use Rattle.std.specs.Prelude.{slice_get, nat_lt, if◌then◌else◌}
use Rattle.std.proofs.lemmas.Bool.Decides.{nat_tests}
use Rattle.std.proofs.lemmas.Option.{none-some}
use Rattle.nb_value.specs.declared.value.Value.{Value}
use Rattle.nb_value.specs.declared.pairs.Field.{Field}
use Rattle.nb_value.specs.declared.outcome.Answer.{Answer}
use Rattle.nb_value.specs.declared.outcome.Answer.TheVariants as answer
use Rattle.nb_value.specs.declared.outcome.ErrorKind.TheVariants.{TooLarge}
use Rattle.nb_value.specs.Value.{size}
use Rattle.nb_syntax.specs.declared.tree.Cell.{Cell}
use Rattle.nb_syntax.specs.Generator.{is_generator}
use Rattle.nb_eval.specs.declared.given.Ending.TheVariants as ending
use Rattle.nb_eval.specs.declared.given.Segment.{Segment}
use Rattle.nb_eval.specs.declared.state.State.{State}
use Rattle.nb_eval.specs.declared.stop.Stop.{Stop}
use Rattle.nb_eval.specs.declared.stop.Stop.TheVariants as stops
use Rattle.nb_eval.specs.Run.{Run, Out, error, after, charge, yielded, cleaned, ask_text, answered, budget, start_state}
use Rattle.nb_eval.specs.Evaluation.{Did, Acts, loop, run, evaluation, segment_of, ending_of, within_size}
use Rattle.nb_eval.proofs.Closed.{Closed, Claim, both_turns, both_body}

if_case : (A : Type 0) (P : Out A → Type 0) (b : Bool) (x y : Out A) → (b ≡ true → P x) → (b ≡ false → P y) → P (if b then x else y)
if_case A P true x y hx hy = hx refl
if_case A P false x y hx hy = hy refl

-- no answer there: all of them are taken
past : {A : Type 0} (xs : List A) (i : ℕ) → slice_get xs i ≡ None → length xs ≤ i
past [] i h = omega arith
past (x ∷ xs) zero h = absurd (none-some x (sym h))
past (x ∷ xs) (suc i) h = omega (arith, past xs i h)

module _ (g : Segment) where
  -- the pulls, and 1 where there are none
  abbrev most : ℕ
  most = 1 + (g.pulls - 1)

  -- each whole pull took at most 64 answers, and this one at most as many as it fetched
  abbrev Takes : State → Type 0
  Takes s = (length s.yields < most) × (s.taken ≤ 64 * length s.yields + s.fetches) × (s.fetches ≤ 64)

  abbrev Stopped : Stop → Type 0
  Stopped (stops.Needs key) = length g.answers < 64 * most
  Stopped e = Unit {0}

  abbrev Few : {A : Type 0} → Result A Stop → State → Type 0
  Few (Ok a) t = Takes t
  Few (Err e) t = Stopped e

  abbrev Keeps : Claim
  Keeps A s o o' = Takes s → Few o.0 o.1

  bind : (A B : Type 0) (f : A → Run B) (r : Result A Stop) (t : State) → Few r t → ((a : A) (u : State) → Takes u → Few (f a u).0 (f a u).1) → Few (after r t f).0 (after r t f).1
  bind A B f (Ok a) t h k = k a t h
  bind A B f (Err e) t h k = h

  of_charge : (n : ℕ) (s : State) → Keeps (Unit {0}) s (charge n s) (charge n s)
  of_charge n s h = if_case (Unit {0}) (λ o. Few o.0 o.1) (nat_lt s.fuel n) _ _ (λ e. tt) (λ e. h)

  of_yield : (v : Value) (s : State) → Keeps (Unit {0}) s (yielded g v s) (yielded g v s)
  of_yield v s h =
      let more : length (s.yields ++ v ∷ []) ≡ length s.yields + 1 = omega (arith, length-append s.yields (v ∷ [])) in
      if_case (Unit {0}) (λ o. Few o.0 o.1) (nat_lt 16384 (size v)) _ _ (λ e. tt)
      (λ e. if_case (Unit {0}) (λ o. Few o.0 o.1) (nat_lt (length (s.yields ++ v ∷ [])) g.pulls) _ _
      (λ f. let lt : length (s.yields ++ v ∷ []) < g.pulls = grind (arith, nat_tests) in (omega (arith, lt), omega (arith, h.1, h.2, more), omega arith))
      (λ f. tt))

  of_clean : (v : Value) (s : State) → Keeps (Unit {0}) s (cleaned v s) (cleaned v s)
  of_clean v s h =
      if_case (Unit {0}) (λ o. Few o.0 o.1) (nat_lt 1024 (size v)) _ _ (λ e. tt)
      (λ e. if_case (Unit {0}) (λ o. Few o.0 o.1) (nat_lt (length s.cleanups) 16) _ _ (λ f. h) (λ f. tt))

  of_answer : (o : Option Answer) (key : List ℕ) (s : State) → slice_get g.answers s.taken ≡ o → Takes s → s.fetches < 64
      → Few (answered o key (record s { fetches = s.fetches + 1 })).0 (answered o key (record s { fetches = s.fetches + 1 })).1
  of_answer None key s at h less =
      let all : length g.answers ≤ s.taken = past g.answers s.taken at in
      within (length g.answers) s.taken (length s.yields) s.fetches most all h.1 less h.0
    where
      within : (a t y f m : ℕ) → a ≤ t → t ≤ 64 * y + f → f < 64 → y < m → a < 64 * m
      within a t y f m p q r h = omega arith
  of_answer (Some (answer.Value v)) key s at h less = (h.0, omega (arith, h.1), omega (arith, less))
  of_answer (Some (answer.Failure x)) key s at h less = tt

  of_ask : (key : List ℕ) (s : State) → Keeps Value s (ask_text g key s) (ask_text g key s)
  of_ask key s h =
      if_case Value (λ o. Few o.0 o.1) (nat_lt 1024 (1 + length key)) _ _ (λ e. tt)
      (λ e. if_case Value (λ o. Few o.0 o.1) (nat_lt s.fetches 64) _ _
      (λ f. let less : s.fetches < 64 = grind (arith, nat_tests) in of_answer (slice_get g.answers s.taken) key s refl h less) (λ f. tt))

  closed : Closed false true g g Keeps Keeps
  closed = record {
    weaken = λ A s o o' h. h;
    strong_charge = λ n s. of_charge (1 + n) s;
    strong_left = λ A B p p' f f' s hp hf h. bind A B f (p s).0 (p s).1 (hp h) hf;
    strong_right = λ A B p p' f f' s hp hf h. bind A B f (p s).0 (p s).1 (hp h) hf;
    of_pure = λ A a s h. h;
    of_failure = λ A e s h. tt;
    of_return = λ v s h. tt;
    of_bind = λ A B p p' f f' s hp hf h. bind A B f (p s).0 (p s).1 (hp h) hf;
    of_read = λ name s h. h;
    of_locals = λ ls s h. h;
    of_yield = λ p q. of_yield;
    of_clean = λ p. of_clean;
    of_ask = λ p. of_ask;
  }

  loop_too : (t t' : Did) (b b' : Acts) → ((s : State) → Keeps Value s (t s) (t' s)) → ((s : State) → Keeps (Unit {0}) s (b s) (b' s)) → (s : State) → Keeps (Unit {0}) s (loop g t b s) (loop g t' b' s)
  loop_too t t' b b' ht hb s = both_turns false true g g Keeps Keeps closed (suc (budget g s)) t t' b b' ht hb s

  takes_few : Few (run g).0 (run g).1
  takes_few = both_body false true g g Keeps Keeps closed loop_too g.cell.body (λ p. absurd (cc)) (λ p. absurd (cc)) start_state (omega arith, omega arith, omega arith)

  no_need : (b : Bool) (v : Value) (key : List ℕ) → within_size b v ≡ ending.Needs key → ⊥
  no_need true v key h = cc
  no_need false v key h = by_size (nat_lt 16384 (size v)) h
    where
      by_size : (c : Bool) → (if c then ending.Failed (error TooLarge (codes "value")) else ending.Done v) ≡ ending.Needs key → ⊥
      by_size true h = cc
      by_size false h = cc

  of_ending : (b : Bool) (r : Result Value Stop) (t : State) (key : List ℕ) → Few r t → ending_of b r ≡ ending.Needs key → length g.answers < 64 * most
  of_ending b (Ok v) t key h e = absurd (no_need b v key e)
  of_ending b (Err (stops.Done v)) t key h e = absurd (no_need b v key e)
  of_ending b (Err (stops.Failed f)) t key h e = absurd (cc)
  of_ending b (Err (stops.Needs k)) t key h e = h
  of_ending b (Err stops.Paused) t key h e = absurd (cc)
  of_ending b (Err stops.Memory) t key h e = absurd (cc)

-- where it needs an answer, it has fewer than 64 for each pull
pub asks_few : (cell : Cell) (inputs : List (Field Value)) (answers : List Answer) (pulls : ℕ) (key : List ℕ) → 1 ≤ pulls
    → (evaluation cell inputs answers pulls).ending ≡ ending.Needs key → length answers < 64 * pulls
unfolding evaluation
asks_few cell inputs answers pulls key one h =
    let g = segment_of cell inputs answers pulls in
    let few : length answers < 64 * (1 + (pulls - 1)) = of_ending g (is_generator cell) (run g).0 (run g).1 key (takes_few g) h in
    omega (arith, few, one)
