-- How evaluations of plain cells end: with a value or an error. They yield nothing, and clean up nothing.
use Rattle.std.proofs.Common.{◌≡◌, ℕ, suc, ◌+◌, Bool, true, false, List, [], length, None, Result, Ok, Err, refl, ◌∙◌, ap, ◌⊎◌, inl, inr, codes}
use Rattle.std.specs.Prelude.{nat_lt, if◌then◌else◌}
use Rattle.nb_value.specs.declared.value.Value.{Value}
use Rattle.nb_value.specs.declared.pairs.Field.{Field}
use Rattle.nb_value.specs.declared.outcome.Answer.{Answer}
use Rattle.nb_value.specs.declared.outcome.CellError.{CellError}
use Rattle.nb_value.specs.declared.outcome.ErrorKind.TheVariants.{TooLarge}
use Rattle.nb_value.specs.Value.{size}
use Rattle.nb_syntax.specs.declared.tree.Cell.{Cell}
use Rattle.nb_syntax.specs.Plain.{is_plain}
use Rattle.nb_syntax.specs.Generator.{is_generator}
use Rattle.nb_eval.specs.declared.given.Ending.{Ending}
use Rattle.nb_eval.specs.declared.given.Ending.TheVariants as ending
use Rattle.nb_eval.specs.declared.given.Segment.{Segment}
use Rattle.nb_eval.specs.declared.state.State.{State}
use Rattle.nb_eval.specs.declared.stop.Stop.{Stop}
use Rattle.nb_eval.specs.declared.stop.Stop.TheVariants as stops
use Rattle.nb_eval.specs.Run.{Run, Out, error, after, budget, start_state}
use Rattle.nb_eval.specs.Evaluation.{Did, Acts, loop, run, within_size, ending_of, last_of, segment_of, evaluation, segment_end}
pub use Rattle.nb_eval.specs.Laws.{EndsWell}
use Rattle.nb_eval.proofs.Closed.{Closed, Claim, both_turns, both_body}

-- a value, an error or a return
abbrev pub Settles : {A : Type 0} → Result A Stop → Type 0
Settles (Ok a) = Unit {0}
Settles (Err (stops.Failed e)) = Unit {0}
Settles (Err (stops.Done v)) = Unit {0}
Settles (Err (stops.Needs key)) = ⊥
Settles (Err stops.Paused) = ⊥
Settles (Err stops.Memory) = ⊥

pub record Stays (s t : State) : Type 0 where
  pub yields : t.yields ≡ s.yields
  pub cleanups : t.cleanups ≡ s.cleanups

stays : (s : State) → Stays s s
stays s = record { yields = refl; cleanups = refl }

abbrev IsQuiet : Claim
IsQuiet A s o o' = Settles o.0 × Stays s o.1

bind : (A B : Type 0) (f : A → Run B) (s t : State) (r : Result A Stop) → Settles r → Stays s t → ((a : A) (u : State) → Settles (f a u).0 × Stays u (f a u).1) → Settles (after r t f).0 × Stays s (after r t f).1
bind A B f s t (Ok a) h k n =
    let m = n a t in
    (m.0, record { yields = m.1.yields ∙ k.yields; cleanups = m.1.cleanups ∙ k.cleanups })
bind A B f s t (Err e) h k n = (by_stop e h, k)
  where
    by_stop : (e : Stop) → Settles {A = A} (Err e) → Settles {A = B} (Err e)
    by_stop (stops.Failed d) h = tt
    by_stop (stops.Done v) h = tt
    by_stop (stops.Needs key) h = h
    by_stop stops.Paused h = h
    by_stop stops.Memory h = h

quiet_if : (A : Type 0) (s : State) (b : Bool) (x y : Out A) → Settles x.0 × Stays s x.1 → Settles y.0 × Stays s y.1 → Settles (if b then x else y).0 × Stays s (if b then x else y).1
quiet_if A s true x y hx hy = hx
quiet_if A s false x y hx hy = hy

module _ (g : Segment) where
  closed : Closed true true g g IsQuiet IsQuiet
  closed = record {
    weaken = λ A s o o' h. h;
    strong_charge = λ n s. quiet_if (Unit {0}) s (nat_lt s.fuel (1 + n)) _ _ (tt, record { yields = refl; cleanups = refl }) (tt, record { yields = refl; cleanups = refl });
    strong_left = λ A B p p' f f' s hp hf. bind A B f s (p s).1 (p s).0 hp.0 hp.1 hf;
    strong_right = λ A B p p' f f' s hp hf. bind A B f s (p s).1 (p s).0 hp.0 hp.1 hf;
    of_pure = λ A a s. (tt, stays s);
    of_failure = λ A e s. (tt, stays s);
    of_return = λ v s. (tt, stays s);
    of_bind = λ A B p p' f f' s hp hf. bind A B f s (p s).1 (p s).0 hp.0 hp.1 hf;
    of_read = λ name s. (tt, stays s);
    of_locals = λ ls s. (tt, record { yields = refl; cleanups = refl });
    of_yield = λ p q. absurd (cc);
    of_clean = λ p. absurd (cc);
    of_ask = λ p. absurd (cc);
  }

  loop_too : (t t' : Did) (b b' : Acts) → ((s : State) → IsQuiet Value s (t s) (t' s)) → ((s : State) → IsQuiet (Unit {0}) s (b s) (b' s)) → (s : State) → IsQuiet (Unit {0}) s (loop g t b s) (loop g t' b' s)
  loop_too t t' b b' ht hb s = both_turns true true g g IsQuiet IsQuiet closed (suc (budget g s)) t t' b b' ht hb s

  pub plain_run : is_plain g.cell ≡ true → IsQuiet Value start_state (run g) (run g)
  plain_run h = both_body true true g g IsQuiet IsQuiet closed loop_too g.cell.body (λ p. h) (λ p. absurd (cc)) start_state

well_if : (b : Bool) (x y : Ending) → EndsWell x → EndsWell y → EndsWell (if b then x else y)
well_if true x y hx hy = hx
well_if false x y hx hy = hy

within_well : (b : Bool) (v : Value) → EndsWell (within_size b v)
within_well true v = inl (v, refl)
within_well false v = well_if (nat_lt 16384 (size v)) (ending.Failed (error TooLarge (codes "value"))) (ending.Done v) (inr (error TooLarge (codes "value"), refl)) (inl (v, refl))

ends_well : (b : Bool) (r : Result Value Stop) → Settles r → EndsWell (ending_of b r)
ends_well b (Ok v) h = within_well b v
ends_well b (Err (stops.Done v)) h = within_well b v
ends_well b (Err (stops.Failed e)) h = inr (e, refl)
ends_well b (Err (stops.Needs key)) h = absurd h
ends_well b (Err stops.Paused) h = absurd h
ends_well b (Err stops.Memory) h = absurd h

module _ (cell : Cell) (inputs : List (Field Value)) (answers : List Answer) (pulls : ℕ) (p : is_plain cell ≡ true) where
  pub ends : ((v : Value) × ((evaluation cell inputs answers pulls).ending ≡ ending.Done v)) ⊎ ((e : CellError) × ((evaluation cell inputs answers pulls).ending ≡ ending.Failed e))
  unfolding evaluation
  ends = ends_well (is_generator cell) (run (segment_of cell inputs answers pulls)).0 (plain_run (segment_of cell inputs answers pulls) p).0

  pub no_yields : (evaluation cell inputs answers pulls).yields ≡ []
  unfolding evaluation
  no_yields = (plain_run (segment_of cell inputs answers pulls) p).1.yields

  pub no_cleanups : (evaluation cell inputs answers pulls).cleanups ≡ []
  unfolding evaluation
  no_cleanups = (plain_run (segment_of cell inputs answers pulls) p).1.cleanups

-- ---- segments

module _ (s : Segment) (p : is_plain s.cell ≡ true) where
  pub segment_ends : ((v : Value) × ((segment_end s).ending ≡ ending.Done v)) ⊎ ((e : CellError) × ((segment_end s).ending ≡ ending.Failed e))
  segment_ends = ends s.cell s.inputs s.answers s.pulls p

  pub segment_made : (segment_end s).made ≡ 0
  segment_made = ap (λ (vs : List Value). length vs) (no_yields s.cell s.inputs s.answers s.pulls p)

  pub segment_last : (segment_end s).last ≡ None
  segment_last = ap last_of (no_yields s.cell s.inputs s.answers s.pulls p)

  pub segment_cleanups : (segment_end s).cleanups ≡ []
  segment_cleanups = no_cleanups s.cell s.inputs s.answers s.pulls p
