-- The same induction where it doesn't matter what becomes of the locals.
use Rattle.std.proofs.Common.{◌≡◌, ℕ, ◌+◌, Bool, true, false, List, ◌∷◌, [], ◌++◌, length, Option, Some, None, Ok, Err, take}
use Rattle.std.specs.Prelude.{slice_set}
use Rattle.nb_value.specs.declared.value.Value.{Value}
use Rattle.nb_value.specs.declared.pairs.Field.{Field}
use Rattle.nb_value.specs.declared.outcome.CellError.{CellError}
use Rattle.nb_syntax.specs.declared.tree.Expr.{Expr}
use Rattle.nb_syntax.specs.declared.tree.Block.{Block}
use Rattle.nb_syntax.specs.declared.tree.Body.{Body}
use Rattle.nb_syntax.specs.Plain.{expr_plain, block_plain, body_plain}
use Rattle.nb_syntax.specs.Generator.{block_yields, yields as body_yields}
use Rattle.nb_eval.specs.declared.given.Segment.{Segment}
use Rattle.nb_eval.specs.declared.state.State.{State}
use Rattle.nb_eval.specs.declared.stop.Stop.TheVariants as stops
use Rattle.nb_eval.specs.Locals.{name_value, place}
use Rattle.nb_eval.specs.Run.{Run, Out, ◌>>=◌, charge, read, assign_at, cut_to, yielded, cleaned, ask_text}
use Rattle.nb_eval.specs.Evaluation.{Did, Acts, eval, act_block, turns, loop, eval_body}
use Rattle.nb_eval.proofs.Wholes.{Steps}
use Rattle.nb_eval.proofs.Wholes as steps
pub use Rattle.nb_eval.proofs.Wholes.{Claim}

-- as `Steps`, with any locals
pub record Closed (plain heard : Bool) (g g' : Segment) (Q S : Claim) : Type 1 where
  pub weaken : (A : Type 0) (s : State) (o o' : Out A) → S A s o o' → Q A s o o'
  pub strong_charge : (n : ℕ) (s : State) → S (Unit {0}) s (charge (1 + n) s) (charge (1 + n) s)
  pub strong_left : (A B : Type 0) (p p' : Run A) (f f' : A → Run B) (s : State) → S A s (p s) (p' s) → ((a : A) (t : State) → Q B t (f a t) (f' a t)) → S B s ((p >>= f) s) ((p' >>= f') s)
  pub strong_right : (A B : Type 0) (p p' : Run A) (f f' : A → Run B) (s : State) → Q A s (p s) (p' s) → ((a : A) (t : State) → S B t (f a t) (f' a t)) → S B s ((p >>= f) s) ((p' >>= f') s)
  pub of_pure : (A : Type 0) (a : A) (s : State) → Q A s (Ok a, s) (Ok a, s)
  pub of_failure : (A : Type 0) (e : CellError) (s : State) → Q A s (Err (stops.Failed e), s) (Err (stops.Failed e), s)
  pub of_return : (v : Value) (s : State) → Q (Unit {0}) s (Err (stops.Done v), s) (Err (stops.Done v), s)
  pub of_bind : (A B : Type 0) (p p' : Run A) (f f' : A → Run B) (s : State) → Q A s (p s) (p' s) → ((a : A) (t : State) → Q B t (f a t) (f' a t)) → Q B s ((p >>= f) s) ((p' >>= f') s)
  pub of_read : (name : List ℕ) (s : State) → Q Value s (read g name s) (read g' name s)
  pub of_locals : (ls : List (Field Value)) (s : State) → Q (Unit {0}) s (Ok tt, record s { locals = ls }) (Ok tt, record s { locals = ls })
  pub of_yield : plain ≡ false → heard ≡ true → (v : Value) (s : State) → Q (Unit {0}) s (yielded g v s) (yielded g' v s)
  pub of_clean : plain ≡ false → (v : Value) (s : State) → Q (Unit {0}) s (cleaned v s) (cleaned v s)
  pub of_ask : plain ≡ false → (key : List ℕ) (s : State) → Q Value s (ask_text g key s) (ask_text g' key s)

module _ (plain heard : Bool) (g g' : Segment) (Q S : Claim) (c : Closed plain heard g g' Q S) where
  of_assign_at : (at : Option ℕ) (name : List ℕ) (v : Value) (s : State) → Q (Unit {0}) s (assign_at at name v s) (assign_at at name v s)
  of_assign_at None name v s = c.of_failure (Unit {0}) _ s
  of_assign_at (Some at) name v s = c.of_locals (slice_set s.locals at (name_value name v)) s

  each_step : Steps plain heard g g' Q S
  each_step = record {
    weaken = c.weaken;
    strong_charge = c.strong_charge;
    strong_left = c.strong_left;
    strong_right = c.strong_right;
    of_pure = c.of_pure;
    of_failure = c.of_failure;
    of_return = c.of_return;
    of_bind = c.of_bind;
    of_read = c.of_read;
    of_keep = λ name v s. c.of_locals (s.locals ++ name_value name v ∷ []) s;
    of_assign = λ name v s. of_assign_at (place name s.locals) name v s;
    of_scoped = λ p p' s h. c.of_bind (Unit {0}) (Unit {0}) p p' (λ _. cut_to (length s.locals)) (λ _. cut_to (length s.locals)) s h (λ _ t. c.of_locals (take (length s.locals) t.locals) t);
    of_yield = c.of_yield;
    of_clean = c.of_clean;
    of_ask = c.of_ask;
  }

  abbrev Both : (A : Type 0) → Run A → Run A → Type 0
  Both A p p' = (s : State) → Q A s (p s) (p' s)

  abbrev IsAllowed : Bool → Type 0
  IsAllowed b = plain ≡ true → b ≡ true

  abbrev IsSilent : Bool → Type 0
  IsSilent b = heard ≡ false → b ≡ false

  pub both_turns : (n : ℕ) (t t' : Did) (b b' : Acts) → Both Value t t' → Both (Unit {0}) b b' → Both (Unit {0}) (turns n t b) (turns n t' b')
  both_turns = steps.both_turns plain heard g g' Q S each_step

  pub both_eval : (e : Expr) → IsAllowed (expr_plain e) → (s : State) → S Value s (eval g e s) (eval g' e s)
  both_eval = steps.both_eval plain heard g g' Q S each_step

  module _ (of_loop : (t t' : Did) (b b' : Acts) → ((s : State) → S Value s (t s) (t' s)) → Both (Unit {0}) b b' → Both (Unit {0}) (loop g t b) (loop g' t' b')) where
    pub both_block : (b : Block) → IsAllowed (block_plain b) → IsSilent (block_yields b) → Both (Unit {0}) (act_block g b) (act_block g' b)
    both_block = steps.both_block plain heard g g' Q S each_step of_loop

    -- what a cell computes
    pub both_body : (b : Body) → IsAllowed (body_plain b) → IsSilent (body_yields b) → Both Value (eval_body g b) (eval_body g' b)
    both_body = steps.both_body plain heard g g' Q S each_step of_loop
