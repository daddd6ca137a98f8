-- The induction over the syntax, once: what holds of each step, of steps in sequence and of scopes holds of all that
-- evaluation does, over one segment and over another.
use Rattle.std.proofs.Common.{◌≡◌, ℕ, zero, suc, ◌+◌, Bool, true, false, ◌&&◌, ◌||◌, List, [], ◌∷◌, ◌++◌, map, Option, Some, None, Ok, Err, refl, sym, ◌∙◌, subst, codes}
use Rattle.std.proofs.lemmas.Bool.{or_parts}
use Rattle.nb_value.specs.declared.value.Value.{Value, out-Value}
use Rattle.nb_value.specs.declared.value.Value.TheOpen as value
use Rattle.nb_value.specs.declared.value.Value.TheVariants as V
use Rattle.nb_value.specs.declared.pairs.Field.{Field}
use Rattle.nb_value.specs.declared.outcome.CellError.{CellError}
use Rattle.nb_value.specs.Value.{size}
use Rattle.nb_value.specs.Fields.{put}
use Rattle.nb_syntax.specs.declared.tree.Sign.{Sign}
use Rattle.nb_syntax.specs.declared.tree.Expr.{Expr, map-Expr, fold-roll-Expr, ind-Expr, roll-Expr}
use Rattle.nb_syntax.specs.declared.tree.Expr.TheOpen as layer
use Rattle.nb_syntax.specs.declared.tree.PathStep.{PathStep, map-PathStep, fold-roll-PathStep, roll-PathStep}
use Rattle.nb_syntax.specs.declared.tree.Member.{Member, fold_out-Member, roll-Member}
use Rattle.nb_syntax.specs.declared.tree.Operand.{Operand, fold_out-Operand, roll-Operand}
use Rattle.nb_syntax.specs.declared.tree.Stmt.{Stmt, map-Stmt, fold-roll-Stmt, roll-Stmt}
use Rattle.nb_syntax.specs.declared.tree.Stmt.TheOpen as level
use Rattle.nb_syntax.specs.declared.tree.Arm.{Arm, fold_out-Arm, roll-Arm}
use Rattle.nb_syntax.specs.declared.tree.Block.{Block, ind-Block, fold_out-Block, roll-Block}
use Rattle.nb_syntax.specs.declared.tree.Body.{Body}
use Rattle.nb_syntax.specs.declared.tree.Body.TheVariants as body
use Rattle.nb_syntax.specs.Plain.{all_plain, expr_plain, path_step_plain, member_plain, operand_plain, stmt_plain, arm_plain, block_plain, body_plain, expr_step as plain_expr, path_step as plain_path, member_step as plain_member, operand_step as plain_operand, stmt_step as plain_stmt, arm_step as plain_arm, block_step as plain_block}
use Rattle.nb_syntax.specs.Generator.{some_yield, stmt_yields, arm_yields, block_yields, yields as body_yields, stmt_step as yield_stmt, arm_step as yield_arm, block_step as yield_block}
use Rattle.nb_builtins.specs.Apply.{called}
use Rattle.nb_eval.specs.declared.given.Segment.{Segment}
use Rattle.nb_eval.specs.declared.state.State.{State}
use Rattle.nb_eval.specs.declared.stop.Stop.TheVariants as stops
use Rattle.nb_eval.specs.Run.{Run, Out, Called, ◌>>=◌, ◌>>◌, pure, stop, lift, charge, tick, done, read, as_truth, truth_of, items_of, within_depth, ask, ask_at, ask_text, yielded, cleaned, thrown, keep, assign, scoped}
use Rattle.nb_eval.specs.Operate.{sum_step, product_step, summed, multiplied, compared, signed, field_of, part_of}
use Rattle.nb_eval.specs.Evaluation.{Did, Acts, eval, member, path_part, operand, expr_step, path_step, member_step, operand_step, parts, members, chain_from, path_from, either, conjunction, disjunction, truth, comparison, test_of, chosen_value, call, act, arm, act_block, stmt_step, arm_step, block_step, or_skip, ran, choose, turns, loop, each, in_order, eval_body}

abbrev pub Claim : Type 1
Claim = (A : Type 0) → State → Out A → Out A → Type 0

-- Q holds of every step, and S, which is stronger, of what charges something; where `plain` is true, fetches, yields
-- and cleanups are left out, and where `heard` is false, yields
pub record Steps (plain heard : Bool) (g g' : Segment) (Q S : Claim) : Type 1 where
  pub weaken : (A : Type 0) (s : State) (o o' : Out A) → S A s o o' → Q A s o o'
  pub strong_charge : (n : ℕ) (s : State) → S (Unit {0}) s (charge (1 + n) s) (charge (1 + n) s)
  pub strong_left : (A B : Type 0) (p p' : Run A) (f f' : A → Run B) (s : State) → S A s (p s) (p' s) → ((a : A) (t : State) → Q B t (f a t) (f' a t)) → S B s ((p >>= f) s) ((p' >>= f') s)
  pub strong_right : (A B : Type 0) (p p' : Run A) (f f' : A → Run B) (s : State) → Q A s (p s) (p' s) → ((a : A) (t : State) → S B t (f a t) (f' a t)) → S B s ((p >>= f) s) ((p' >>= f') s)
  pub of_pure : (A : Type 0) (a : A) (s : State) → Q A s (Ok a, s) (Ok a, s)
  pub of_failure : (A : Type 0) (e : CellError) (s : State) → Q A s (Err (stops.Failed e), s) (Err (stops.Failed e), s)
  pub of_return : (v : Value) (s : State) → Q (Unit {0}) s (Err (stops.Done v), s) (Err (stops.Done v), s)
  pub of_bind : (A B : Type 0) (p p' : Run A) (f f' : A → Run B) (s : State) → Q A s (p s) (p' s) → ((a : A) (t : State) → Q B t (f a t) (f' a t)) → Q B s ((p >>= f) s) ((p' >>= f') s)
  pub of_read : (name : List ℕ) (s : State) → Q Value s (read g name s) (read g' name s)
  pub of_keep : (name : List ℕ) (v : Value) (s : State) → Q (Unit {0}) s (keep name v s) (keep name v s)
  pub of_assign : (name : List ℕ) (v : Value) (s : State) → Q (Unit {0}) s (assign name v s) (assign name v s)
  pub of_scoped : (p p' : Run (Unit {0})) (s : State) → Q (Unit {0}) s (p s) (p' s) → Q (Unit {0}) s (scoped p s) (scoped p' s)
  pub of_yield : plain ≡ false → heard ≡ true → (v : Value) (s : State) → Q (Unit {0}) s (yielded g v s) (yielded g' v s)
  pub of_clean : plain ≡ false → (v : Value) (s : State) → Q (Unit {0}) s (cleaned v s) (cleaned v s)
  pub of_ask : plain ≡ false → (key : List ℕ) (s : State) → Q Value s (ask_text g key s) (ask_text g' key s)

and_left : (a b : Bool) → (a && b) ≡ true → a ≡ true
and_left true b h = refl
and_left false b h = h

and_right : (a b : Bool) → (a && b) ≡ true → b ≡ true
and_right true b h = h
and_right false b h = absurd (cc)

abbrev pub Proved : (X : Type 0) → (X → Type 0) → Type 0
Proved X P = (x : X) × P x

abbrev bare_of : {X : Type 0} {P : X → Type 0} → Proved X P → X
bare_of x = x.0

module _ (plain heard : Bool) (g g' : Segment) (Q S : Claim) (c : Steps plain heard g g' Q S) where
  -- at each state
  abbrev pub Both : (A : Type 0) → Run A → Run A → Type 0
  Both A p p' = (s : State) → Q A s (p s) (p' s)

  abbrev pub Strong : (A : Type 0) → Run A → Run A → Type 0
  Strong A p p' = (s : State) → S A s (p s) (p' s)

  -- what is to be plain is plain
  abbrev pub IsAllowed : Bool → Type 0
  IsAllowed b = plain ≡ true → b ≡ true

  left_of : (a b : Bool) → IsAllowed (a && b) → IsAllowed a
  left_of a b h p = and_left a b (h p)

  right_of : (a b : Bool) → IsAllowed (a && b) → IsAllowed b
  right_of a b h p = and_right a b (h p)

  not_plain : IsAllowed false → plain ≡ false
  not_plain h = go plain refl
    where
      go : (b : Bool) → plain ≡ b → plain ≡ false
      go true e = let n : false ≡ true = h e in absurd (cc)
      go false e = e

  -- and what is to yield nothing yields nothing
  abbrev pub IsSilent : Bool → Type 0
  IsSilent b = heard ≡ false → b ≡ false

  silent_left : (a b : Bool) → IsSilent (a || b) → IsSilent a
  silent_left a b h p = (or_parts a b (h p)).0

  silent_right : (a b : Bool) → IsSilent (a || b) → IsSilent b
  silent_right a b h p = (or_parts a b (h p)).1

  is_heard : IsSilent true → heard ≡ true
  is_heard h = go heard refl
    where
      go : (b : Bool) → heard ≡ b → heard ≡ true
      go true e = e
      go false e = let n : true ≡ false = h e in absurd (cc)

  pub weak : (A : Type 0) (p p' : Run A) → Strong A p p' → Both A p p'
  weak A p p' h s = c.weaken A s (p s) (p' s) (h s)

  pub strong_done : (v : Value) → Strong Value (done v) (done v)
  strong_done v s = c.strong_left (Unit {0}) Value (charge (1 + size v)) (charge (1 + size v)) (λ _. pure v) (λ _. pure v) s (c.strong_charge (size v) s) (λ _ t. c.of_pure Value v t)

  both_done : (v : Value) → Both Value (done v) (done v)
  both_done v = weak Value (done v) (done v) (strong_done v)

  both_tick : Both (Unit {0}) tick tick
  both_tick = weak (Unit {0}) tick tick (c.strong_charge 0)

  strong_first : (A B : Type 0) (p p' : Run A) (f f' : A → Run B) → Strong A p p' → ((a : A) → Both B (f a) (f' a)) → Strong B (p >>= f) (p' >>= f')
  strong_first A B p p' f f' hp hf s = c.strong_left A B p p' f f' s (hp s) hf

  strong_last : (A B : Type 0) (p p' : Run A) (f f' : A → Run B) → Both A p p' → ((a : A) → Strong B (f a) (f' a)) → Strong B (p >>= f) (p' >>= f')
  strong_last A B p p' f f' hp hf s = c.strong_right A B p p' f f' s (hp s) hf

  both_then : (A B : Type 0) (p p' : Run A) (f f' : A → Run B) → Both A p p' → ((a : A) → Both B (f a) (f' a)) → Both B (p >>= f) (p' >>= f')
  both_then A B p p' f f' hp hf s = c.of_bind A B p p' f f' s (hp s) hf

  both_pure : (A : Type 0) (a : A) → Both A (pure a) (pure a)
  both_pure A a s = c.of_pure A a s

  both_lift : (A : Type 0) (r : Called A) → Both A (lift r) (lift r)
  both_lift A (Ok a) s = c.of_pure A a s
  both_lift A (Err e) s = c.of_failure A e s

  strong_lift : (r : Called Value) → Strong Value (lift r >>= done) (lift r >>= done)
  strong_lift r = strong_last Value Value (lift r) (lift r) done done (both_lift Value r) strong_done

  both_truth : (word : List ℕ) (v : Value) → Both Bool (as_truth word v) (as_truth word v)
  both_truth word v = both_lift Bool (truth_of word v)

  both_ask_at : plain ≡ false → (x : value.Value-F Value) → Both Value (ask_at g x) (ask_at g' x)
  both_ask_at p (value.Text key) s = c.of_ask p key s
  both_ask_at p x s = c.of_failure Value _ s

  both_ask : plain ≡ false → (v : Value) → Both Value (ask g v) (ask g' v)
  both_ask p v = both_ask_at p (out-Value v)

  both_either : (A : Type 0) (a a' b b' : Run A) → Both A a a' → Both A b b' → (t : Bool) → Both A (either a b t) (either a' b' t)
  both_either A a a' b b' ha hb true s = ha s
  both_either A a a' b b' ha hb false s = hb s

  -- ---- expressions

  abbrev pub BothExpr : Expr → Type 0
  BothExpr e = IsAllowed (expr_plain e) → Strong Value (eval g e) (eval g' e)

  weak_expr : (e : Expr) → BothExpr e → IsAllowed (expr_plain e) → Both Value (eval g e) (eval g' e)
  weak_expr e k h = weak Value (eval g e) (eval g' e) (k h)

  abbrev pub BothStep : PathStep → Type 0
  BothStep p = IsAllowed (path_step_plain p) → (v : Value) → Both Value (path_part g p v) (path_part g' p v)

  abbrev pub BothMember : Member → Type 0
  BothMember m = BothExpr m.value

  abbrev pub BothOperand : Operand → Type 0
  BothOperand o = BothExpr o.expr

  abbrev Exprs : Type 0
  Exprs = List (Proved Expr BothExpr)

  both_parts : (es : Exprs) → IsAllowed (all_plain (map expr_plain (map bare_of es))) → (vs : List Value) → Both (List Value) (parts vs (map (eval g) (map bare_of es))) (parts vs (map (eval g') (map bare_of es)))
  both_parts [] h vs s = c.of_pure (List Value) vs s
  both_parts (e ∷ es) h vs s =
      both_then Value (List Value) (eval g e.0) (eval g' e.0) (λ v. parts (vs ++ v ∷ []) (map (eval g) (map bare_of es))) (λ v. parts (vs ++ v ∷ []) (map (eval g') (map bare_of es)))
      (weak_expr e.0 e.1 (left_of (expr_plain e.0) (all_plain (map expr_plain (map bare_of es))) h))
      (λ v. both_parts es (right_of (expr_plain e.0) (all_plain (map expr_plain (map bare_of es))) h) (vs ++ v ∷ [])) s

  pub member_is : (given : Segment) (m : Member) → member given m ≡ (m.key, eval given m.value)
  member_is given m = fold_out-Member Did (Value → Did) (List ℕ × Did) (Sign × Did) (expr_step given) (path_step given) (member_step given) (operand_step given) m

  member_plain_is : (m : Member) → member_plain m ≡ expr_plain m.value
  member_plain_is m = fold_out-Member Bool Bool Bool Bool plain_expr plain_path plain_member plain_operand m

  abbrev Members : Type 0
  Members = List (Proved Member BothMember)

  both_members : (ms : Members) → IsAllowed (all_plain (map member_plain (map bare_of ms))) → (fs : List (Field Value)) → Both (List (Field Value)) (members fs (map (member g) (map bare_of ms))) (members fs (map (member g') (map bare_of ms)))
  both_members [] h fs s = c.of_pure (List (Field Value)) fs s
  both_members (m ∷ ms) h fs s =
      let after : List (Field Value) → Value → List (Field Value) = λ done v. put (record { name = m.0.key; value = v }) done in
      rw (member_is g m.0, member_is g' m.0)
      (both_then Value (List (Field Value)) (eval g m.0.value) (eval g' m.0.value) (λ v. members (after fs v) (map (member g) (map bare_of ms))) (λ v. members (after fs v) (map (member g') (map bare_of ms)))
      (weak_expr m.0.value m.1 (λ p. sym (member_plain_is m.0) ∙ left_of (member_plain m.0) (all_plain (map member_plain (map bare_of ms))) h p))
      (λ v. both_members ms (right_of (member_plain m.0) (all_plain (map member_plain (map bare_of ms))) h) (after fs v)) s)

  pub operand_is : (given : Segment) (o : Operand) → operand given o ≡ (o.sign, eval given o.expr)
  operand_is given o = fold_out-Operand Did (Value → Did) (List ℕ × Did) (Sign × Did) (expr_step given) (path_step given) (member_step given) (operand_step given) o

  operand_plain_is : (o : Operand) → operand_plain o ≡ expr_plain o.expr
  operand_plain_is o = fold_out-Operand Bool Bool Bool Bool plain_expr plain_path plain_member plain_operand o

  abbrev Operands : Type 0
  Operands = List (Proved Operand BothOperand)

  module _ (step : Sign → Value → Value → Did) (both_step : (sign : Sign) (v w : Value) → Both Value (step sign v w) (step sign v w)) where
    both_chain : (os : Operands) → IsAllowed (all_plain (map operand_plain (map bare_of os))) → (v : Value) → Both Value (chain_from step v (map (operand g) (map bare_of os))) (chain_from step v (map (operand g') (map bare_of os)))
    both_chain [] h v s = c.of_pure Value v s
    both_chain (o ∷ os) h v s =
        rw (operand_is g o.0, operand_is g' o.0)
        (both_then Value Value (eval g o.0.expr >>= step o.0.sign v) (eval g' o.0.expr >>= step o.0.sign v) (λ u. chain_from step u (map (operand g) (map bare_of os))) (λ u. chain_from step u (map (operand g') (map bare_of os)))
        (both_then Value Value (eval g o.0.expr) (eval g' o.0.expr) (step o.0.sign v) (step o.0.sign v)
        (weak_expr o.0.expr o.1 (λ p. sym (operand_plain_is o.0) ∙ left_of (operand_plain o.0) (all_plain (map operand_plain (map bare_of os))) h p)) (both_step o.0.sign v))
        (λ u. both_chain os (right_of (operand_plain o.0) (all_plain (map operand_plain (map bare_of os))) h) u) s)

  both_sum_step : (sign : Sign) (v w : Value) → Both Value (sum_step sign v w) (sum_step sign v w)
  both_sum_step sign v w = weak Value (sum_step sign v w) (sum_step sign v w) (strong_lift (summed sign v w))

  both_product_step : (sign : Sign) (v w : Value) → Both Value (product_step sign v w) (product_step sign v w)
  both_product_step sign v w = weak Value (product_step sign v w) (product_step sign v w) (strong_lift (multiplied sign v w))

  abbrev PathSteps : Type 0
  PathSteps = List (Proved PathStep BothStep)

  both_path : (ps : PathSteps) → IsAllowed (all_plain (map path_step_plain (map bare_of ps))) → (v : Value) → Both Value (path_from v (map (path_part g) (map bare_of ps))) (path_from v (map (path_part g') (map bare_of ps)))
  both_path [] h v s = c.of_pure Value v s
  both_path (p ∷ ps) h v s =
      both_then Value Value (path_part g p.0 v) (path_part g' p.0 v) (λ u. path_from u (map (path_part g) (map bare_of ps))) (λ u. path_from u (map (path_part g') (map bare_of ps)))
      (p.1 (left_of (path_step_plain p.0) (all_plain (map path_step_plain (map bare_of ps))) h) v)
      (λ u. both_path ps (right_of (path_step_plain p.0) (all_plain (map path_step_plain (map bare_of ps))) h) u) s

  both_test : (word : List ℕ) (e : Expr) → BothExpr e → IsAllowed (expr_plain e) → Both Bool (eval g e >>= as_truth word) (eval g' e >>= as_truth word)
  both_test word e k h = both_then Value Bool (eval g e) (eval g' e) (as_truth word) (as_truth word) (weak_expr e k h) (both_truth word)

  both_conjunction : (es : Exprs) → IsAllowed (all_plain (map expr_plain (map bare_of es))) → Both Bool (conjunction (map (eval g) (map bare_of es))) (conjunction (map (eval g') (map bare_of es)))
  both_conjunction [] h s = c.of_pure Bool true s
  both_conjunction (e ∷ es) h s =
      let more = conjunction (map (eval g) (map bare_of es)) in
      let more' = conjunction (map (eval g') (map bare_of es)) in
      both_then Bool Bool (eval g e.0 >>= as_truth (codes "&&")) (eval g' e.0 >>= as_truth (codes "&&")) (either more (pure false)) (either more' (pure false))
      (both_test (codes "&&") e.0 e.1 (left_of (expr_plain e.0) (all_plain (map expr_plain (map bare_of es))) h))
      (both_either Bool more more' (pure false) (pure false) (both_conjunction es (right_of (expr_plain e.0) (all_plain (map expr_plain (map bare_of es))) h)) (both_pure Bool false)) s

  both_disjunction : (es : Exprs) → IsAllowed (all_plain (map expr_plain (map bare_of es))) → Both Bool (disjunction (map (eval g) (map bare_of es))) (disjunction (map (eval g') (map bare_of es)))
  both_disjunction [] h s = c.of_pure Bool false s
  both_disjunction (e ∷ es) h s =
      let more = disjunction (map (eval g) (map bare_of es)) in
      let more' = disjunction (map (eval g') (map bare_of es)) in
      both_then Bool Bool (eval g e.0 >>= as_truth (codes "||")) (eval g' e.0 >>= as_truth (codes "||")) (either (pure true) more) (either (pure true) more')
      (both_test (codes "||") e.0 e.1 (left_of (expr_plain e.0) (all_plain (map expr_plain (map bare_of es))) h))
      (both_either Bool (pure true) (pure true) more more' (both_pure Bool true) (both_disjunction es (right_of (expr_plain e.0) (all_plain (map expr_plain (map bare_of es))) h))) s

  -- one layer of an expression, with a proof beside each part
  abbrev pub Layer : Type 0
  Layer = layer.Expr-F (Proved Expr BothExpr) (Proved PathStep BothStep) (Proved Member BothMember) (Proved Operand BothOperand)

  abbrev bare : Layer → layer.Expr-F Expr PathStep Member Operand
  bare = map-Expr (Proved Expr BothExpr) (Proved PathStep BothStep) (Proved Member BothMember) (Proved Operand BothOperand) Expr PathStep Member Operand bare_of bare_of bare_of bare_of

  abbrev dids : Segment → layer.Expr-F Expr PathStep Member Operand → layer.Expr-F Did (Value → Did) (List ℕ × Did) (Sign × Did)
  dids given = map-Expr Expr PathStep Member Operand Did (Value → Did) (List ℕ × Did) (Sign × Did) (eval given) (path_part given) (member given) (operand given)

  abbrev plains : layer.Expr-F Expr PathStep Member Operand → layer.Expr-F Bool Bool Bool Bool
  plains = map-Expr Expr PathStep Member Operand Bool Bool Bool Bool expr_plain path_step_plain member_plain operand_plain

  eval_roll : (given : Segment) (x : layer.Expr-F Expr PathStep Member Operand) → eval given (roll-Expr x) ≡ expr_step given (dids given x)
  eval_roll given x = fold-roll-Expr Did (Value → Did) (List ℕ × Did) (Sign × Did) (expr_step given) (path_step given) (member_step given) (operand_step given) x

  plain_roll : (x : layer.Expr-F Expr PathStep Member Operand) → expr_plain (roll-Expr x) ≡ plain_expr (plains x)
  plain_roll x = fold-roll-Expr Bool Bool Bool Bool plain_expr plain_path plain_member plain_operand x

  at_layer : (y : Layer) → IsAllowed (plain_expr (plains (bare y))) → Strong Value (expr_step g (dids g (bare y))) (expr_step g' (dids g' (bare y)))
  at_layer (layer.Int n) h s = strong_done (V.Int n) s
  at_layer (layer.Quoted t) h s = strong_done (V.Text t) s
  at_layer (layer.Bool b) h s = strong_done (V.Bool b) s
  at_layer layer.Null h s = strong_done V.Null s
  at_layer (layer.Name n) h s = strong_last Value Value (read g n) (read g' n) done done (c.of_read n) strong_done s
  at_layer (layer.List xs) h s =
      let make : List Value → Did = λ vs. lift (within_depth (V.List vs)) in
      let all = parts [] (map (eval g) (map bare_of xs)) in
      let all' = parts [] (map (eval g') (map bare_of xs)) in
      strong_last Value Value (all >>= make) (all' >>= make) done done (both_then (List Value) Value all all' make make (both_parts xs h []) (λ vs. both_lift Value (within_depth (V.List vs)))) strong_done s
  at_layer (layer.Rec ms) h s =
      let make : List (Field Value) → Did = λ fs. lift (within_depth (V.Rec fs)) in
      let all = members [] (map (member g) (map bare_of ms)) in
      let all' = members [] (map (member g') (map bare_of ms)) in
      strong_last Value Value (all >>= make) (all' >>= make) done done (both_then (List (Field Value)) Value all all' make make (both_members ms h []) (λ fs. both_lift Value (within_depth (V.Rec fs)))) strong_done s
  at_layer (layer.Call f xs) h s = strong_last (List Value) Value (parts [] (map (eval g) (map bare_of xs))) (parts [] (map (eval g') (map bare_of xs))) (call f) (call f) (both_parts xs h []) (λ vs. strong_lift (called f vs)) s
  at_layer (layer.Fetch e) h s =
      let p = not_plain h in
      let any : IsAllowed (expr_plain e.0) = λ t. absurd (cc) in
      strong_last Value Value (eval g e.0 >>= ask g) (eval g' e.0 >>= ask g') done done (both_then Value Value (eval g e.0) (eval g' e.0) (ask g) (ask g') (weak_expr e.0 e.1 any) (both_ask p)) strong_done s
  at_layer (layer.Path e steps) h s =
      let more = all_plain (map path_step_plain (map bare_of steps)) in
      strong_first Value Value (eval g e.0) (eval g' e.0) (λ v. path_from v (map (path_part g) (map bare_of steps))) (λ v. path_from v (map (path_part g') (map bare_of steps)))
      (e.1 (left_of (expr_plain e.0) more h)) (both_path steps (right_of (expr_plain e.0) more h)) s
  at_layer (layer.Unary sign e) h s =
      let make : Value → Did = λ v. lift (signed sign v) in
      strong_last Value Value (eval g e.0 >>= make) (eval g' e.0 >>= make) done done (both_then Value Value (eval g e.0) (eval g' e.0) make make (weak_expr e.0 e.1 h) (λ v. both_lift Value (signed sign v))) strong_done s
  at_layer (layer.Product e os) h s =
      let more = all_plain (map operand_plain (map bare_of os)) in
      strong_first Value Value (eval g e.0) (eval g' e.0) (λ v. chain_from product_step v (map (operand g) (map bare_of os))) (λ v. chain_from product_step v (map (operand g') (map bare_of os)))
      (e.1 (left_of (expr_plain e.0) more h)) (both_chain product_step both_product_step os (right_of (expr_plain e.0) more h)) s
  at_layer (layer.Sum e os) h s =
      let more = all_plain (map operand_plain (map bare_of os)) in
      strong_first Value Value (eval g e.0) (eval g' e.0) (λ v. chain_from sum_step v (map (operand g) (map bare_of os))) (λ v. chain_from sum_step v (map (operand g') (map bare_of os)))
      (e.1 (left_of (expr_plain e.0) more h)) (both_chain sum_step both_sum_step os (right_of (expr_plain e.0) more h)) s
  at_layer (layer.Compare sign a b) h s =
      let make : Value → Value → Did = λ v w. lift (compared sign v w) in
      strong_first Value Value (eval g a.0) (eval g' a.0) (λ v. comparison sign v (eval g b.0)) (λ v. comparison sign v (eval g' b.0))
      (a.1 (left_of (expr_plain a.0) (expr_plain b.0) h))
      (λ v. both_then Value Value (eval g b.0 >>= make v) (eval g' b.0 >>= make v) done done
      (both_then Value Value (eval g b.0) (eval g' b.0) (make v) (make v) (weak_expr b.0 b.1 (right_of (expr_plain a.0) (expr_plain b.0) h)) (λ w. both_lift Value (compared sign v w)))
      both_done) s
  at_layer (layer.And xs) h s = strong_last Bool Value (conjunction (map (eval g) (map bare_of xs))) (conjunction (map (eval g') (map bare_of xs))) truth truth (both_conjunction xs h) (λ b. strong_done (V.Bool b)) s
  at_layer (layer.Or xs) h s = strong_last Bool Value (disjunction (map (eval g) (map bare_of xs))) (disjunction (map (eval g') (map bare_of xs))) truth truth (both_disjunction xs h) (λ b. strong_done (V.Bool b)) s
  at_layer (layer.Choose t a b) h s =
      let hab : IsAllowed (expr_plain a.0 && expr_plain b.0) = right_of (expr_plain t.0) (expr_plain a.0 && expr_plain b.0) h in
      let here = either (eval g a.0) (eval g b.0) in
      let here' = either (eval g' a.0) (eval g' b.0) in
      strong_last Bool Value (test_of (eval g t.0)) (test_of (eval g' t.0)) (λ x. chosen_value (here x)) (λ x. chosen_value (here' x))
      (both_test (codes "?") t.0 t.1 (left_of (expr_plain t.0) (expr_plain a.0 && expr_plain b.0) h))
      (λ x. strong_last Value Value (here x) (here' x) done done
      (both_either Value (eval g a.0) (eval g' a.0) (eval g b.0) (eval g' b.0) (weak_expr a.0 a.1 (left_of (expr_plain a.0) (expr_plain b.0) hab)) (weak_expr b.0 b.1 (right_of (expr_plain a.0) (expr_plain b.0) hab)) x)
      strong_done)
      s

  abbrev StepLayer : Type 0
  StepLayer = layer.PathStep-F (Proved Expr BothExpr) (Proved PathStep BothStep) (Proved Member BothMember) (Proved Operand BothOperand)

  abbrev bare_step : StepLayer → layer.PathStep-F Expr PathStep Member Operand
  bare_step = map-PathStep (Proved Expr BothExpr) (Proved PathStep BothStep) (Proved Member BothMember) (Proved Operand BothOperand) Expr PathStep Member Operand bare_of bare_of bare_of bare_of

  abbrev step_dids : Segment → layer.PathStep-F Expr PathStep Member Operand → layer.PathStep-F Did (Value → Did) (List ℕ × Did) (Sign × Did)
  step_dids given = map-PathStep Expr PathStep Member Operand Did (Value → Did) (List ℕ × Did) (Sign × Did) (eval given) (path_part given) (member given) (operand given)

  abbrev step_plains : layer.PathStep-F Expr PathStep Member Operand → layer.PathStep-F Bool Bool Bool Bool
  step_plains = map-PathStep Expr PathStep Member Operand Bool Bool Bool Bool expr_plain path_step_plain member_plain operand_plain

  step_roll : (given : Segment) (x : layer.PathStep-F Expr PathStep Member Operand) → path_part given (roll-PathStep x) ≡ path_step given (step_dids given x)
  step_roll given x = fold-roll-PathStep Did (Value → Did) (List ℕ × Did) (Sign × Did) (expr_step given) (path_step given) (member_step given) (operand_step given) x

  step_plain_roll : (x : layer.PathStep-F Expr PathStep Member Operand) → path_step_plain (roll-PathStep x) ≡ plain_path (step_plains x)
  step_plain_roll x = fold-roll-PathStep Bool Bool Bool Bool plain_expr plain_path plain_member plain_operand x

  at_step : (y : StepLayer) → IsAllowed (plain_path (step_plains (bare_step y))) → (v : Value) → Both Value (path_step g (step_dids g (bare_step y)) v) (path_step g' (step_dids g' (bare_step y)) v)
  at_step (layer.Field n) h v s = c.weaken Value s _ _ (strong_lift (field_of n v) s)
  at_step (layer.At e) h v s =
      let make : Value → Did = λ i. lift (part_of v i) in
      both_then Value Value (eval g e.0 >>= make) (eval g' e.0 >>= make) done done (both_then Value Value (eval g e.0) (eval g' e.0) make make (weak_expr e.0 e.1 h) (λ i. both_lift Value (part_of v i))) both_done s

  pub both_eval : (e : Expr) → BothExpr e
  both_eval = ind-Expr BothExpr BothStep BothMember BothOperand
      (λ x y is. subst (λ z. BothExpr (roll-Expr z)) is (rw (eval_roll g (bare y), eval_roll g' (bare y), plain_roll (bare y)) (at_layer y)))
      (λ x y is. subst (λ z. BothStep (roll-PathStep z)) is (rw (step_roll g (bare_step y), step_roll g' (bare_step y), step_plain_roll (bare_step y)) (at_step y)))
      (λ x y is. subst (λ z. BothMember (roll-Member z)) is y.value.1)
      (λ x y is. subst (λ z. BothOperand (roll-Operand z)) is y.expr.1)

  -- ---- statements

  both_expr : (e : Expr) → IsAllowed (expr_plain e) → Both Value (eval g e) (eval g' e)
  both_expr e h = weak_expr e (both_eval e) h

  pub both_turns : (n : ℕ) (t t' : Did) (b b' : Acts) → Both Value t t' → Both (Unit {0}) b b' → Both (Unit {0}) (turns n t b) (turns n t' b')
  both_turns zero t t' b b' ht hb s = c.of_failure (Unit {0}) _ s
  both_turns (suc n) t t' b b' ht hb s =
      both_then Bool (Unit {0}) (t >>= as_truth (codes "while")) (t' >>= as_truth (codes "while")) (either (b >> turns n t b) (pure tt)) (either (b' >> turns n t' b') (pure tt))
      (both_then Value Bool t t' (as_truth (codes "while")) (as_truth (codes "while")) ht (both_truth (codes "while")))
      (both_either (Unit {0}) (b >> turns n t b) (b' >> turns n t' b') (pure tt) (pure tt)
      (both_then (Unit {0}) (Unit {0}) b b' (λ _. turns n t b) (λ _. turns n t' b') hb (λ _. both_turns n t t' b b' ht hb))
      (both_pure (Unit {0}) tt))
      s

  both_each : (name : List ℕ) (b b' : Acts) → Both (Unit {0}) b b' → (vs : List Value) → Both (Unit {0}) (each name b vs) (each name b' vs)
  both_each name b b' hb [] s = c.of_pure (Unit {0}) tt s
  both_each name b b' hb (v ∷ vs) s =
      both_then (Unit {0}) (Unit {0}) (tick >> scoped (keep name v >> b)) (tick >> scoped (keep name v >> b')) (λ _. each name b vs) (λ _. each name b' vs)
      (both_then (Unit {0}) (Unit {0}) tick tick (λ _. scoped (keep name v >> b)) (λ _. scoped (keep name v >> b')) both_tick
      (λ _ t. c.of_scoped (keep name v >> b) (keep name v >> b') t (both_then (Unit {0}) (Unit {0}) (keep name v) (keep name v) (λ _. b) (λ _. b') (c.of_keep name v) (λ _. hb) t)))
      (λ _. both_each name b b' hb vs)
      s

  -- a statement that evaluates an expression and goes on with its value
  both_use : (A : Type 0) (e : Expr) → IsAllowed (expr_plain e) → (f f' : Value → Run A) → ((v : Value) → Both A (f v) (f' v)) → Both A (tick >> eval g e >>= f) (tick >> eval g' e >>= f')
  both_use A e h f f' hf =
      both_then Value A (tick >> eval g e) (tick >> eval g' e) f f' (both_then (Unit {0}) Value tick tick (λ _. eval g e) (λ _. eval g' e) both_tick (λ _. both_expr e h)) hf

  abbrev pub LoopToo : Type 0
  LoopToo = (t t' : Did) (b b' : Acts) → Strong Value t t' → Both (Unit {0}) b b' → Both (Unit {0}) (loop g t b) (loop g' t' b')

  module _ (of_loop : LoopToo) where
    abbrev pub BothStmt : Stmt → Type 0
    BothStmt st = IsAllowed (stmt_plain st) → IsSilent (stmt_yields st) → Both (Unit {0}) (act g st) (act g' st)

    abbrev pub BothBlock : Block → Type 0
    BothBlock b = IsAllowed (block_plain b) → IsSilent (block_yields b) → Both (Unit {0}) (act_block g b) (act_block g' b)

    abbrev pub BothArm : Arm → Type 0
    BothArm a = BothBlock a.body

    arm_is : (given : Segment) (a : Arm) → arm given a ≡ (eval given a.test, act_block given a.body)
    arm_is given a = fold_out-Arm Acts (Did × Acts) Acts (stmt_step given) (arm_step given) (block_step given) a

    arm_plain_is : (a : Arm) → arm_plain a ≡ (expr_plain a.test && block_plain a.body)
    arm_plain_is a = fold_out-Arm Bool Bool Bool plain_stmt plain_arm plain_block a

    arm_yields_is : (a : Arm) → arm_yields a ≡ block_yields a.body
    arm_yields_is a = fold_out-Arm Bool Bool Bool yield_stmt yield_arm yield_block a

    block_yields_is : (b : Block) → block_yields b ≡ some_yield (map stmt_yields b.stmts)
    block_yields_is b = fold_out-Block Bool Bool Bool yield_stmt yield_arm yield_block b

    block_is : (given : Segment) (b : Block) → act_block given b ≡ scoped (in_order (map (act given) b.stmts))
    block_is given b = fold_out-Block Acts (Did × Acts) Acts (stmt_step given) (arm_step given) (block_step given) b

    block_plain_is : (b : Block) → block_plain b ≡ all_plain (map stmt_plain b.stmts)
    block_plain_is b = fold_out-Block Bool Bool Bool plain_stmt plain_arm plain_block b

    both_in_order : (sts : List (Proved Stmt BothStmt)) → IsAllowed (all_plain (map stmt_plain (map bare_of sts))) → IsSilent (some_yield (map stmt_yields (map bare_of sts))) → Both (Unit {0}) (in_order (map (act g) (map bare_of sts))) (in_order (map (act g') (map bare_of sts)))
    both_in_order [] h q s = c.of_pure (Unit {0}) tt s
    both_in_order (x ∷ xs) h q s =
        let more = all_plain (map stmt_plain (map bare_of xs)) in
        let later = some_yield (map stmt_yields (map bare_of xs)) in
        both_then (Unit {0}) (Unit {0}) (act g x.0) (act g' x.0) (λ _. in_order (map (act g) (map bare_of xs))) (λ _. in_order (map (act g') (map bare_of xs))) (x.1 (left_of (stmt_plain x.0) more h) (silent_left (stmt_yields x.0) later q)) (λ _. both_in_order xs (right_of (stmt_plain x.0) more h) (silent_right (stmt_yields x.0) later q)) s

    both_ran : (arms : List (Proved Arm BothArm)) → IsAllowed (all_plain (map arm_plain (map bare_of arms))) → IsSilent (some_yield (map arm_yields (map bare_of arms))) → Both Bool (ran (map (arm g) (map bare_of arms))) (ran (map (arm g') (map bare_of arms)))
    both_ran [] h q s = c.of_pure Bool false s
    both_ran (a ∷ arms) h q s =
        let more = all_plain (map arm_plain (map bare_of arms)) in
        let later = some_yield (map arm_yields (map bare_of arms)) in
        let quiet : IsSilent (block_yields a.0.body) = λ p. sym (arm_yields_is a.0) ∙ silent_left (arm_yields a.0) later q p in
        let here : IsAllowed (expr_plain a.0.test && block_plain a.0.body) = λ p. sym (arm_plain_is a.0) ∙ left_of (arm_plain a.0) more h p in
        let b = act_block g a.0.body in
        let b' = act_block g' a.0.body in
        let others = ran (map (arm g) (map bare_of arms)) in
        let others' = ran (map (arm g') (map bare_of arms)) in
        rw (arm_is g a.0, arm_is g' a.0)
        (both_then Bool Bool (eval g a.0.test >>= as_truth (codes "if")) (eval g' a.0.test >>= as_truth (codes "if")) (either (b >> pure true) others) (either (b' >> pure true) others')
        (both_test (codes "if") a.0.test (both_eval a.0.test) (left_of (expr_plain a.0.test) (block_plain a.0.body) here))
        (both_either Bool (b >> pure true) (b' >> pure true) others others'
        (both_then (Unit {0}) Bool b b' (λ _. pure true) (λ _. pure true) (a.1 (right_of (expr_plain a.0.test) (block_plain a.0.body) here) quiet) (λ _. both_pure Bool true))
        (both_ran arms (right_of (arm_plain a.0) more h) (silent_right (arm_yields a.0) later q)))
        s)

    both_choose : (arms : List (Proved Arm BothArm)) → IsAllowed (all_plain (map arm_plain (map bare_of arms))) → IsSilent (some_yield (map arm_yields (map bare_of arms))) → (o o' : Option Acts) → Both (Unit {0}) (or_skip o) (or_skip o') → Both (Unit {0}) (tick >> choose (map (arm g) (map bare_of arms)) o) (tick >> choose (map (arm g') (map bare_of arms)) o')
    both_choose arms h q o o' ho =
        both_then (Unit {0}) (Unit {0}) tick tick (λ _. choose (map (arm g) (map bare_of arms)) o) (λ _. choose (map (arm g') (map bare_of arms)) o') both_tick
        (λ _. both_then Bool (Unit {0}) (ran (map (arm g) (map bare_of arms))) (ran (map (arm g') (map bare_of arms))) (either (pure tt) (or_skip o)) (either (pure tt) (or_skip o')) (both_ran arms h q) (both_either (Unit {0}) (pure tt) (pure tt) (or_skip o) (or_skip o') (both_pure (Unit {0}) tt) ho))

    at_block : (sts : List (Proved Stmt BothStmt)) → BothBlock (record { stmts = map bare_of sts })
    at_block sts h q =
        let b : Block = record { stmts = map bare_of sts } in
        rw (block_is g b, block_is g' b)
        (λ s. c.of_scoped (in_order (map (act g) (map bare_of sts))) (in_order (map (act g') (map bare_of sts))) s (both_in_order sts (λ p. sym (block_plain_is b) ∙ h p) (λ p. sym (block_yields_is b) ∙ q p) s))

    abbrev pub StmtLayer : Type 0
    StmtLayer = level.Stmt-F (Proved Stmt BothStmt) (Proved Arm BothArm) (Proved Block BothBlock)

    abbrev bare_stmt : StmtLayer → level.Stmt-F Stmt Arm Block
    bare_stmt = map-Stmt (Proved Stmt BothStmt) (Proved Arm BothArm) (Proved Block BothBlock) Stmt Arm Block bare_of bare_of bare_of

    abbrev acts : Segment → level.Stmt-F Stmt Arm Block → level.Stmt-F Acts (Did × Acts) Acts
    acts given = map-Stmt Stmt Arm Block Acts (Did × Acts) Acts (act given) (arm given) (act_block given)

    abbrev stmt_plains : level.Stmt-F Stmt Arm Block → level.Stmt-F Bool Bool Bool
    stmt_plains = map-Stmt Stmt Arm Block Bool Bool Bool stmt_plain arm_plain block_plain

    act_roll : (given : Segment) (x : level.Stmt-F Stmt Arm Block) → act given (roll-Stmt x) ≡ stmt_step given (acts given x)
    act_roll given x = fold-roll-Stmt Acts (Did × Acts) Acts (stmt_step given) (arm_step given) (block_step given) x

    stmt_plain_roll : (x : level.Stmt-F Stmt Arm Block) → stmt_plain (roll-Stmt x) ≡ plain_stmt (stmt_plains x)
    stmt_plain_roll x = fold-roll-Stmt Bool Bool Bool plain_stmt plain_arm plain_block x

    abbrev stmt_silences : level.Stmt-F Stmt Arm Block → level.Stmt-F Bool Bool Bool
    stmt_silences = map-Stmt Stmt Arm Block Bool Bool Bool stmt_yields arm_yields block_yields

    stmt_yields_roll : (x : level.Stmt-F Stmt Arm Block) → stmt_yields (roll-Stmt x) ≡ yield_stmt (stmt_silences x)
    stmt_yields_roll x = fold-roll-Stmt Bool Bool Bool yield_stmt yield_arm yield_block x

    at_level : (y : StmtLayer) → IsAllowed (plain_stmt (stmt_plains (bare_stmt y))) → IsSilent (yield_stmt (stmt_silences (bare_stmt y))) → Both (Unit {0}) (stmt_step g (acts g (bare_stmt y))) (stmt_step g' (acts g' (bare_stmt y)))
    at_level (level.Let n e) h q s = both_use (Unit {0}) e h (keep n) (keep n) (c.of_keep n) s
    at_level (level.Assign n e) h q s = both_use (Unit {0}) e h (assign n) (assign n) (c.of_assign n) s
    at_level (level.If arms None) h q s =
        both_choose arms (left_of (all_plain (map arm_plain (map bare_of arms))) true h) (silent_left (some_yield (map arm_yields (map bare_of arms))) false q) None None (both_pure (Unit {0}) tt) s
    at_level (level.If arms (Some b)) h q s =
        let here = all_plain (map arm_plain (map bare_of arms)) in
        let silent = some_yield (map arm_yields (map bare_of arms)) in
        both_choose arms (left_of here (block_plain b.0) h) (silent_left silent (block_yields b.0) q) (Some (act_block g b.0)) (Some (act_block g' b.0)) (b.1 (right_of here (block_plain b.0) h) (silent_right silent (block_yields b.0) q)) s
    at_level (level.While e b) h q s =
        both_then (Unit {0}) (Unit {0}) tick tick (λ _. loop g (eval g e) (act_block g b.0)) (λ _. loop g' (eval g' e) (act_block g' b.0)) both_tick
        (λ _. of_loop (eval g e) (eval g' e) (act_block g b.0) (act_block g' b.0) (both_eval e (left_of (expr_plain e) (block_plain b.0) h)) (b.1 (right_of (expr_plain e) (block_plain b.0) h) q)) s
    at_level (level.For n e b) h q s =
        let make : Value → Run (List Value) = λ v. lift (items_of (codes "for") v) in
        both_then (List Value) (Unit {0}) (tick >> eval g e >>= make) (tick >> eval g' e >>= make) (each n (act_block g b.0)) (each n (act_block g' b.0))
        (both_use (List Value) e (left_of (expr_plain e) (block_plain b.0) h) make make (λ v. both_lift (List Value) (items_of (codes "for") v)))
        (both_each n (act_block g b.0) (act_block g' b.0) (b.1 (right_of (expr_plain e) (block_plain b.0) h) q))
        s
    at_level (level.Yield e) h q s =
        let p = not_plain h in
        both_use (Unit {0}) e (λ t. absurd (cc)) (yielded g) (yielded g') (c.of_yield p (is_heard q)) s
    at_level (level.Return e) h q s = both_use (Unit {0}) e h (λ v. stop (stops.Done v)) (λ v. stop (stops.Done v)) c.of_return s
    at_level (level.Throw e) h q s = both_use (Unit {0}) e h (λ v. lift (thrown v)) (λ v. lift (thrown v)) (λ v. both_lift (Unit {0}) (thrown v)) s
    at_level (level.Cleanup e) h q s =
        let p = not_plain h in
        both_use (Unit {0}) e (λ t. absurd (cc)) cleaned cleaned (c.of_clean p) s

    pub both_block : (b : Block) → BothBlock b
    both_block = ind-Block BothStmt BothArm BothBlock
        (λ x y is. subst (λ z. BothStmt (roll-Stmt z)) is (rw (act_roll g (bare_stmt y), act_roll g' (bare_stmt y), stmt_plain_roll (bare_stmt y), stmt_yields_roll (bare_stmt y)) (at_level y)))
        (λ x y is. subst (λ z. BothArm (roll-Arm z)) is y.body.1)
        (λ x y is. subst (λ z. BothBlock (roll-Block z)) is (at_block y.stmts))

    -- what a cell computes
    pub both_body : (b : Body) → IsAllowed (body_plain b) → IsSilent (body_yields b) → Both Value (eval_body g b) (eval_body g' b)
    both_body (body.Expr e) h q = both_expr e h
    both_body (body.Block b) h q = both_then (Unit {0}) Value (act_block g b) (act_block g' b) (λ _. pure V.Null) (λ _. pure V.Null) (both_block b h q) (λ _. both_pure Value V.Null)
