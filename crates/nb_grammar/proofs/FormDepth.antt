-- The form of what is spelled has no more brackets open.
use Rattle.std.proofs.Common.{◌≡◌, ◌≤◌, ℕ, zero, suc, max, true, false, refl, sym, subst, List, [], ◌∷◌, map, Option, arith}
use Rattle.nb_value.specs.Function.{arity}
use Rattle.nb_value.specs.declared.function.Function.{Function}
use Rattle.nb_syntax.specs.declared.tree.Sign.{Sign}
use Rattle.nb_syntax.specs.declared.tree.Expr.{Expr}
use Rattle.nb_syntax.specs.declared.tree.PathStep.{PathStep}
use Rattle.nb_syntax.specs.declared.tree.Operand.{Operand}
use Rattle.nb_syntax.specs.declared.tree.Member.{Member}
use Rattle.nb_syntax.specs.declared.tree.Block.{Block}
use Rattle.nb_syntax.specs.declared.tree.Arm.{Arm}
use Rattle.nb_grammar.specs.Grammar as g
use Rattle.nb_grammar.specs.Trees as trees
use Rattle.nb_grammar.specs.Grammar.{ExprWay, OrWay, OrParts, AndWay, AndParts, CompareWay, SumWay, Summands, ProductWay, Factors, UnaryWay, PostfixWay, Steps, PrimaryWay, Items, Pairs, PairWay, BlockWay, Stmts, StmtWay, ElseIfs, ElseWay, BodyWay, CellWay}
use Rattle.nb_grammar.specs.Forms as f
use Rattle.nb_grammar.specs.Forms.{Forms, of_primary, of_expr, of_or, of_and, of_compare, of_sum, of_product, of_unary, of_postfix, as_compare, as_unary, or_parts_of, and_parts_of, summands_of, factors_of, steps_of, items_of, pairs_of, list_of, record_of, call_of, forms, step_forms, member_forms, operand_forms, stmts_of, else_ifs_of, else_of, stmt_form, arm_form, block_form, body_form, cell_form}
use Rattle.nb_grammar.proofs.FormLaws.{forms-Int, forms-Quoted, forms-Bool, forms-Name, forms-List, forms-Rec, forms-Call, forms-Fetch, forms-Path, forms-Unary, forms-Product, forms-Sum, forms-Compare, forms-And, forms-Or, forms-Choose, forms-Null, step_forms-Field, step_forms-At, member_is, operand_is, stmt_form-Let, stmt_form-Assign, stmt_form-While, stmt_form-For, stmt_form-Yield, stmt_form-Return, stmt_form-Throw, stmt_form-Cleanup, other_form, stmt_form-If, arm_is, block_is}

-- A tighter form is no shallower, and the tightest has at most one bracket more than the loosest.
pub record Loose (f : Forms) : Type 0 where
  pub expr_or : trees.expr_depth f.expr ≤ trees.or_depth f.or
  pub or_and : trees.or_depth f.or ≤ trees.and_depth f.and
  pub and_compare : trees.and_depth f.and ≤ trees.compare_depth f.compare
  pub compare_sum : trees.compare_depth f.compare ≤ trees.sum_depth f.sum
  pub sum_product : trees.sum_depth f.sum ≤ trees.product_depth f.product
  pub product_unary : trees.product_depth f.product ≤ trees.unary_depth f.unary
  pub unary_postfix : trees.unary_depth f.unary ≤ trees.postfix_depth f.postfix
  pub postfix_primary : trees.postfix_depth f.postfix ≤ trees.primary_depth f.primary
  pub primary_expr : trees.primary_depth f.primary ≤ suc (trees.expr_depth f.expr)

loose_expr : (d : ExprWay) → Loose (of_expr d)
loose_expr d = record { expr_or = omega arith; or_and = omega arith; and_compare = omega arith; compare_sum = omega arith; sum_product = omega arith; product_unary = omega arith; unary_postfix = omega arith; postfix_primary = omega arith; primary_expr = omega arith }

loose_or : (d : OrWay) → Loose (of_or d)
loose_or d = record { expr_or = omega arith; or_and = omega arith; and_compare = omega arith; compare_sum = omega arith; sum_product = omega arith; product_unary = omega arith; unary_postfix = omega arith; postfix_primary = omega arith; primary_expr = omega arith }

loose_and : (d : AndWay) → Loose (of_and d)
loose_and d = record { expr_or = omega arith; or_and = omega arith; and_compare = omega arith; compare_sum = omega arith; sum_product = omega arith; product_unary = omega arith; unary_postfix = omega arith; postfix_primary = omega arith; primary_expr = omega arith }

loose_compare : (d : CompareWay) → Loose (of_compare d)
loose_compare d = record { expr_or = omega arith; or_and = omega arith; and_compare = omega arith; compare_sum = omega arith; sum_product = omega arith; product_unary = omega arith; unary_postfix = omega arith; postfix_primary = omega arith; primary_expr = omega arith }

loose_sum : (d : SumWay) → Loose (of_sum d)
loose_sum d = record { expr_or = omega arith; or_and = omega arith; and_compare = omega arith; compare_sum = omega arith; sum_product = omega arith; product_unary = omega arith; unary_postfix = omega arith; postfix_primary = omega arith; primary_expr = omega arith }

loose_product : (d : ProductWay) → Loose (of_product d)
loose_product d = record { expr_or = omega arith; or_and = omega arith; and_compare = omega arith; compare_sum = omega arith; sum_product = omega arith; product_unary = omega arith; unary_postfix = omega arith; postfix_primary = omega arith; primary_expr = omega arith }

loose_unary : (d : UnaryWay) → Loose (of_unary d)
loose_unary d = record { expr_or = omega arith; or_and = omega arith; and_compare = omega arith; compare_sum = omega arith; sum_product = omega arith; product_unary = omega arith; unary_postfix = omega arith; postfix_primary = omega arith; primary_expr = omega arith }

loose_postfix : (d : PostfixWay) → Loose (of_postfix d)
loose_postfix d = record { expr_or = omega arith; or_and = omega arith; and_compare = omega arith; compare_sum = omega arith; sum_product = omega arith; product_unary = omega arith; unary_postfix = omega arith; postfix_primary = omega arith; primary_expr = omega arith }

loose_primary : (d : PrimaryWay) → Loose (of_primary d)
loose_primary d = record { expr_or = omega arith; or_and = omega arith; and_compare = omega arith; compare_sum = omega arith; sum_product = omega arith; product_unary = omega arith; unary_postfix = omega arith; postfix_primary = omega arith; primary_expr = omega arith }

abbrev pub Low_expr : ExprWay → Forms → Type 0
Low_expr d f = Loose f × (trees.expr_depth f.expr ≤ trees.expr_depth d)

abbrev pub Low_or : OrWay → Forms → Type 0
Low_or d f = Loose f × (trees.or_depth f.or ≤ trees.or_depth d)

abbrev pub Low_and : AndWay → Forms → Type 0
Low_and d f = Loose f × (trees.and_depth f.and ≤ trees.and_depth d)

abbrev pub Low_compare : CompareWay → Forms → Type 0
Low_compare d f = Loose f × (trees.compare_depth f.compare ≤ trees.compare_depth d)

abbrev pub Low_sum : SumWay → Forms → Type 0
Low_sum d f = Loose f × (trees.sum_depth f.sum ≤ trees.sum_depth d)

abbrev pub Low_product : ProductWay → Forms → Type 0
Low_product d f = Loose f × (trees.product_depth f.product ≤ trees.product_depth d)

abbrev pub Low_unary : UnaryWay → Forms → Type 0
Low_unary d f = Loose f × (trees.unary_depth f.unary ≤ trees.unary_depth d)

abbrev pub Low_postfix : PostfixWay → Forms → Type 0
Low_postfix d f = Loose f × (trees.postfix_depth f.postfix ≤ trees.postfix_depth d)

abbrev pub Low_primary : PrimaryWay → Forms → Type 0
Low_primary d f = Loose f × (trees.primary_depth f.primary ≤ trees.primary_depth d)

call1_low : (f : Function) (n : ℕ) (is : arity f ≡ n) (a : Forms) → trees.primary_depth (call_of f n is (a ∷ [])) ≤ suc (trees.expr_depth a.expr)
call1_low f zero is a = omega arith
call1_low f (suc zero) is a = omega arith
call1_low f (suc (suc zero)) is a = omega arith
call1_low f (suc (suc (suc zero))) is a = omega arith
call1_low f (suc (suc (suc (suc n)))) is a = omega arith

call2_low : (f : Function) (n : ℕ) (is : arity f ≡ n) (a b : Forms) → trees.primary_depth (call_of f n is (a ∷ b ∷ [])) ≤ suc (max (trees.expr_depth a.expr) (trees.expr_depth b.expr))
call2_low f zero is a b = omega arith
call2_low f (suc zero) is a b = omega arith
call2_low f (suc (suc zero)) is a b = omega arith
call2_low f (suc (suc (suc zero))) is a b = omega arith
call2_low f (suc (suc (suc (suc n)))) is a b = omega arith

call3_low : (f : Function) (n : ℕ) (is : arity f ≡ n) (a b c : Forms) → trees.primary_depth (call_of f n is (a ∷ b ∷ c ∷ [])) ≤ suc (max (trees.expr_depth a.expr) (max (trees.expr_depth b.expr) (trees.expr_depth c.expr)))
call3_low f zero is a b c = omega arith
call3_low f (suc zero) is a b c = omega arith
call3_low f (suc (suc zero)) is a b c = omega arith
call3_low f (suc (suc (suc zero))) is a b c = omega arith
call3_low f (suc (suc (suc (suc n)))) is a b c = omega arith

mutual
  pub expr_low : (d : ExprWay) → Low_expr d (forms (trees.expr_tree d))
  expr_low (g.plain o) = let l = or_low o in (l.0, omega (arith, l.0.expr_or, l.1))
  expr_low (g.choose c a b) =
      let w : ExprWay = g.choose (forms (trees.or_tree c)).or (forms (trees.or_tree a)).or (forms (trees.or_tree b)).or in
      subst (λ z. Low_expr (g.choose c a b) z) (sym (forms-Choose (trees.or_tree c) (trees.or_tree a) (trees.or_tree b)))
      (loose_expr w, omega (arith, (or_low c).1, (or_low a).1, (or_low b).1))

  pub or_low : (d : OrWay) → Low_or d (forms (trees.or_tree d))
  or_low (g.or a g.no_or_part) = let l = and_low a in (l.0, omega (arith, l.0.or_and, l.1))
  or_low (g.or a (g.or_part b more)) =
      let ys : List Expr = trees.or_parts_tree (g.or_part b more) in
      let w : OrWay = g.or (forms (trees.and_tree a)).and (or_parts_of (map forms ys)) in
      subst (λ z. Low_or (g.or a (g.or_part b more)) z) (sym (forms-Or (trees.and_tree a ∷ ys))) (loose_or w, omega (arith, (and_low a).1, or_parts_low (g.or_part b more)))

  pub or_parts_low : (d : OrParts) → trees.or_parts_depth (or_parts_of (map forms (trees.or_parts_tree d))) ≤ trees.or_parts_depth d
  or_parts_low g.no_or_part = omega arith
  or_parts_low (g.or_part a more) = omega (arith, (and_low a).1, or_parts_low more)

  pub and_low : (d : AndWay) → Low_and d (forms (trees.and_tree d))
  and_low (g.and a g.no_and_part) = let l = compare_low a in (l.0, omega (arith, l.0.and_compare, l.1))
  and_low (g.and a (g.and_part b more)) =
      let ys : List Expr = trees.and_parts_tree (g.and_part b more) in
      let w : AndWay = g.and (forms (trees.compare_tree a)).compare (and_parts_of (map forms ys)) in
      subst (λ z. Low_and (g.and a (g.and_part b more)) z) (sym (forms-And (trees.compare_tree a ∷ ys))) (loose_and w, omega (arith, (compare_low a).1, and_parts_low (g.and_part b more)))

  pub and_parts_low : (d : AndParts) → trees.and_parts_depth (and_parts_of (map forms (trees.and_parts_tree d))) ≤ trees.and_parts_depth d
  and_parts_low g.no_and_part = omega arith
  and_parts_low (g.and_part a more) = omega (arith, (compare_low a).1, and_parts_low more)

  pub compare_low : (d : CompareWay) → Low_compare d (forms (trees.compare_tree d))
  compare_low (g.single s) = let l = sum_low s in (l.0, omega (arith, l.0.compare_sum, l.1))
  compare_low (g.compare c s t) =
      let w : CompareWay = g.compare (as_compare (trees.compare_operator c)) (forms (trees.sum_tree s)).sum (forms (trees.sum_tree t)).sum in
      subst (λ z. Low_compare (g.compare c s t) z) (sym (forms-Compare (trees.compare_operator c) (trees.sum_tree s) (trees.sum_tree t))) (loose_compare w, omega (arith, (sum_low s).1, (sum_low t).1))

  pub sum_low : (d : SumWay) → Low_sum d (forms (trees.sum_tree d))
  sum_low (g.sum p g.no_summand) = let l = product_low p in (l.0, omega (arith, l.0.sum_product, l.1))
  sum_low (g.sum p (g.summand s q more)) =
      let os : List Operand = trees.summands_tree (g.summand s q more) in
      let w : SumWay = g.sum (forms (trees.product_tree p)).product (summands_of (map operand_forms os)) in
      subst (λ z. Low_sum (g.sum p (g.summand s q more)) z) (sym (forms-Sum (trees.product_tree p) os)) (loose_sum w, omega (arith, (product_low p).1, summands_low (g.summand s q more)))

  pub summands_low : (d : Summands) → trees.summands_depth (summands_of (map operand_forms (trees.summands_tree d))) ≤ trees.summands_depth d
  summands_low g.no_summand = omega arith
  summands_low (g.summand s p more) =
      let o : Operand = record { sign = trees.sum_operator s; expr = trees.product_tree p } in
      let n : ℕ = trees.summands_depth (summands_of (map operand_forms (trees.summands_tree more))) in
      subst (λ (z : Sign × Forms). max (trees.product_depth z.1.product) n ≤ trees.summands_depth (g.summand s p more)) (sym (operand_is o)) (omega (arith, (product_low p).1, summands_low more))

  pub product_low : (d : ProductWay) → Low_product d (forms (trees.product_tree d))
  product_low (g.product p g.no_factor) = let l = unary_low p in (l.0, omega (arith, l.0.product_unary, l.1))
  product_low (g.product p (g.factor s q more)) =
      let os : List Operand = trees.factors_tree (g.factor s q more) in
      let w : ProductWay = g.product (forms (trees.unary_tree p)).unary (factors_of (map operand_forms os)) in
      subst (λ z. Low_product (g.product p (g.factor s q more)) z) (sym (forms-Product (trees.unary_tree p) os)) (loose_product w, omega (arith, (unary_low p).1, factors_low (g.factor s q more)))

  pub factors_low : (d : Factors) → trees.factors_depth (factors_of (map operand_forms (trees.factors_tree d))) ≤ trees.factors_depth d
  factors_low g.no_factor = omega arith
  factors_low (g.factor s p more) =
      let o : Operand = record { sign = trees.product_operator s; expr = trees.unary_tree p } in
      let n : ℕ = trees.factors_depth (factors_of (map operand_forms (trees.factors_tree more))) in
      subst (λ (z : Sign × Forms). max (trees.unary_depth z.1.unary) n ≤ trees.factors_depth (g.factor s p more)) (sym (operand_is o)) (omega (arith, (unary_low p).1, factors_low more))

  pub unary_low : (d : UnaryWay) → Low_unary d (forms (trees.unary_tree d))
  unary_low (g.unsigned p) = let l = postfix_low p in (l.0, omega (arith, l.0.unary_postfix, l.1))
  unary_low (g.signed s p) =
      let w : UnaryWay = g.signed (as_unary (trees.unary_operator s)) (forms (trees.postfix_tree p)).postfix in
      subst (λ z. Low_unary (g.signed s p) z) (sym (forms-Unary (trees.unary_operator s) (trees.postfix_tree p))) (loose_unary w, omega (arith, (postfix_low p).1))

  pub postfix_low : (d : PostfixWay) → Low_postfix d (forms (trees.postfix_tree d))
  postfix_low (g.postfix p g.no_step) = let l = primary_low p in (l.0, omega (arith, l.0.postfix_primary, l.1))
  postfix_low (g.postfix p (g.field x more)) =
      let ss : List PathStep = trees.steps_tree (g.field x more) in
      let w : PostfixWay = g.postfix (forms (trees.primary_tree p)).primary (steps_of (map step_forms ss)) in
      subst (λ z. Low_postfix (g.postfix p (g.field x more)) z) (sym (forms-Path (trees.primary_tree p) ss)) (loose_postfix w, omega (arith, (primary_low p).1, steps_low (g.field x more)))
  postfix_low (g.postfix p (g.at x more)) =
      let ss : List PathStep = trees.steps_tree (g.at x more) in
      let w : PostfixWay = g.postfix (forms (trees.primary_tree p)).primary (steps_of (map step_forms ss)) in
      subst (λ z. Low_postfix (g.postfix p (g.at x more)) z) (sym (forms-Path (trees.primary_tree p) ss)) (loose_postfix w, omega (arith, (primary_low p).1, steps_low (g.at x more)))

  pub steps_low : (d : Steps) → trees.steps_depth (steps_of (map step_forms (trees.steps_tree d))) ≤ trees.steps_depth d
  steps_low g.no_step = omega arith
  steps_low (g.field x more) =
      let ms : Steps = steps_of (map step_forms (trees.steps_tree more)) in
      subst (λ (h : Steps → Steps). trees.steps_depth (h ms) ≤ trees.steps_depth (g.field x more)) (sym (step_forms-Field x)) (steps_low more)
  steps_low (g.at e more) =
      let ms : Steps = steps_of (map step_forms (trees.steps_tree more)) in
      subst (λ (h : Steps → Steps). trees.steps_depth (h ms) ≤ trees.steps_depth (g.at e more)) (sym (step_forms-At (trees.expr_tree e))) (omega (arith, (expr_low e).1, steps_low more))

  pub primary_low : (d : PrimaryWay) → Low_primary d (forms (trees.primary_tree d))
  primary_low (g.number n) = subst (λ z. Low_primary (g.number n) z) (sym (forms-Int n)) (loose_primary (g.number n), omega arith)
  primary_low (g.quoted x) = subst (λ z. Low_primary (g.quoted x) z) (sym (forms-Quoted x)) (loose_primary (g.quoted x), omega arith)
  primary_low g.true_word = subst (λ z. Low_primary g.true_word z) (sym (forms-Bool true)) (loose_primary g.true_word, omega arith)
  primary_low g.false_word = subst (λ z. Low_primary g.false_word z) (sym (forms-Bool false)) (loose_primary g.false_word, omega arith)
  primary_low g.null_word = subst (λ z. Low_primary g.null_word z) (sym (forms-Null)) (loose_primary g.null_word, omega arith)
  primary_low (g.name x) = subst (λ z. Low_primary (g.name x) z) (sym (forms-Name x)) (loose_primary (g.name x), omega arith)
  primary_low (g.call1 f is a) =
      let es : List Expr = trees.expr_tree a ∷ [] in
      subst (λ z. Low_primary (g.call1 f is a) z) (sym (forms-Call f es))
      (loose_primary (call_of f (arity f) refl (map forms es)), omega (arith, call1_low f (arity f) refl (forms (trees.expr_tree a)), (expr_low a).1))
  primary_low (g.call2 f is a b) =
      let es : List Expr = trees.expr_tree a ∷ trees.expr_tree b ∷ [] in
      subst (λ z. Low_primary (g.call2 f is a b) z) (sym (forms-Call f es))
      (loose_primary (call_of f (arity f) refl (map forms es)), omega (arith, call2_low f (arity f) refl (forms (trees.expr_tree a)) (forms (trees.expr_tree b)), (expr_low a).1, (expr_low b).1))
  primary_low (g.call3 f is a b c) =
      let es : List Expr = trees.expr_tree a ∷ trees.expr_tree b ∷ trees.expr_tree c ∷ [] in
      subst (λ z. Low_primary (g.call3 f is a b c) z) (sym (forms-Call f es))
      (loose_primary (call_of f (arity f) refl (map forms es)), omega (arith, call3_low f (arity f) refl (forms (trees.expr_tree a)) (forms (trees.expr_tree b)) (forms (trees.expr_tree c)), (expr_low a).1, (expr_low b).1, (expr_low c).1))
  primary_low (g.fetch e) =
      subst (λ z. Low_primary (g.fetch e) z) (sym (forms-Fetch (trees.expr_tree e))) (loose_primary (g.fetch (forms (trees.expr_tree e)).expr), omega (arith, (expr_low e).1))
  primary_low (g.round e) = let l = expr_low e in (l.0, omega (arith, l.0.primary_expr, l.1))
  primary_low g.no_items = subst (λ z. Low_primary g.no_items z) (sym (forms-List [])) (loose_primary g.no_items, omega arith)
  primary_low (g.items e more) =
      let es : List Expr = trees.expr_tree e ∷ trees.items_tree more in
      subst (λ z. Low_primary (g.items e more) z) (sym (forms-List es)) (loose_primary (list_of (map forms es)), omega (arith, (expr_low e).1, items_low more))
  primary_low g.no_pairs = subst (λ z. Low_primary g.no_pairs z) (sym (forms-Rec [])) (loose_primary g.no_pairs, omega arith)
  primary_low (g.pairs p more) =
      let ms : List Member = trees.pair_tree p ∷ trees.pairs_tree more in
      subst (λ z. Low_primary (g.pairs p more) z) (sym (forms-Rec ms)) (loose_primary (record_of (map member_forms ms)), omega (arith, pair_low p, pairs_low more))

  pub items_low : (d : Items) → trees.items_depth (items_of (map forms (trees.items_tree d))) ≤ trees.items_depth d
  items_low g.no_item = omega arith
  items_low (g.item e more) = omega (arith, (expr_low e).1, items_low more)

  pub pairs_low : (d : Pairs) → trees.pairs_depth (pairs_of (map member_forms (trees.pairs_tree d))) ≤ trees.pairs_depth d
  pairs_low g.no_pair = omega arith
  pairs_low (g.next_pair p more) = omega (arith, pair_low p, pairs_low more)

  pub pair_low : (d : PairWay) → trees.expr_depth (member_forms (trees.pair_tree d)).1.expr ≤ trees.pair_depth d
  pair_low (g.pair k e) =
      subst (λ (z : List ℕ × Forms). trees.expr_depth z.1.expr ≤ trees.expr_depth e) (sym (member_is (trees.pair_tree (g.pair k e)))) (expr_low e).1

mutual
  pub block_low : (d : BlockWay) → trees.block_depth (block_form (trees.block_tree d)) ≤ trees.block_depth d
  block_low (g.block more) = subst (λ z. trees.block_depth z ≤ trees.block_depth (g.block more)) (sym (block_is (trees.block_tree (g.block more)))) (omega (arith, stmts_low more))

  pub stmts_low : (d : Stmts) → trees.stmts_depth (stmts_of (map stmt_form (trees.stmts_tree d))) ≤ trees.stmts_depth d
  stmts_low g.no_stmt = omega arith
  stmts_low (g.next_stmt s more) = omega (arith, stmt_low s, stmts_low more)

  pub stmt_low : (d : StmtWay) → trees.stmt_depth (stmt_form (trees.stmt_tree d)) ≤ trees.stmt_depth d
  stmt_low (g.let_stmt x e) = subst (λ z. trees.stmt_depth z ≤ trees.expr_depth e) (sym (stmt_form-Let x (trees.expr_tree e))) (expr_low e).1
  stmt_low (g.assign_stmt x e) = subst (λ z. trees.stmt_depth z ≤ trees.expr_depth e) (sym (stmt_form-Assign x (trees.expr_tree e))) (expr_low e).1
  stmt_low (g.if_stmt e b more other) =
      let a : Arm = record { test = trees.expr_tree e; body = trees.block_tree b } in
      let arms : List Arm = trees.else_ifs_tree more in
      let o : Option Block = trees.else_tree other in
      let n : ℕ = trees.stmt_depth (g.if_stmt e b more other) in
      subst (λ z. trees.stmt_depth z ≤ n) (sym (stmt_form-If (a ∷ arms) o))
      (subst (λ (z : ExprWay × BlockWay). trees.stmt_depth (g.if_stmt z.0 z.1 (else_ifs_of (map arm_form arms)) (else_of (other_form o))) ≤ n) (sym (arm_is a))
      (omega (arith, (expr_low e).1, block_low b, else_ifs_low more, else_low other)))
  stmt_low (g.while_stmt e b) =
      subst (λ z. trees.stmt_depth z ≤ trees.stmt_depth (g.while_stmt e b)) (sym (stmt_form-While (trees.expr_tree e) (trees.block_tree b))) (omega (arith, (expr_low e).1, block_low b))
  stmt_low (g.for_stmt x e b) =
      subst (λ z. trees.stmt_depth z ≤ trees.stmt_depth (g.for_stmt x e b)) (sym (stmt_form-For x (trees.expr_tree e) (trees.block_tree b))) (omega (arith, (expr_low e).1, block_low b))
  stmt_low (g.yield_stmt e) = subst (λ z. trees.stmt_depth z ≤ trees.expr_depth e) (sym (stmt_form-Yield (trees.expr_tree e))) (expr_low e).1
  stmt_low (g.return_stmt e) = subst (λ z. trees.stmt_depth z ≤ trees.expr_depth e) (sym (stmt_form-Return (trees.expr_tree e))) (expr_low e).1
  stmt_low (g.throw_stmt e) = subst (λ z. trees.stmt_depth z ≤ trees.expr_depth e) (sym (stmt_form-Throw (trees.expr_tree e))) (expr_low e).1
  stmt_low (g.cleanup_stmt e) = subst (λ z. trees.stmt_depth z ≤ trees.expr_depth e) (sym (stmt_form-Cleanup (trees.expr_tree e))) (expr_low e).1

  pub else_ifs_low : (d : ElseIfs) → trees.else_ifs_depth (else_ifs_of (map arm_form (trees.else_ifs_tree d))) ≤ trees.else_ifs_depth d
  else_ifs_low g.no_else_if = omega arith
  else_ifs_low (g.else_if e b more) =
      let a : Arm = record { test = trees.expr_tree e; body = trees.block_tree b } in
      let ms : ElseIfs = else_ifs_of (map arm_form (trees.else_ifs_tree more)) in
      subst (λ (z : ExprWay × BlockWay). trees.else_ifs_depth (g.else_if z.0 z.1 ms) ≤ trees.else_ifs_depth (g.else_if e b more)) (sym (arm_is a))
      (omega (arith, (expr_low e).1, block_low b, else_ifs_low more))

  pub else_low : (d : ElseWay) → trees.else_depth (else_of (other_form (trees.else_tree d))) ≤ trees.else_depth d
  else_low g.no_else = omega arith
  else_low (g.else_block b) = block_low b

body_low : (d : BodyWay) → trees.body_depth (body_form (trees.body_tree d)) ≤ trees.body_depth d
body_low (g.expr_body e) = (expr_low e).1
body_low (g.block_body s more) =
    let b : Block = record { stmts = trees.stmts_tree (g.next_stmt s more) } in
    subst (λ z. trees.body_depth (f.block_body_of z) ≤ trees.body_depth (g.block_body s more)) (sym (block_is b)) (omega (arith, stmts_low (g.next_stmt s more)))

-- The form of a cell that is spelled has no more brackets open.
pub cell_low : (d : CellWay) → trees.cell_depth (cell_form (trees.cell_tree d)) ≤ trees.cell_depth d
cell_low (g.unnamed b) = body_low b
cell_low (g.named x b) = body_low b
