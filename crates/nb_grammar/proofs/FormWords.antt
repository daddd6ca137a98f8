-- What holds of each word that spells a cell holds of those of its form.
use Rattle.std.proofs.Common.{◌≡◌, ℕ, zero, suc, true, false, refl, sym, subst, List, [], ◌∷◌, map, Option, arith}
use Rattle.nb_value.specs.Function.{arity}
use Rattle.nb_value.specs.declared.function.Function.{Function}
use Rattle.nb_lexer.specs.declared.word.Word.{Word}
use Rattle.nb_lexer.specs.declared.word.Word.TheVariants as word
use Rattle.nb_syntax.specs.declared.tree.Sign.{Sign}
use Rattle.nb_syntax.specs.declared.tree.Expr.{Expr}
use Rattle.nb_syntax.specs.declared.tree.PathStep.{PathStep}
use Rattle.nb_syntax.specs.declared.tree.Operand.{Operand}
use Rattle.nb_syntax.specs.declared.tree.Member.{Member}
use Rattle.nb_syntax.specs.declared.tree.Block.{Block}
use Rattle.nb_syntax.specs.declared.tree.Arm.{Arm}
use Rattle.nb_grammar.specs.Grammar as g
use Rattle.nb_grammar.specs.Trees as trees
use Rattle.nb_grammar.specs.Grammar.{ExprWay, OrWay, OrParts, AndWay, AndParts, CompareWay, SumWay, Summands, ProductWay, Factors, UnaryWay, PostfixWay, Steps, PrimaryWay, Items, Pairs, PairWay, KeyWay, BlockWay, Stmts, StmtWay, ElseIfs, ElseWay, BodyWay, CellWay}
use Rattle.nb_grammar.specs.Forms as f
use Rattle.nb_grammar.specs.Forms.{Forms, of_primary, of_expr, of_or, of_and, of_compare, of_sum, of_product, of_unary, of_postfix, as_compare, as_sum, as_product, as_unary, or_parts_of, and_parts_of, summands_of, factors_of, steps_of, items_of, pairs_of, list_of, record_of, call_of, forms, step_forms, member_forms, operand_forms, stmts_of, else_ifs_of, else_of, stmt_form, arm_form, block_form, body_form, cell_form}
use Rattle.nb_grammar.proofs.EachWord.{expr_each, or_each, or_parts_each, and_each, and_parts_each, compare_each, sum_each, summands_each, product_each, factors_each, unary_each, postfix_each, steps_each, primary_each, items_each, pairs_each, pair_each, block_each, stmts_each, stmt_each, else_ifs_each, else_each, body_each, cell_each}
use Rattle.nb_grammar.proofs.FormLaws.{forms-Int, forms-Quoted, forms-Bool, forms-Name, forms-List, forms-Rec, forms-Call, forms-Fetch, forms-Path, forms-Unary, forms-Product, forms-Sum, forms-Compare, forms-And, forms-Or, forms-Choose, forms-Null, step_forms-Field, step_forms-At, member_is, operand_is, stmt_form-Let, stmt_form-Assign, stmt_form-While, stmt_form-For, stmt_form-Yield, stmt_form-Return, stmt_form-Throw, stmt_form-Cleanup, other_form, stmt_form-If, arm_is, block_is}
use Rattle.nb_grammar.proofs.FormExpr.{as_compare_again, as_sum_again, as_product_again, as_unary_again}

-- What holds of the round brackets, and of a quoted text where it holds of the name.
pub record Keeps (P : Word → Type 0) : Type 0 where
  pub opening : P word.OpenRound
  pub closing : P word.CloseRound
  pub key : (x : List ℕ) → P (word.Name x) → P (word.Quoted x)

-- It holds of each word of the forms.
pub record Holds (P : Word → Type 0) (f : Forms) : Type 0 where
  pub expr : expr_each P f.expr
  pub or : or_each P f.or
  pub and : and_each P f.and
  pub compare : compare_each P f.compare
  pub sum : sum_each P f.sum
  pub product : product_each P f.product
  pub unary : unary_each P f.unary
  pub postfix : postfix_each P f.postfix
  pub primary : primary_each P f.primary

holds_primary : (P : Word → Type 0) (p : PrimaryWay) → primary_each P p → Holds P (of_primary p)
holds_primary P p h = record { expr = (((((h, tt), tt), tt), tt), tt); or = (((((h, tt), tt), tt), tt), tt); and = ((((h, tt), tt), tt), tt); compare = (((h, tt), tt), tt); sum = (((h, tt), tt), tt); product = ((h, tt), tt); unary = (h, tt); postfix = (h, tt); primary = h }

holds_expr : (P : Word → Type 0) → Keeps P → (e : ExprWay) → expr_each P e → Holds P (of_expr e)
holds_expr P k e h = let f : Holds P (of_primary (g.round e)) = holds_primary P (g.round e) (k.opening, h, k.closing) in
    record { expr = h; or = f.or; and = f.and; compare = f.compare; sum = f.sum; product = f.product; unary = f.unary; postfix = f.postfix; primary = f.primary }

holds_or : (P : Word → Type 0) → Keeps P → (d : OrWay) → or_each P d → Holds P (of_or d)
holds_or P k d h = let f : Holds P (of_expr (g.plain d)) = holds_expr P k (g.plain d) h in
    record { or = h; expr = f.expr; and = f.and; compare = f.compare; sum = f.sum; product = f.product; unary = f.unary; postfix = f.postfix; primary = f.primary }

holds_and : (P : Word → Type 0) → Keeps P → (d : AndWay) → and_each P d → Holds P (of_and d)
holds_and P k d h = let f : Holds P (of_or (g.or d g.no_or_part)) = holds_or P k (g.or d g.no_or_part) (h, tt) in
    record { and = h; expr = f.expr; or = f.or; compare = f.compare; sum = f.sum; product = f.product; unary = f.unary; postfix = f.postfix; primary = f.primary }

holds_compare : (P : Word → Type 0) → Keeps P → (d : CompareWay) → compare_each P d → Holds P (of_compare d)
holds_compare P k d h = let f : Holds P (of_and (g.and d g.no_and_part)) = holds_and P k (g.and d g.no_and_part) (h, tt) in
    record { compare = h; expr = f.expr; or = f.or; and = f.and; sum = f.sum; product = f.product; unary = f.unary; postfix = f.postfix; primary = f.primary }

holds_sum : (P : Word → Type 0) → Keeps P → (d : SumWay) → sum_each P d → Holds P (of_sum d)
holds_sum P k d h = let f : Holds P (of_compare (g.single d)) = holds_compare P k (g.single d) h in
    record { sum = h; expr = f.expr; or = f.or; and = f.and; compare = f.compare; product = f.product; unary = f.unary; postfix = f.postfix; primary = f.primary }

holds_product : (P : Word → Type 0) → Keeps P → (d : ProductWay) → product_each P d → Holds P (of_product d)
holds_product P k d h = let f : Holds P (of_sum (g.sum d g.no_summand)) = holds_sum P k (g.sum d g.no_summand) (h, tt) in
    record { product = h; expr = f.expr; or = f.or; and = f.and; compare = f.compare; sum = f.sum; unary = f.unary; postfix = f.postfix; primary = f.primary }

holds_unary : (P : Word → Type 0) → Keeps P → (d : UnaryWay) → unary_each P d → Holds P (of_unary d)
holds_unary P k d h = let f : Holds P (of_product (g.product d g.no_factor)) = holds_product P k (g.product d g.no_factor) (h, tt) in
    record { unary = h; expr = f.expr; or = f.or; and = f.and; compare = f.compare; sum = f.sum; product = f.product; postfix = f.postfix; primary = f.primary }

holds_postfix : (P : Word → Type 0) → Keeps P → (d : PostfixWay) → postfix_each P d → Holds P (of_postfix d)
holds_postfix P k d h = let f : Holds P (of_unary (g.unsigned d)) = holds_unary P k (g.unsigned d) h in
    record { postfix = h; expr = f.expr; or = f.or; and = f.and; compare = f.compare; sum = f.sum; product = f.product; unary = f.unary; primary = f.primary }

key_kept : (P : Word → Type 0) → Keeps P → (k : KeyWay) → P (g.key_word k) → P (word.Quoted (trees.key_text k))
key_kept P k (g.name_key x) h = k.key x h
key_kept P k (g.quoted_key x) h = h

call1_kept : (P : Word → Type 0) (f : Function) (n : ℕ) (is : arity f ≡ n) (one : arity f ≡ 1) (a : Forms) → primary_each P (g.call1 f one a.expr) → primary_each P (call_of f n is (a ∷ []))
call1_kept P f zero is one a h = absurd (omega (arith, is, one))
call1_kept P f (suc zero) is one a h = h
call1_kept P f (suc (suc zero)) is one a h = absurd (omega (arith, is, one))
call1_kept P f (suc (suc (suc zero))) is one a h = absurd (omega (arith, is, one))
call1_kept P f (suc (suc (suc (suc n)))) is one a h = absurd (omega (arith, is, one))

call2_kept : (P : Word → Type 0) (f : Function) (n : ℕ) (is : arity f ≡ n) (one : arity f ≡ 2) (a b : Forms) → primary_each P (g.call2 f one a.expr b.expr) → primary_each P (call_of f n is (a ∷ b ∷ []))
call2_kept P f zero is one a b h = absurd (omega (arith, is, one))
call2_kept P f (suc zero) is one a b h = absurd (omega (arith, is, one))
call2_kept P f (suc (suc zero)) is one a b h = h
call2_kept P f (suc (suc (suc zero))) is one a b h = absurd (omega (arith, is, one))
call2_kept P f (suc (suc (suc (suc n)))) is one a b h = absurd (omega (arith, is, one))

call3_kept : (P : Word → Type 0) (f : Function) (n : ℕ) (is : arity f ≡ n) (one : arity f ≡ 3) (a b c : Forms) → primary_each P (g.call3 f one a.expr b.expr c.expr) → primary_each P (call_of f n is (a ∷ b ∷ c ∷ []))
call3_kept P f zero is one a b c h = absurd (omega (arith, is, one))
call3_kept P f (suc zero) is one a b c h = absurd (omega (arith, is, one))
call3_kept P f (suc (suc zero)) is one a b c h = absurd (omega (arith, is, one))
call3_kept P f (suc (suc (suc zero))) is one a b c h = h
call3_kept P f (suc (suc (suc (suc n)))) is one a b c h = absurd (omega (arith, is, one))

mutual
  pub expr_kept : (P : Word → Type 0) → Keeps P → (d : ExprWay) → expr_each P d → Holds P (forms (trees.expr_tree d))
  expr_kept P k (g.plain o) h = or_kept P k o h
  expr_kept P k (g.choose c a b) h =
      let w : ExprWay = g.choose (forms (trees.or_tree c)).or (forms (trees.or_tree a)).or (forms (trees.or_tree b)).or in
      subst (λ z. Holds P z) (sym (forms-Choose (trees.or_tree c) (trees.or_tree a) (trees.or_tree b)))
      (holds_expr P k w ((or_kept P k c h.0).or, h.1, (or_kept P k a h.2).or, h.3, (or_kept P k b h.4).or))

  pub or_kept : (P : Word → Type 0) → Keeps P → (d : OrWay) → or_each P d → Holds P (forms (trees.or_tree d))
  or_kept P k (g.or a g.no_or_part) h = and_kept P k a h.0
  or_kept P k (g.or a (g.or_part b more)) h =
      let ys : List Expr = trees.or_parts_tree (g.or_part b more) in
      let w : OrWay = g.or (forms (trees.and_tree a)).and (or_parts_of (map forms ys)) in
      subst (λ z. Holds P z) (sym (forms-Or (trees.and_tree a ∷ ys))) (holds_or P k w ((and_kept P k a h.0).and, or_parts_kept P k (g.or_part b more) h.1))

  pub or_parts_kept : (P : Word → Type 0) → Keeps P → (d : OrParts) → or_parts_each P d → or_parts_each P (or_parts_of (map forms (trees.or_parts_tree d)))
  or_parts_kept P k g.no_or_part h = tt
  or_parts_kept P k (g.or_part a more) h = (h.0, (and_kept P k a h.1).and, or_parts_kept P k more h.2)

  pub and_kept : (P : Word → Type 0) → Keeps P → (d : AndWay) → and_each P d → Holds P (forms (trees.and_tree d))
  and_kept P k (g.and a g.no_and_part) h = compare_kept P k a h.0
  and_kept P k (g.and a (g.and_part b more)) h =
      let ys : List Expr = trees.and_parts_tree (g.and_part b more) in
      let w : AndWay = g.and (forms (trees.compare_tree a)).compare (and_parts_of (map forms ys)) in
      subst (λ z. Holds P z) (sym (forms-And (trees.compare_tree a ∷ ys))) (holds_and P k w ((compare_kept P k a h.0).compare, and_parts_kept P k (g.and_part b more) h.1))

  pub and_parts_kept : (P : Word → Type 0) → Keeps P → (d : AndParts) → and_parts_each P d → and_parts_each P (and_parts_of (map forms (trees.and_parts_tree d)))
  and_parts_kept P k g.no_and_part h = tt
  and_parts_kept P k (g.and_part a more) h = (h.0, (compare_kept P k a h.1).compare, and_parts_kept P k more h.2)

  pub compare_kept : (P : Word → Type 0) → Keeps P → (d : CompareWay) → compare_each P d → Holds P (forms (trees.compare_tree d))
  compare_kept P k (g.single s) h = sum_kept P k s h
  compare_kept P k (g.compare c s t) h =
      let w : CompareWay = g.compare (as_compare (trees.compare_operator c)) (forms (trees.sum_tree s)).sum (forms (trees.sum_tree t)).sum in
      subst (λ z. Holds P z) (sym (forms-Compare (trees.compare_operator c) (trees.sum_tree s) (trees.sum_tree t)))
      (holds_compare P k w ((sum_kept P k s h.0).sum, subst (λ z. P (g.compare_word z)) (sym (as_compare_again c)) h.1, (sum_kept P k t h.2).sum))

  pub sum_kept : (P : Word → Type 0) → Keeps P → (d : SumWay) → sum_each P d → Holds P (forms (trees.sum_tree d))
  sum_kept P k (g.sum p g.no_summand) h = product_kept P k p h.0
  sum_kept P k (g.sum p (g.summand s q more)) h =
      let os : List Operand = trees.summands_tree (g.summand s q more) in
      let w : SumWay = g.sum (forms (trees.product_tree p)).product (summands_of (map operand_forms os)) in
      subst (λ z. Holds P z) (sym (forms-Sum (trees.product_tree p) os)) (holds_sum P k w ((product_kept P k p h.0).product, summands_kept P k (g.summand s q more) h.1))

  pub summands_kept : (P : Word → Type 0) → Keeps P → (d : Summands) → summands_each P d → summands_each P (summands_of (map operand_forms (trees.summands_tree d)))
  summands_kept P k g.no_summand h = tt
  summands_kept P k (g.summand s p more) h =
      let o : Operand = record { sign = trees.sum_operator s; expr = trees.product_tree p } in
      let ms : Summands = summands_of (map operand_forms (trees.summands_tree more)) in
      subst (λ (z : Sign × Forms). summands_each P (g.summand (as_sum z.0) z.1.product ms)) (sym (operand_is o))
      (subst (λ z. P (g.sum_word z)) (sym (as_sum_again s)) h.0, (product_kept P k p h.1).product, summands_kept P k more h.2)

  pub product_kept : (P : Word → Type 0) → Keeps P → (d : ProductWay) → product_each P d → Holds P (forms (trees.product_tree d))
  product_kept P k (g.product p g.no_factor) h = unary_kept P k p h.0
  product_kept P k (g.product p (g.factor s q more)) h =
      let os : List Operand = trees.factors_tree (g.factor s q more) in
      let w : ProductWay = g.product (forms (trees.unary_tree p)).unary (factors_of (map operand_forms os)) in
      subst (λ z. Holds P z) (sym (forms-Product (trees.unary_tree p) os)) (holds_product P k w ((unary_kept P k p h.0).unary, factors_kept P k (g.factor s q more) h.1))

  pub factors_kept : (P : Word → Type 0) → Keeps P → (d : Factors) → factors_each P d → factors_each P (factors_of (map operand_forms (trees.factors_tree d)))
  factors_kept P k g.no_factor h = tt
  factors_kept P k (g.factor s p more) h =
      let o : Operand = record { sign = trees.product_operator s; expr = trees.unary_tree p } in
      let ms : Factors = factors_of (map operand_forms (trees.factors_tree more)) in
      subst (λ (z : Sign × Forms). factors_each P (g.factor (as_product z.0) z.1.unary ms)) (sym (operand_is o))
      (subst (λ z. P (g.product_word z)) (sym (as_product_again s)) h.0, (unary_kept P k p h.1).unary, factors_kept P k more h.2)

  pub unary_kept : (P : Word → Type 0) → Keeps P → (d : UnaryWay) → unary_each P d → Holds P (forms (trees.unary_tree d))
  unary_kept P k (g.unsigned p) h = postfix_kept P k p h
  unary_kept P k (g.signed s p) h =
      let w : UnaryWay = g.signed (as_unary (trees.unary_operator s)) (forms (trees.postfix_tree p)).postfix in
      subst (λ z. Holds P z) (sym (forms-Unary (trees.unary_operator s) (trees.postfix_tree p)))
      (holds_unary P k w (subst (λ z. P (g.unary_word z)) (sym (as_unary_again s)) h.0, (postfix_kept P k p h.1).postfix))

  pub postfix_kept : (P : Word → Type 0) → Keeps P → (d : PostfixWay) → postfix_each P d → Holds P (forms (trees.postfix_tree d))
  postfix_kept P k (g.postfix p g.no_step) h = primary_kept P k p h.0
  postfix_kept P k (g.postfix p (g.field x more)) h =
      let ss : List PathStep = trees.steps_tree (g.field x more) in
      let w : PostfixWay = g.postfix (forms (trees.primary_tree p)).primary (steps_of (map step_forms ss)) in
      subst (λ z. Holds P z) (sym (forms-Path (trees.primary_tree p) ss)) (holds_postfix P k w ((primary_kept P k p h.0).primary, steps_kept P k (g.field x more) h.1))
  postfix_kept P k (g.postfix p (g.at x more)) h =
      let ss : List PathStep = trees.steps_tree (g.at x more) in
      let w : PostfixWay = g.postfix (forms (trees.primary_tree p)).primary (steps_of (map step_forms ss)) in
      subst (λ z. Holds P z) (sym (forms-Path (trees.primary_tree p) ss)) (holds_postfix P k w ((primary_kept P k p h.0).primary, steps_kept P k (g.at x more) h.1))

  pub steps_kept : (P : Word → Type 0) → Keeps P → (d : Steps) → steps_each P d → steps_each P (steps_of (map step_forms (trees.steps_tree d)))
  steps_kept P k g.no_step h = tt
  steps_kept P k (g.field x more) h =
      let ms : Steps = steps_of (map step_forms (trees.steps_tree more)) in
      subst (λ (z : Steps → Steps). steps_each P (z ms)) (sym (step_forms-Field x)) (h.0, h.1, steps_kept P k more h.2)
  steps_kept P k (g.at e more) h =
      let ms : Steps = steps_of (map step_forms (trees.steps_tree more)) in
      subst (λ (z : Steps → Steps). steps_each P (z ms)) (sym (step_forms-At (trees.expr_tree e))) (h.0, (expr_kept P k e h.1).expr, h.2, steps_kept P k more h.3)

  pub primary_kept : (P : Word → Type 0) → Keeps P → (d : PrimaryWay) → primary_each P d → Holds P (forms (trees.primary_tree d))
  primary_kept P k (g.number n) h = subst (λ z. Holds P z) (sym (forms-Int n)) (holds_primary P (g.number n) h)
  primary_kept P k (g.quoted x) h = subst (λ z. Holds P z) (sym (forms-Quoted x)) (holds_primary P (g.quoted x) h)
  primary_kept P k g.true_word h = subst (λ z. Holds P z) (sym (forms-Bool true)) (holds_primary P g.true_word h)
  primary_kept P k g.false_word h = subst (λ z. Holds P z) (sym (forms-Bool false)) (holds_primary P g.false_word h)
  primary_kept P k g.null_word h = subst (λ z. Holds P z) (sym (forms-Null)) (holds_primary P g.null_word h)
  primary_kept P k (g.name x) h = subst (λ z. Holds P z) (sym (forms-Name x)) (holds_primary P (g.name x) h)
  primary_kept P k (g.call1 f is a) h =
      let es : List Expr = trees.expr_tree a ∷ [] in
      subst (λ z. Holds P z) (sym (forms-Call f es))
      (holds_primary P (call_of f (arity f) refl (map forms es)) (call1_kept P f (arity f) refl is (forms (trees.expr_tree a)) (h.0, h.1, (expr_kept P k a h.2).expr, h.3)))
  primary_kept P k (g.call2 f is a b) h =
      let es : List Expr = trees.expr_tree a ∷ trees.expr_tree b ∷ [] in
      subst (λ z. Holds P z) (sym (forms-Call f es))
      (holds_primary P (call_of f (arity f) refl (map forms es)) (call2_kept P f (arity f) refl is (forms (trees.expr_tree a)) (forms (trees.expr_tree b)) (h.0, h.1, (expr_kept P k a h.2).expr, h.3, (expr_kept P k b h.4).expr, h.5)))
  primary_kept P k (g.call3 f is a b c) h =
      let es : List Expr = trees.expr_tree a ∷ trees.expr_tree b ∷ trees.expr_tree c ∷ [] in
      subst (λ z. Holds P z) (sym (forms-Call f es))
      (holds_primary P (call_of f (arity f) refl (map forms es)) (call3_kept P f (arity f) refl is (forms (trees.expr_tree a)) (forms (trees.expr_tree b)) (forms (trees.expr_tree c)) (h.0, h.1, (expr_kept P k a h.2).expr, h.3, (expr_kept P k b h.4).expr, h.5, (expr_kept P k c h.6).expr, h.7)))
  primary_kept P k (g.fetch e) h =
      subst (λ z. Holds P z) (sym (forms-Fetch (trees.expr_tree e))) (holds_primary P (g.fetch (forms (trees.expr_tree e)).expr) (h.0, h.1, (expr_kept P k e h.2).expr, h.3))
  primary_kept P k (g.round e) h = expr_kept P k e h.1
  primary_kept P k g.no_items h = subst (λ z. Holds P z) (sym (forms-List [])) (holds_primary P g.no_items h)
  primary_kept P k (g.items e more) h =
      let es : List Expr = trees.expr_tree e ∷ trees.items_tree more in
      subst (λ z. Holds P z) (sym (forms-List es)) (holds_primary P (list_of (map forms es)) (h.0, (expr_kept P k e h.1).expr, items_kept P k more h.2, h.3))
  primary_kept P k g.no_pairs h = subst (λ z. Holds P z) (sym (forms-Rec [])) (holds_primary P g.no_pairs h)
  primary_kept P k (g.pairs p more) h =
      let ms : List Member = trees.pair_tree p ∷ trees.pairs_tree more in
      subst (λ z. Holds P z) (sym (forms-Rec ms)) (holds_primary P (record_of (map member_forms ms)) (h.0, pair_kept P k p h.1, pairs_kept P k more h.2, h.3))

  pub items_kept : (P : Word → Type 0) → Keeps P → (d : Items) → items_each P d → items_each P (items_of (map forms (trees.items_tree d)))
  items_kept P k g.no_item h = tt
  items_kept P k (g.item e more) h = (h.0, (expr_kept P k e h.1).expr, items_kept P k more h.2)

  pub pairs_kept : (P : Word → Type 0) → Keeps P → (d : Pairs) → pairs_each P d → pairs_each P (pairs_of (map member_forms (trees.pairs_tree d)))
  pairs_kept P k g.no_pair h = tt
  pairs_kept P k (g.next_pair p more) h = (h.0, pair_kept P k p h.1, pairs_kept P k more h.2)

  pub pair_kept : (P : Word → Type 0) → Keeps P → (d : PairWay) → pair_each P d
      → pair_each P (g.pair (g.quoted_key (member_forms (trees.pair_tree d)).0) (member_forms (trees.pair_tree d)).1.expr)
  pair_kept P k (g.pair key e) h =
      subst (λ (z : List ℕ × Forms). pair_each P (g.pair (g.quoted_key z.0) z.1.expr)) (sym (member_is (trees.pair_tree (g.pair key e))))
      (key_kept P k key h.0, h.1, (expr_kept P k e h.2).expr)

mutual
  pub block_kept : (P : Word → Type 0) → Keeps P → (d : BlockWay) → block_each P d → block_each P (block_form (trees.block_tree d))
  block_kept P k (g.block more) h = subst (λ z. block_each P z) (sym (block_is (trees.block_tree (g.block more)))) (h.0, stmts_kept P k more h.1, h.2)

  pub stmts_kept : (P : Word → Type 0) → Keeps P → (d : Stmts) → stmts_each P d → stmts_each P (stmts_of (map stmt_form (trees.stmts_tree d)))
  stmts_kept P k g.no_stmt h = tt
  stmts_kept P k (g.next_stmt s more) h = (stmt_kept P k s h.0, stmts_kept P k more h.1)

  pub stmt_kept : (P : Word → Type 0) → Keeps P → (d : StmtWay) → stmt_each P d → stmt_each P (stmt_form (trees.stmt_tree d))
  stmt_kept P k (g.let_stmt x e) h = subst (λ z. stmt_each P z) (sym (stmt_form-Let x (trees.expr_tree e))) (h.0, h.1, h.2, (expr_kept P k e h.3).expr, h.4)
  stmt_kept P k (g.assign_stmt x e) h = subst (λ z. stmt_each P z) (sym (stmt_form-Assign x (trees.expr_tree e))) (h.0, h.1, (expr_kept P k e h.2).expr, h.3)
  stmt_kept P k (g.if_stmt e b more other) h =
      let a : Arm = record { test = trees.expr_tree e; body = trees.block_tree b } in
      let arms : List Arm = trees.else_ifs_tree more in
      let o : Option Block = trees.else_tree other in
      subst (λ z. stmt_each P z) (sym (stmt_form-If (a ∷ arms) o))
      (subst (λ (z : ExprWay × BlockWay). stmt_each P (g.if_stmt z.0 z.1 (else_ifs_of (map arm_form arms)) (else_of (other_form o)))) (sym (arm_is a))
      (h.0, h.1, (expr_kept P k e h.2).expr, h.3, block_kept P k b h.4, else_ifs_kept P k more h.5, else_kept P k other h.6))
  stmt_kept P k (g.while_stmt e b) h =
      subst (λ z. stmt_each P z) (sym (stmt_form-While (trees.expr_tree e) (trees.block_tree b))) (h.0, h.1, (expr_kept P k e h.2).expr, h.3, block_kept P k b h.4)
  stmt_kept P k (g.for_stmt x e b) h =
      subst (λ z. stmt_each P z) (sym (stmt_form-For x (trees.expr_tree e) (trees.block_tree b))) (h.0, h.1, h.2, h.3, h.4, (expr_kept P k e h.5).expr, h.6, block_kept P k b h.7)
  stmt_kept P k (g.yield_stmt e) h = subst (λ z. stmt_each P z) (sym (stmt_form-Yield (trees.expr_tree e))) (h.0, (expr_kept P k e h.1).expr, h.2)
  stmt_kept P k (g.return_stmt e) h = subst (λ z. stmt_each P z) (sym (stmt_form-Return (trees.expr_tree e))) (h.0, (expr_kept P k e h.1).expr, h.2)
  stmt_kept P k (g.throw_stmt e) h = subst (λ z. stmt_each P z) (sym (stmt_form-Throw (trees.expr_tree e))) (h.0, (expr_kept P k e h.1).expr, h.2)
  stmt_kept P k (g.cleanup_stmt e) h = subst (λ z. stmt_each P z) (sym (stmt_form-Cleanup (trees.expr_tree e))) (h.0, (expr_kept P k e h.1).expr, h.2)

  pub else_ifs_kept : (P : Word → Type 0) → Keeps P → (d : ElseIfs) → else_ifs_each P d → else_ifs_each P (else_ifs_of (map arm_form (trees.else_ifs_tree d)))
  else_ifs_kept P k g.no_else_if h = tt
  else_ifs_kept P k (g.else_if e b more) h =
      let a : Arm = record { test = trees.expr_tree e; body = trees.block_tree b } in
      let ms : ElseIfs = else_ifs_of (map arm_form (trees.else_ifs_tree more)) in
      subst (λ (z : ExprWay × BlockWay). else_ifs_each P (g.else_if z.0 z.1 ms)) (sym (arm_is a))
      (h.0, h.1, h.2, (expr_kept P k e h.3).expr, h.4, block_kept P k b h.5, else_ifs_kept P k more h.6)

  pub else_kept : (P : Word → Type 0) → Keeps P → (d : ElseWay) → else_each P d → else_each P (else_of (other_form (trees.else_tree d)))
  else_kept P k g.no_else h = tt
  else_kept P k (g.else_block b) h = (h.0, block_kept P k b h.1)

body_kept : (P : Word → Type 0) → Keeps P → (d : BodyWay) → body_each P d → body_each P (body_form (trees.body_tree d))
body_kept P k (g.expr_body e) h = (expr_kept P k e h).expr
body_kept P k (g.block_body s more) h =
    let b : Block = record { stmts = trees.stmts_tree (g.next_stmt s more) } in
    subst (λ z. body_each P (f.block_body_of z)) (sym (block_is b)) (h.0, stmt_kept P k s h.1, stmts_kept P k more h.2, h.3)

pub cell_kept : (P : Word → Type 0) → Keeps P → (d : CellWay) → cell_each P d → cell_each P (cell_form (trees.cell_tree d))
cell_kept P k (g.unnamed b) h = body_kept P k b h
cell_kept P k (g.named x b) h = (h.0, h.1, body_kept P k b h.2)
