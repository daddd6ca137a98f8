-- The forms of an expression that is spelled have its tree.
use Rattle.std.proofs.Common.{◌≡◌, ℕ, zero, suc, true, false, refl, sym, ap, subst, ◌∙◌, List, [], ◌∷◌, map, arith}
use Rattle.nb_value.specs.Function.{arity}
use Rattle.nb_value.specs.declared.function.Function.{Function}
use Rattle.nb_syntax.specs.declared.tree.Sign.{Sign}
use Rattle.nb_syntax.specs.declared.tree.Expr.{Expr}
use Rattle.nb_syntax.specs.declared.tree.Expr.TheVariants as tree
use Rattle.nb_syntax.specs.declared.tree.PathStep.{PathStep}
use Rattle.nb_syntax.specs.declared.tree.PathStep.TheVariants as path
use Rattle.nb_syntax.specs.declared.tree.Operand.{Operand}
use Rattle.nb_syntax.specs.declared.tree.Member.{Member}
use Rattle.nb_grammar.specs.Reading as r
use Rattle.nb_grammar.specs.Grammar as g
use Rattle.nb_grammar.specs.Trees as trees
use Rattle.nb_grammar.specs.Grammar.{ExprWay, OrWay, OrParts, AndWay, AndParts, CompareWay, SumWay, Summands, ProductWay, Factors, UnaryWay, PostfixWay, Steps, PrimaryWay, Items, Pairs, PairWay, CompareSign, SumSign, ProductSign, UnarySign}
use Rattle.nb_grammar.specs.Forms.{Forms, of_primary, of_expr, of_or, of_and, of_compare, of_sum, of_product, of_unary, of_postfix, as_compare, as_sum, as_product, as_unary, or_parts_of, and_parts_of, summands_of, factors_of, steps_of, items_of, pairs_of, list_of, record_of, call_of, forms, step_forms, member_forms, operand_forms}
use Rattle.nb_grammar.proofs.FormLaws.{forms-Int, forms-Quoted, forms-Bool, forms-Name, forms-List, forms-Rec, forms-Call, forms-Fetch, forms-Path, forms-Unary, forms-Product, forms-Sum, forms-Compare, forms-And, forms-Or, forms-Choose, forms-Null, step_forms-Field, step_forms-At, member_is, operand_is}

-- Each form has this tree.
pub record Fine (f : Forms) (e : Expr) : Type 0 where
  pub expr_is : trees.expr_tree f.expr ≡ e
  pub or_is : trees.or_tree f.or ≡ e
  pub and_is : trees.and_tree f.and ≡ e
  pub compare_is : trees.compare_tree f.compare ≡ e
  pub sum_is : trees.sum_tree f.sum ≡ e
  pub product_is : trees.product_tree f.product ≡ e
  pub unary_is : trees.unary_tree f.unary ≡ e
  pub postfix_is : trees.postfix_tree f.postfix ≡ e
  pub primary_is : trees.primary_tree f.primary ≡ e

fine_expr : (d : ExprWay) → Fine (of_expr d) (trees.expr_tree d)
fine_expr d = record { expr_is = refl; or_is = refl; and_is = refl; compare_is = refl; sum_is = refl; product_is = refl; unary_is = refl; postfix_is = refl; primary_is = refl }

fine_or : (d : OrWay) → Fine (of_or d) (trees.or_tree d)
fine_or d = record { expr_is = refl; or_is = refl; and_is = refl; compare_is = refl; sum_is = refl; product_is = refl; unary_is = refl; postfix_is = refl; primary_is = refl }

fine_and : (d : AndWay) → Fine (of_and d) (trees.and_tree d)
fine_and d = record { expr_is = refl; or_is = refl; and_is = refl; compare_is = refl; sum_is = refl; product_is = refl; unary_is = refl; postfix_is = refl; primary_is = refl }

fine_compare : (d : CompareWay) → Fine (of_compare d) (trees.compare_tree d)
fine_compare d = record { expr_is = refl; or_is = refl; and_is = refl; compare_is = refl; sum_is = refl; product_is = refl; unary_is = refl; postfix_is = refl; primary_is = refl }

fine_sum : (d : SumWay) → Fine (of_sum d) (trees.sum_tree d)
fine_sum d = record { expr_is = refl; or_is = refl; and_is = refl; compare_is = refl; sum_is = refl; product_is = refl; unary_is = refl; postfix_is = refl; primary_is = refl }

fine_product : (d : ProductWay) → Fine (of_product d) (trees.product_tree d)
fine_product d = record { expr_is = refl; or_is = refl; and_is = refl; compare_is = refl; sum_is = refl; product_is = refl; unary_is = refl; postfix_is = refl; primary_is = refl }

fine_unary : (d : UnaryWay) → Fine (of_unary d) (trees.unary_tree d)
fine_unary d = record { expr_is = refl; or_is = refl; and_is = refl; compare_is = refl; sum_is = refl; product_is = refl; unary_is = refl; postfix_is = refl; primary_is = refl }

fine_postfix : (d : PostfixWay) → Fine (of_postfix d) (trees.postfix_tree d)
fine_postfix d = record { expr_is = refl; or_is = refl; and_is = refl; compare_is = refl; sum_is = refl; product_is = refl; unary_is = refl; postfix_is = refl; primary_is = refl }

fine_primary : (d : PrimaryWay) → Fine (of_primary d) (trees.primary_tree d)
fine_primary d = record { expr_is = refl; or_is = refl; and_is = refl; compare_is = refl; sum_is = refl; product_is = refl; unary_is = refl; postfix_is = refl; primary_is = refl }

-- f is g, whose forms have the tree d, which is e.
along : (f g : Forms) (d e : Expr) → f ≡ g → d ≡ e → Fine g d → Fine f e
along f g d e p q h = subst (λ z. Fine z e) (sym p) (subst (λ z. Fine g z) q h)

pub as_compare_again : (s : CompareSign) → as_compare (trees.compare_operator s) ≡ s
as_compare_again g.equal = refl
as_compare_again g.not_equal = refl
as_compare_again g.less = refl
as_compare_again g.less_or_equal = refl
as_compare_again g.greater = refl
as_compare_again g.greater_or_equal = refl

pub as_sum_again : (s : SumSign) → as_sum (trees.sum_operator s) ≡ s
as_sum_again g.plus = refl
as_sum_again g.minus = refl

pub as_product_again : (s : ProductSign) → as_product (trees.product_operator s) ≡ s
as_product_again g.times = refl
as_product_again g.divide = refl
as_product_again g.remainder = refl

pub as_unary_again : (s : UnarySign) → as_unary (trees.unary_operator s) ≡ s
as_unary_again g.negative = refl
as_unary_again g.not = refl

call1_tree : (f : Function) (n : ℕ) (is : arity f ≡ n) → n ≡ 1 → (a : Forms) → trees.primary_tree (call_of f n is (a ∷ [])) ≡ tree.Call f (trees.expr_tree a.expr ∷ [])
call1_tree f zero is one a = absurd (omega arith)
call1_tree f (suc zero) is one a = refl
call1_tree f (suc (suc n)) is one a = absurd (omega arith)

call2_tree : (f : Function) (n : ℕ) (is : arity f ≡ n) → n ≡ 2 → (a b : Forms) → trees.primary_tree (call_of f n is (a ∷ b ∷ [])) ≡ tree.Call f (trees.expr_tree a.expr ∷ trees.expr_tree b.expr ∷ [])
call2_tree f zero is two a b = absurd (omega arith)
call2_tree f (suc zero) is two a b = absurd (omega arith)
call2_tree f (suc (suc zero)) is two a b = refl
call2_tree f (suc (suc (suc n))) is two a b = absurd (omega arith)

call3_tree : (f : Function) (n : ℕ) (is : arity f ≡ n) → n ≡ 3 → (a b c : Forms)
    → trees.primary_tree (call_of f n is (a ∷ b ∷ c ∷ [])) ≡ tree.Call f (trees.expr_tree a.expr ∷ trees.expr_tree b.expr ∷ trees.expr_tree c.expr ∷ [])
call3_tree f zero is three a b c = absurd (omega arith)
call3_tree f (suc zero) is three a b c = absurd (omega arith)
call3_tree f (suc (suc zero)) is three a b c = absurd (omega arith)
call3_tree f (suc (suc (suc zero))) is three a b c = refl
call3_tree f (suc (suc (suc (suc n)))) is three a b c = absurd (omega arith)

mutual
  pub expr_fine : (d : ExprWay) → Fine (forms (trees.expr_tree d)) (trees.expr_tree d)
  expr_fine (g.plain o) = or_fine o
  expr_fine (g.choose c a b) =
      let x : Expr = trees.or_tree c in
      let y : Expr = trees.or_tree a in
      let z : Expr = trees.or_tree b in
      let w : ExprWay = g.choose (forms x).or (forms y).or (forms z).or in
      along (forms (tree.Choose x y z)) (of_expr w) (trees.expr_tree w) (tree.Choose x y z) (forms-Choose x y z)
      (ap (λ (h : Expr). tree.Choose h (trees.or_tree (forms y).or) (trees.or_tree (forms z).or)) (or_fine c).or_is
      ∙ ap (λ (h : Expr). tree.Choose x h (trees.or_tree (forms z).or)) (or_fine a).or_is
      ∙ ap (λ (h : Expr). tree.Choose x y h) (or_fine b).or_is)
      (fine_expr w)

  pub or_fine : (d : OrWay) → Fine (forms (trees.or_tree d)) (trees.or_tree d)
  or_fine (g.or a g.no_or_part) = and_fine a
  or_fine (g.or a (g.or_part b more)) =
      let x : Expr = trees.and_tree a in
      let ys : List Expr = trees.or_parts_tree (g.or_part b more) in
      let w : OrWay = g.or (forms x).and (or_parts_of (map forms ys)) in
      along (forms (tree.Or (x ∷ ys))) (of_or w) (trees.or_tree w) (tree.Or (x ∷ ys)) (forms-Or (x ∷ ys))
      (ap (λ (h : List Expr). r.or_of (trees.and_tree (forms x).and) h) (or_parts_fine (g.or_part b more)) ∙ ap (λ (h : Expr). tree.Or (h ∷ ys)) (and_fine a).and_is)
      (fine_or w)

  pub or_parts_fine : (d : OrParts) → trees.or_parts_tree (or_parts_of (map forms (trees.or_parts_tree d))) ≡ trees.or_parts_tree d
  or_parts_fine g.no_or_part = refl
  or_parts_fine (g.or_part a more) =
      ap (λ (h : Expr). h ∷ trees.or_parts_tree (or_parts_of (map forms (trees.or_parts_tree more)))) (and_fine a).and_is
      ∙ ap (λ (h : List Expr). trees.and_tree a ∷ h) (or_parts_fine more)

  pub and_fine : (d : AndWay) → Fine (forms (trees.and_tree d)) (trees.and_tree d)
  and_fine (g.and a g.no_and_part) = compare_fine a
  and_fine (g.and a (g.and_part b more)) =
      let x : Expr = trees.compare_tree a in
      let ys : List Expr = trees.and_parts_tree (g.and_part b more) in
      let w : AndWay = g.and (forms x).compare (and_parts_of (map forms ys)) in
      along (forms (tree.And (x ∷ ys))) (of_and w) (trees.and_tree w) (tree.And (x ∷ ys)) (forms-And (x ∷ ys))
      (ap (λ (h : List Expr). r.and_of (trees.compare_tree (forms x).compare) h) (and_parts_fine (g.and_part b more)) ∙ ap (λ (h : Expr). tree.And (h ∷ ys)) (compare_fine a).compare_is)
      (fine_and w)

  pub and_parts_fine : (d : AndParts) → trees.and_parts_tree (and_parts_of (map forms (trees.and_parts_tree d))) ≡ trees.and_parts_tree d
  and_parts_fine g.no_and_part = refl
  and_parts_fine (g.and_part a more) =
      ap (λ (h : Expr). h ∷ trees.and_parts_tree (and_parts_of (map forms (trees.and_parts_tree more)))) (compare_fine a).compare_is
      ∙ ap (λ (h : List Expr). trees.compare_tree a ∷ h) (and_parts_fine more)

  pub compare_fine : (d : CompareWay) → Fine (forms (trees.compare_tree d)) (trees.compare_tree d)
  compare_fine (g.single s) = sum_fine s
  compare_fine (g.compare c s t) =
      let o : Sign = trees.compare_operator c in
      let x : Expr = trees.sum_tree s in
      let y : Expr = trees.sum_tree t in
      let w : CompareWay = g.compare (as_compare o) (forms x).sum (forms y).sum in
      along (forms (tree.Compare o x y)) (of_compare w) (trees.compare_tree w) (tree.Compare o x y) (forms-Compare o x y)
      (ap (λ (k : CompareSign). tree.Compare (trees.compare_operator k) (trees.sum_tree (forms x).sum) (trees.sum_tree (forms y).sum)) (as_compare_again c)
      ∙ ap (λ (h : Expr). tree.Compare o h (trees.sum_tree (forms y).sum)) (sum_fine s).sum_is
      ∙ ap (λ (h : Expr). tree.Compare o x h) (sum_fine t).sum_is)
      (fine_compare w)

  pub sum_fine : (d : SumWay) → Fine (forms (trees.sum_tree d)) (trees.sum_tree d)
  sum_fine (g.sum p g.no_summand) = product_fine p
  sum_fine (g.sum p (g.summand s q more)) =
      let os : List Operand = trees.summands_tree (g.summand s q more) in
      let e : Expr = trees.product_tree p in
      let w : SumWay = g.sum (forms e).product (summands_of (map operand_forms os)) in
      along (forms (tree.Sum e os)) (of_sum w) (trees.sum_tree w) (tree.Sum e os) (forms-Sum e os)
      (ap (λ (h : List Operand). r.sum_of (trees.product_tree (forms e).product) h) (summands_fine (g.summand s q more)) ∙ ap (λ (h : Expr). tree.Sum h os) (product_fine p).product_is)
      (fine_sum w)

  pub summands_fine : (d : Summands) → trees.summands_tree (summands_of (map operand_forms (trees.summands_tree d))) ≡ trees.summands_tree d
  summands_fine g.no_summand = refl
  summands_fine (g.summand s p more) =
      let o : Operand = record { sign = trees.sum_operator s; expr = trees.product_tree p } in
      let ms : Summands = summands_of (map operand_forms (trees.summands_tree more)) in
      ap (λ (z : Sign × Forms). trees.summands_tree (g.summand (as_sum z.0) z.1.product ms)) (operand_is o)
      ∙ ap (λ (k : SumSign). trees.summands_tree (g.summand k (forms (trees.product_tree p)).product ms)) (as_sum_again s)
      ∙ ap (λ (h : Expr). let z : Operand = record { sign = trees.sum_operator s; expr = h } in z ∷ trees.summands_tree ms) (product_fine p).product_is
      ∙ ap (λ (h : List Operand). o ∷ h) (summands_fine more)

  pub product_fine : (d : ProductWay) → Fine (forms (trees.product_tree d)) (trees.product_tree d)
  product_fine (g.product p g.no_factor) = unary_fine p
  product_fine (g.product p (g.factor s q more)) =
      let os : List Operand = trees.factors_tree (g.factor s q more) in
      let e : Expr = trees.unary_tree p in
      let w : ProductWay = g.product (forms e).unary (factors_of (map operand_forms os)) in
      along (forms (tree.Product e os)) (of_product w) (trees.product_tree w) (tree.Product e os) (forms-Product e os)
      (ap (λ (h : List Operand). r.product_of (trees.unary_tree (forms e).unary) h) (factors_fine (g.factor s q more)) ∙ ap (λ (h : Expr). tree.Product h os) (unary_fine p).unary_is)
      (fine_product w)

  pub factors_fine : (d : Factors) → trees.factors_tree (factors_of (map operand_forms (trees.factors_tree d))) ≡ trees.factors_tree d
  factors_fine g.no_factor = refl
  factors_fine (g.factor s p more) =
      let o : Operand = record { sign = trees.product_operator s; expr = trees.unary_tree p } in
      let ms : Factors = factors_of (map operand_forms (trees.factors_tree more)) in
      ap (λ (z : Sign × Forms). trees.factors_tree (g.factor (as_product z.0) z.1.unary ms)) (operand_is o)
      ∙ ap (λ (k : ProductSign). trees.factors_tree (g.factor k (forms (trees.unary_tree p)).unary ms)) (as_product_again s)
      ∙ ap (λ (h : Expr). let z : Operand = record { sign = trees.product_operator s; expr = h } in z ∷ trees.factors_tree ms) (unary_fine p).unary_is
      ∙ ap (λ (h : List Operand). o ∷ h) (factors_fine more)

  pub unary_fine : (d : UnaryWay) → Fine (forms (trees.unary_tree d)) (trees.unary_tree d)
  unary_fine (g.unsigned p) = postfix_fine p
  unary_fine (g.signed s p) =
      let o : Sign = trees.unary_operator s in
      let e : Expr = trees.postfix_tree p in
      let w : UnaryWay = g.signed (as_unary o) (forms e).postfix in
      along (forms (tree.Unary o e)) (of_unary w) (trees.unary_tree w) (tree.Unary o e) (forms-Unary o e)
      (ap (λ (k : UnarySign). tree.Unary (trees.unary_operator k) (trees.postfix_tree (forms e).postfix)) (as_unary_again s)
      ∙ ap (λ (h : Expr). tree.Unary o h) (postfix_fine p).postfix_is)
      (fine_unary w)

  pub postfix_fine : (d : PostfixWay) → Fine (forms (trees.postfix_tree d)) (trees.postfix_tree d)
  postfix_fine (g.postfix p g.no_step) = primary_fine p
  postfix_fine (g.postfix p (g.field x more)) =
      let ss : List PathStep = trees.steps_tree (g.field x more) in
      let e : Expr = trees.primary_tree p in
      let w : PostfixWay = g.postfix (forms e).primary (steps_of (map step_forms ss)) in
      along (forms (tree.Path e ss)) (of_postfix w) (trees.postfix_tree w) (tree.Path e ss) (forms-Path e ss)
      (ap (λ (h : List PathStep). r.path_of (trees.primary_tree (forms e).primary) h) (steps_fine (g.field x more)) ∙ ap (λ (h : Expr). tree.Path h ss) (primary_fine p).primary_is)
      (fine_postfix w)
  postfix_fine (g.postfix p (g.at x more)) =
      let ss : List PathStep = trees.steps_tree (g.at x more) in
      let e : Expr = trees.primary_tree p in
      let w : PostfixWay = g.postfix (forms e).primary (steps_of (map step_forms ss)) in
      along (forms (tree.Path e ss)) (of_postfix w) (trees.postfix_tree w) (tree.Path e ss) (forms-Path e ss)
      (ap (λ (h : List PathStep). r.path_of (trees.primary_tree (forms e).primary) h) (steps_fine (g.at x more)) ∙ ap (λ (h : Expr). tree.Path h ss) (primary_fine p).primary_is)
      (fine_postfix w)

  pub steps_fine : (d : Steps) → trees.steps_tree (steps_of (map step_forms (trees.steps_tree d))) ≡ trees.steps_tree d
  steps_fine g.no_step = refl
  steps_fine (g.field x more) =
      ap (λ (h : Steps → Steps). trees.steps_tree (h (steps_of (map step_forms (trees.steps_tree more))))) (step_forms-Field x)
      ∙ ap (λ (h : List PathStep). path.Field x ∷ h) (steps_fine more)
  steps_fine (g.at e more) =
      ap (λ (h : Steps → Steps). trees.steps_tree (h (steps_of (map step_forms (trees.steps_tree more))))) (step_forms-At (trees.expr_tree e))
      ∙ ap (λ (h : Expr). path.At h ∷ trees.steps_tree (steps_of (map step_forms (trees.steps_tree more)))) (expr_fine e).expr_is
      ∙ ap (λ (h : List PathStep). path.At (trees.expr_tree e) ∷ h) (steps_fine more)

  pub primary_fine : (d : PrimaryWay) → Fine (forms (trees.primary_tree d)) (trees.primary_tree d)
  primary_fine (g.number n) = along (forms (tree.Int n)) (of_primary (g.number n)) (tree.Int n) (tree.Int n) (forms-Int n) refl (fine_primary (g.number n))
  primary_fine (g.quoted x) = along (forms (tree.Quoted x)) (of_primary (g.quoted x)) (tree.Quoted x) (tree.Quoted x) (forms-Quoted x) refl (fine_primary (g.quoted x))
  primary_fine g.true_word = along (forms (tree.Bool true)) (of_primary (g.true_word)) (tree.Bool true) (tree.Bool true) (forms-Bool true) refl (fine_primary (g.true_word))
  primary_fine g.false_word = along (forms (tree.Bool false)) (of_primary (g.false_word)) (tree.Bool false) (tree.Bool false) (forms-Bool false) refl (fine_primary (g.false_word))
  primary_fine g.null_word = along (forms tree.Null) (of_primary g.null_word) tree.Null tree.Null forms-Null refl (fine_primary g.null_word)
  primary_fine (g.name x) = along (forms (tree.Name x)) (of_primary (g.name x)) (tree.Name x) (tree.Name x) (forms-Name x) refl (fine_primary (g.name x))
  primary_fine (g.call1 f is a) =
      let es : List Expr = trees.expr_tree a ∷ [] in
      let w : PrimaryWay = call_of f (arity f) refl (map forms es) in
      along (forms (tree.Call f es)) (of_primary w) (trees.primary_tree w) (tree.Call f es) (forms-Call f es)
      (call1_tree f (arity f) refl is (forms (trees.expr_tree a)) ∙ ap (λ (h : Expr). tree.Call f (h ∷ [])) (expr_fine a).expr_is)
      (fine_primary w)
  primary_fine (g.call2 f is a b) =
      let x : Expr = trees.expr_tree a in
      let y : Expr = trees.expr_tree b in
      let es : List Expr = x ∷ y ∷ [] in
      let w : PrimaryWay = call_of f (arity f) refl (map forms es) in
      along (forms (tree.Call f es)) (of_primary w) (trees.primary_tree w) (tree.Call f es) (forms-Call f es)
      (call2_tree f (arity f) refl is (forms x) (forms y)
      ∙ ap (λ (h : Expr). tree.Call f (h ∷ trees.expr_tree (forms y).expr ∷ [])) (expr_fine a).expr_is
      ∙ ap (λ (h : Expr). tree.Call f (x ∷ h ∷ [])) (expr_fine b).expr_is)
      (fine_primary w)
  primary_fine (g.call3 f is a b c) =
      let x : Expr = trees.expr_tree a in
      let y : Expr = trees.expr_tree b in
      let z : Expr = trees.expr_tree c in
      let es : List Expr = x ∷ y ∷ z ∷ [] in
      let w : PrimaryWay = call_of f (arity f) refl (map forms es) in
      along (forms (tree.Call f es)) (of_primary w) (trees.primary_tree w) (tree.Call f es) (forms-Call f es)
      (call3_tree f (arity f) refl is (forms x) (forms y) (forms z)
      ∙ ap (λ (h : Expr). tree.Call f (h ∷ trees.expr_tree (forms y).expr ∷ trees.expr_tree (forms z).expr ∷ [])) (expr_fine a).expr_is
      ∙ ap (λ (h : Expr). tree.Call f (x ∷ h ∷ trees.expr_tree (forms z).expr ∷ [])) (expr_fine b).expr_is
      ∙ ap (λ (h : Expr). tree.Call f (x ∷ y ∷ h ∷ [])) (expr_fine c).expr_is)
      (fine_primary w)
  primary_fine (g.fetch e) =
      let x : Expr = trees.expr_tree e in
      let w : PrimaryWay = g.fetch (forms x).expr in
      along (forms (tree.Fetch x)) (of_primary w) (trees.primary_tree w) (tree.Fetch x) (forms-Fetch x) (ap (λ (h : Expr). tree.Fetch h) (expr_fine e).expr_is) (fine_primary w)
  primary_fine (g.round e) = expr_fine e
  primary_fine g.no_items = along (forms (tree.List [])) (of_primary (g.no_items)) (tree.List []) (tree.List []) (forms-List []) refl (fine_primary (g.no_items))
  primary_fine (g.items e more) =
      let es : List Expr = trees.expr_tree e ∷ trees.items_tree more in
      let w : PrimaryWay = list_of (map forms es) in
      along (forms (tree.List es)) (of_primary w) (trees.primary_tree w) (tree.List es) (forms-List es)
      (ap (λ (h : Expr). tree.List (h ∷ trees.items_tree (items_of (map forms (trees.items_tree more))))) (expr_fine e).expr_is
      ∙ ap (λ (h : List Expr). tree.List (trees.expr_tree e ∷ h)) (items_fine more))
      (fine_primary w)
  primary_fine g.no_pairs = along (forms (tree.Rec [])) (of_primary (g.no_pairs)) (tree.Rec []) (tree.Rec []) (forms-Rec []) refl (fine_primary (g.no_pairs))
  primary_fine (g.pairs p more) =
      let ms : List Member = trees.pair_tree p ∷ trees.pairs_tree more in
      let w : PrimaryWay = record_of (map member_forms ms) in
      along (forms (tree.Rec ms)) (of_primary w) (trees.primary_tree w) (tree.Rec ms) (forms-Rec ms)
      (ap (λ (h : Member). tree.Rec (h ∷ trees.pairs_tree (pairs_of (map member_forms (trees.pairs_tree more))))) (pair_fine p)
      ∙ ap (λ (h : List Member). tree.Rec (trees.pair_tree p ∷ h)) (pairs_fine more))
      (fine_primary w)

  pub items_fine : (d : Items) → trees.items_tree (items_of (map forms (trees.items_tree d))) ≡ trees.items_tree d
  items_fine g.no_item = refl
  items_fine (g.item e more) =
      ap (λ (h : Expr). h ∷ trees.items_tree (items_of (map forms (trees.items_tree more)))) (expr_fine e).expr_is
      ∙ ap (λ (h : List Expr). trees.expr_tree e ∷ h) (items_fine more)

  pub pairs_fine : (d : Pairs) → trees.pairs_tree (pairs_of (map member_forms (trees.pairs_tree d))) ≡ trees.pairs_tree d
  pairs_fine g.no_pair = refl
  pairs_fine (g.next_pair p more) =
      ap (λ (h : Member). h ∷ trees.pairs_tree (pairs_of (map member_forms (trees.pairs_tree more)))) (pair_fine p)
      ∙ ap (λ (h : List Member). trees.pair_tree p ∷ h) (pairs_fine more)

  pub pair_fine : (d : PairWay) → trees.pair_tree (g.pair (g.quoted_key (member_forms (trees.pair_tree d)).0) (member_forms (trees.pair_tree d)).1.expr) ≡ trees.pair_tree d
  pair_fine (g.pair k e) =
      let m : Member = trees.pair_tree (g.pair k e) in
      ap (λ (z : List ℕ × Forms). trees.pair_tree (g.pair (g.quoted_key z.0) z.1.expr)) (member_is m)
      ∙ ap (λ (h : Expr). let z : Member = record { key = trees.key_text k; value = h } in z) (expr_fine e).expr_is
