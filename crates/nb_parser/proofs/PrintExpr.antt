-- The text of an expression's forms is what is printed of its tree.
use Rattle.std.proofs.Common.{◌≡◌, ℕ, true, false, refl, sym, ap, ◌∙◌, List, [], ◌∷◌, ◌++◌, map}
use Rattle.std.specs.Prelude.{codes}
use Rattle.std.specs.Fmt.{signed_decimal}
use Rattle.nb_value.specs.Function.{arity, function_name}
use Rattle.nb_syntax.specs.declared.tree.Sign.{Sign}
use Rattle.nb_syntax.specs.declared.tree.Expr.{Expr}
use Rattle.nb_syntax.specs.declared.tree.Expr.TheVariants as tree
use Rattle.nb_syntax.specs.declared.tree.PathStep.{PathStep}
use Rattle.nb_syntax.specs.declared.tree.Operand.{Operand}
use Rattle.nb_syntax.specs.declared.tree.Member.{Member}
use Rattle.nb_syntax.specs.Print.{Piece, piece, placed, bare, sign_text, parts_text, each_after, separated, operands_text, operand_text, path_step_text, member_text, operand, quoted_text}
use Rattle.nb_syntax.specs.Print as print
use Rattle.nb_grammar.specs.Grammar as g
use Rattle.nb_grammar.specs.Trees as trees
use Rattle.nb_grammar.specs.Grammar.{ExprWay, OrWay, OrParts, AndWay, AndParts, CompareWay, SumWay, Summands, ProductWay, Factors, UnaryWay, PostfixWay, Steps, PrimaryWay, Items, Pairs, PairWay, CompareSign, SumSign, ProductSign, UnarySign}
use Rattle.nb_grammar.specs.Forms.{Forms, of_primary, of_expr, of_or, of_and, of_compare, of_sum, of_product, of_unary, of_postfix, as_compare, as_sum, as_product, as_unary, or_parts_of, and_parts_of, summands_of, factors_of, steps_of, items_of, pairs_of, list_of, record_of, call_of, forms, step_forms, member_forms, operand_forms}
use Rattle.nb_grammar.proofs.FormLaws.{forms-Int, forms-Quoted, forms-Bool, forms-Name, forms-List, forms-Rec, forms-Call, forms-Fetch, forms-Path, forms-Unary, forms-Product, forms-Sum, forms-Compare, forms-And, forms-Or, forms-Choose, forms-Null, step_forms-Field, step_forms-At}
use Rattle.nb_grammar.proofs.FormLaws as form
use Rattle.nb_parser.proofs.WayTexts as text
use Rattle.nb_parser.proofs.PrintLaws as laws
use Rattle.nb_grammar.proofs.FormExpr.{as_compare_again, as_sum_again, as_product_again, as_unary_again}
use Rattle.nb_parser.proofs.PrintForms.{Prints, prints_primary, prints_expr, prints_or, prints_and, prints_compare, prints_sum, prints_product, prints_unary, prints_postfix, along, two, quoted_same, member_start, choose_text, or_part_text, and_part_text, compare_text, summand_text, factor_text, unary_text, field_text, at_text, item_text, enclosed, call1_text, call2_text, call3_text, fetch_text}

mutual
  pub expr_prints : (d : ExprWay) → Prints (forms (trees.expr_tree d)) (bare (trees.expr_tree d))
  expr_prints (g.plain o) = or_prints o
  expr_prints (g.choose c a b) =
      let x : Expr = trees.or_tree c in
      let y : Expr = trees.or_tree a in
      let z : Expr = trees.or_tree b in
      let w : ExprWay = g.choose (forms x).or (forms y).or (forms z).or in
      let u : List ℕ = placed (bare x) 1 ++ codes " ? " ++ placed (bare y) 1 ++ codes " : " ++ placed (bare z) 1 in
      along (forms (tree.Choose x y z)) (of_expr w) (bare (tree.Choose x y z)) (piece 0 u) (forms-Choose x y z) (laws.bare-Choose x y z)
      (prints_expr w u (choose_text (forms x) (forms y) (forms z) (bare x) (bare y) (bare z) (or_prints c) (or_prints a) (or_prints b)))

  pub or_prints : (d : OrWay) → Prints (forms (trees.or_tree d)) (bare (trees.or_tree d))
  or_prints (g.or a g.no_or_part) = and_prints a
  or_prints (g.or a (g.or_part b more)) =
      let x : Expr = trees.and_tree a in
      let ys : List Expr = trees.or_parts_tree (g.or_part b more) in
      let ms : OrParts = or_parts_of (map forms ys) in
      let w : OrWay = g.or (forms x).and ms in
      let u : List ℕ = each_after (codes " || ") (map (λ p. placed p 2) (map bare ys)) in
      along (forms (tree.Or (x ∷ ys))) (of_or w) (bare (tree.Or (x ∷ ys))) (piece 1 (placed (bare x) 2 ++ u)) (forms-Or (x ∷ ys)) (laws.bare-Or (x ∷ ys))
      (prints_or w (placed (bare x) 2 ++ u) (two (text.and_text (forms x).and) (text.or_parts_text ms) (placed (bare x) 2) u (and_prints a).and_is (or_parts_prints (g.or_part b more))))

  pub or_parts_prints : (d : OrParts) (t : List ℕ)
      → text.or_parts_text (or_parts_of (map forms (trees.or_parts_tree d))) t ≡ each_after (codes " || ") (map (λ p. placed p 2) (map bare (trees.or_parts_tree d))) ++ t
  or_parts_prints g.no_or_part t = refl
  or_parts_prints (g.or_part a more) t =
      let x : Expr = trees.and_tree a in
      let ys : List Expr = trees.or_parts_tree more in
      or_part_text (forms x) (bare x) (or_parts_of (map forms ys)) (each_after (codes " || ") (map (λ p. placed p 2) (map bare ys))) (and_prints a) (or_parts_prints more) t

  pub and_prints : (d : AndWay) → Prints (forms (trees.and_tree d)) (bare (trees.and_tree d))
  and_prints (g.and a g.no_and_part) = compare_prints a
  and_prints (g.and a (g.and_part b more)) =
      let x : Expr = trees.compare_tree a in
      let ys : List Expr = trees.and_parts_tree (g.and_part b more) in
      let ms : AndParts = and_parts_of (map forms ys) in
      let w : AndWay = g.and (forms x).compare ms in
      let u : List ℕ = each_after (codes " && ") (map (λ p. placed p 3) (map bare ys)) in
      along (forms (tree.And (x ∷ ys))) (of_and w) (bare (tree.And (x ∷ ys))) (piece 2 (placed (bare x) 3 ++ u)) (forms-And (x ∷ ys)) (laws.bare-And (x ∷ ys))
      (prints_and w (placed (bare x) 3 ++ u) (two (text.compare_text (forms x).compare) (text.and_parts_text ms) (placed (bare x) 3) u (compare_prints a).compare_is (and_parts_prints (g.and_part b more))))

  pub and_parts_prints : (d : AndParts) (t : List ℕ)
      → text.and_parts_text (and_parts_of (map forms (trees.and_parts_tree d))) t ≡ each_after (codes " && ") (map (λ p. placed p 3) (map bare (trees.and_parts_tree d))) ++ t
  and_parts_prints g.no_and_part t = refl
  and_parts_prints (g.and_part a more) t =
      let x : Expr = trees.compare_tree a in
      let ys : List Expr = trees.and_parts_tree more in
      and_part_text (forms x) (bare x) (and_parts_of (map forms ys)) (each_after (codes " && ") (map (λ p. placed p 3) (map bare ys))) (compare_prints a) (and_parts_prints more) t

  pub compare_prints : (d : CompareWay) → Prints (forms (trees.compare_tree d)) (bare (trees.compare_tree d))
  compare_prints (g.single s) = sum_prints s
  compare_prints (g.compare c a b) =
      let o : Sign = trees.compare_operator c in
      let x : Expr = trees.sum_tree a in
      let y : Expr = trees.sum_tree b in
      let w : CompareWay = g.compare (as_compare o) (forms x).sum (forms y).sum in
      let u : List ℕ = placed (bare x) 4 ++ operand_text 4 (o, bare y) in
      along (forms (tree.Compare o x y)) (of_compare w) (bare (tree.Compare o x y)) (piece 3 u) (forms-Compare o x y) (laws.bare-Compare o x y)
      (prints_compare w u (λ t. ap (λ (k : CompareSign). text.compare_text (g.compare k (forms x).sum (forms y).sum) t) (as_compare_again c)
      ∙ compare_text c (forms x) (forms y) (bare x) (bare y) (sum_prints a) (sum_prints b) t))

  pub sum_prints : (d : SumWay) → Prints (forms (trees.sum_tree d)) (bare (trees.sum_tree d))
  sum_prints (g.sum a g.no_summand) = product_prints a
  sum_prints (g.sum a (g.summand s b more)) =
      let x : Expr = trees.product_tree a in
      let os : List Operand = trees.summands_tree (g.summand s b more) in
      let ms : Summands = summands_of (map operand_forms os) in
      let w : SumWay = g.sum (forms x).product ms in
      let u : List ℕ = operands_text 5 (map operand os) in
      along (forms (tree.Sum x os)) (of_sum w) (bare (tree.Sum x os)) (piece 4 (placed (bare x) 5 ++ u)) (forms-Sum x os) (laws.bare-Sum x os)
      (prints_sum w (placed (bare x) 5 ++ u) (two (text.product_text (forms x).product) (text.summands_text ms) (placed (bare x) 5) u (product_prints a).product_is (summands_prints (g.summand s b more))))

  pub summands_prints : (d : Summands) (t : List ℕ) → text.summands_text (summands_of (map operand_forms (trees.summands_tree d))) t ≡ operands_text 5 (map operand (trees.summands_tree d)) ++ t
  summands_prints g.no_summand t = refl
  summands_prints (g.summand s a more) t =
      let x : Expr = trees.product_tree a in
      let o : Operand = record { sign = trees.sum_operator s; expr = x } in
      let ms : Summands = summands_of (map operand_forms (trees.summands_tree more)) in
      let u : List ℕ = operands_text 5 (map operand (trees.summands_tree more)) in
      ap (λ (z : Sign × Forms). text.summands_text (g.summand (as_sum z.0) z.1.product ms) t) (form.operand_is o)
      ∙ ap (λ (k : SumSign). text.summands_text (g.summand k (forms x).product ms) t) (as_sum_again s)
      ∙ summand_text s (forms x) (bare x) ms u (product_prints a) (summands_prints more) t
      ∙ ap (λ (z : Sign × Piece). operand_text 5 z ++ u ++ t) (sym (laws.operand_is o))

  pub product_prints : (d : ProductWay) → Prints (forms (trees.product_tree d)) (bare (trees.product_tree d))
  product_prints (g.product a g.no_factor) = unary_prints a
  product_prints (g.product a (g.factor s b more)) =
      let x : Expr = trees.unary_tree a in
      let os : List Operand = trees.factors_tree (g.factor s b more) in
      let ms : Factors = factors_of (map operand_forms os) in
      let w : ProductWay = g.product (forms x).unary ms in
      let u : List ℕ = operands_text 6 (map operand os) in
      along (forms (tree.Product x os)) (of_product w) (bare (tree.Product x os)) (piece 5 (placed (bare x) 6 ++ u)) (forms-Product x os) (laws.bare-Product x os)
      (prints_product w (placed (bare x) 6 ++ u) (two (text.unary_text (forms x).unary) (text.factors_text ms) (placed (bare x) 6) u (unary_prints a).unary_is (factors_prints (g.factor s b more))))

  pub factors_prints : (d : Factors) (t : List ℕ) → text.factors_text (factors_of (map operand_forms (trees.factors_tree d))) t ≡ operands_text 6 (map operand (trees.factors_tree d)) ++ t
  factors_prints g.no_factor t = refl
  factors_prints (g.factor s a more) t =
      let x : Expr = trees.unary_tree a in
      let o : Operand = record { sign = trees.product_operator s; expr = x } in
      let ms : Factors = factors_of (map operand_forms (trees.factors_tree more)) in
      let u : List ℕ = operands_text 6 (map operand (trees.factors_tree more)) in
      ap (λ (z : Sign × Forms). text.factors_text (g.factor (as_product z.0) z.1.unary ms) t) (form.operand_is o)
      ∙ ap (λ (k : ProductSign). text.factors_text (g.factor k (forms x).unary ms) t) (as_product_again s)
      ∙ factor_text s (forms x) (bare x) ms u (unary_prints a) (factors_prints more) t
      ∙ ap (λ (z : Sign × Piece). operand_text 6 z ++ u ++ t) (sym (laws.operand_is o))

  pub unary_prints : (d : UnaryWay) → Prints (forms (trees.unary_tree d)) (bare (trees.unary_tree d))
  unary_prints (g.unsigned p) = postfix_prints p
  unary_prints (g.signed s p) =
      let o : Sign = trees.unary_operator s in
      let x : Expr = trees.postfix_tree p in
      let w : UnaryWay = g.signed (as_unary o) (forms x).postfix in
      let u : List ℕ = sign_text o ++ placed (bare x) 7 in
      along (forms (tree.Unary o x)) (of_unary w) (bare (tree.Unary o x)) (piece 6 u) (forms-Unary o x) (laws.bare-Unary o x)
      (prints_unary w u (λ t. ap (λ (k : UnarySign). text.unary_text (g.signed k (forms x).postfix) t) (as_unary_again s) ∙ unary_text s (forms x) (bare x) (postfix_prints p) t))

  pub postfix_prints : (d : PostfixWay) → Prints (forms (trees.postfix_tree d)) (bare (trees.postfix_tree d))
  postfix_prints (g.postfix p g.no_step) = primary_prints p
  postfix_prints (g.postfix p (g.field x more)) =
      let ss : List PathStep = trees.steps_tree (g.field x more) in
      let e : Expr = trees.primary_tree p in
      let ms : Steps = steps_of (map step_forms ss) in
      let w : PostfixWay = g.postfix (forms e).primary ms in
      let u : List ℕ = print.steps_text (map path_step_text ss) in
      along (forms (tree.Path e ss)) (of_postfix w) (bare (tree.Path e ss)) (piece 7 (placed (bare e) 8 ++ u)) (forms-Path e ss) (laws.bare-Path e ss)
      (prints_postfix w (placed (bare e) 8 ++ u) (two (text.primary_text (forms e).primary) (text.steps_text ms) (placed (bare e) 8) u (primary_prints p).primary_is (steps_prints (g.field x more))))
  postfix_prints (g.postfix p (g.at x more)) =
      let ss : List PathStep = trees.steps_tree (g.at x more) in
      let e : Expr = trees.primary_tree p in
      let ms : Steps = steps_of (map step_forms ss) in
      let w : PostfixWay = g.postfix (forms e).primary ms in
      let u : List ℕ = print.steps_text (map path_step_text ss) in
      along (forms (tree.Path e ss)) (of_postfix w) (bare (tree.Path e ss)) (piece 7 (placed (bare e) 8 ++ u)) (forms-Path e ss) (laws.bare-Path e ss)
      (prints_postfix w (placed (bare e) 8 ++ u) (two (text.primary_text (forms e).primary) (text.steps_text ms) (placed (bare e) 8) u (primary_prints p).primary_is (steps_prints (g.at x more))))

  pub steps_prints : (d : Steps) (t : List ℕ) → text.steps_text (steps_of (map step_forms (trees.steps_tree d))) t ≡ print.steps_text (map path_step_text (trees.steps_tree d)) ++ t
  steps_prints g.no_step t = refl
  steps_prints (g.field x more) t =
      let ms : Steps = steps_of (map step_forms (trees.steps_tree more)) in
      let u : List ℕ = print.steps_text (map path_step_text (trees.steps_tree more)) in
      ap (λ (h : Steps → Steps). text.steps_text (h ms) t) (step_forms-Field x)
      ∙ field_text x ms u (steps_prints more) t
      ∙ ap (λ (h : List ℕ). h ++ u ++ t) (sym (laws.path-Field x))
  steps_prints (g.at e more) t =
      let x : Expr = trees.expr_tree e in
      let ms : Steps = steps_of (map step_forms (trees.steps_tree more)) in
      let u : List ℕ = print.steps_text (map path_step_text (trees.steps_tree more)) in
      ap (λ (h : Steps → Steps). text.steps_text (h ms) t) (step_forms-At x)
      ∙ at_text (forms x) (bare x) ms u (expr_prints e) (steps_prints more) t
      ∙ ap (λ (h : List ℕ). h ++ u ++ t) (sym (laws.path-At x))

  pub primary_prints : (d : PrimaryWay) → Prints (forms (trees.primary_tree d)) (bare (trees.primary_tree d))
  primary_prints (g.number n) = along (forms (tree.Int n)) (of_primary (g.number n)) (bare (tree.Int n)) (piece 8 (signed_decimal n)) (forms-Int n) (laws.bare-Int n) (prints_primary (g.number n) (signed_decimal n) (λ t. refl))
  primary_prints (g.quoted x) = along (forms (tree.Quoted x)) (of_primary (g.quoted x)) (bare (tree.Quoted x)) (piece 8 (quoted_text x)) (forms-Quoted x) (laws.bare-Quoted x) (prints_primary (g.quoted x) (quoted_text x) (λ t. ap (λ r. r ++ t) (quoted_same x)))
  primary_prints g.true_word = along (forms (tree.Bool true)) (of_primary (g.true_word)) (bare (tree.Bool true)) (piece 8 (codes "true")) (forms-Bool true) (laws.bare-Bool true) (prints_primary (g.true_word) (codes "true") (λ t. refl))
  primary_prints g.false_word = along (forms (tree.Bool false)) (of_primary (g.false_word)) (bare (tree.Bool false)) (piece 8 (codes "false")) (forms-Bool false) (laws.bare-Bool false) (prints_primary (g.false_word) (codes "false") (λ t. refl))
  primary_prints g.null_word = along (forms (tree.Null)) (of_primary (g.null_word)) (bare (tree.Null)) (piece 8 (codes "null")) (forms-Null) (laws.bare-Null) (prints_primary (g.null_word) (codes "null") (λ t. refl))
  primary_prints (g.name x) = along (forms (tree.Name x)) (of_primary (g.name x)) (bare (tree.Name x)) (piece 8 (x)) (forms-Name x) (laws.bare-Name x) (prints_primary (g.name x) (x) (λ t. refl))
  primary_prints (g.call1 f is a) =
      let x : Expr = trees.expr_tree a in
      let es : List Expr = x ∷ [] in
      let w : PrimaryWay = call_of f (arity f) refl (map forms es) in
      let u : List ℕ = function_name f ++ codes "(" ++ parts_text (codes ", ") 0 (map bare es) ++ codes ")" in
      along (forms (tree.Call f es)) (of_primary w) (bare (tree.Call f es)) (piece 8 u) (forms-Call f es) (laws.bare-Call f es)
      (prints_primary w u (call1_text f (arity f) refl is (forms x) (bare x) (expr_prints a)))
  primary_prints (g.call2 f is a b) =
      let x : Expr = trees.expr_tree a in
      let y : Expr = trees.expr_tree b in
      let es : List Expr = x ∷ y ∷ [] in
      let w : PrimaryWay = call_of f (arity f) refl (map forms es) in
      let u : List ℕ = function_name f ++ codes "(" ++ parts_text (codes ", ") 0 (map bare es) ++ codes ")" in
      along (forms (tree.Call f es)) (of_primary w) (bare (tree.Call f es)) (piece 8 u) (forms-Call f es) (laws.bare-Call f es)
      (prints_primary w u (call2_text f (arity f) refl is (forms x) (forms y) (bare x) (bare y) (expr_prints a) (expr_prints b)))
  primary_prints (g.call3 f is a b c) =
      let x : Expr = trees.expr_tree a in
      let y : Expr = trees.expr_tree b in
      let z : Expr = trees.expr_tree c in
      let es : List Expr = x ∷ y ∷ z ∷ [] in
      let w : PrimaryWay = call_of f (arity f) refl (map forms es) in
      let u : List ℕ = function_name f ++ codes "(" ++ parts_text (codes ", ") 0 (map bare es) ++ codes ")" in
      along (forms (tree.Call f es)) (of_primary w) (bare (tree.Call f es)) (piece 8 u) (forms-Call f es) (laws.bare-Call f es)
      (prints_primary w u (call3_text f (arity f) refl is (forms x) (forms y) (forms z) (bare x) (bare y) (bare z) (expr_prints a) (expr_prints b) (expr_prints c)))
  primary_prints (g.fetch e) =
      let x : Expr = trees.expr_tree e in
      let w : PrimaryWay = g.fetch (forms x).expr in
      let u : List ℕ = codes "fetch(" ++ placed (bare x) 0 ++ codes ")" in
      along (forms (tree.Fetch x)) (of_primary w) (bare (tree.Fetch x)) (piece 8 u) (forms-Fetch x) (laws.bare-Fetch x) (prints_primary w u (fetch_text (forms x) (bare x) (expr_prints e)))
  primary_prints (g.round e) = expr_prints e
  primary_prints g.no_items = along (forms (tree.List [])) (of_primary (g.no_items)) (bare (tree.List [])) (piece 8 (codes "[]")) (forms-List []) (laws.bare-List []) (prints_primary (g.no_items) (codes "[]") (λ t. refl))
  primary_prints (g.items e more) =
      let x : Expr = trees.expr_tree e in
      let es : List Expr = trees.items_tree more in
      let ms : Items = items_of (map forms es) in
      let w : PrimaryWay = list_of (map forms (x ∷ es)) in
      let v : List ℕ = each_after (codes ", ") (map (λ p. placed p 0) (map bare es)) in
      let u : List ℕ = codes "[" ++ (placed (bare x) 0 ++ v) ++ codes "]" in
      along (forms (tree.List (x ∷ es))) (of_primary w) (bare (tree.List (x ∷ es))) (piece 8 u) (forms-List (x ∷ es)) (laws.bare-List (x ∷ es))
      (prints_primary w u (enclosed (codes "[") (codes "]") (placed (bare x) 0) v (text.expr_text (forms x).expr) (text.items_text ms) (expr_prints e).expr_is (items_prints more)))
  primary_prints g.no_pairs = along (forms (tree.Rec [])) (of_primary (g.no_pairs)) (bare (tree.Rec [])) (piece 8 (codes "{}")) (forms-Rec []) (laws.bare-Rec []) (prints_primary (g.no_pairs) (codes "{}") (λ t. refl))
  primary_prints (g.pairs q more) =
      let k : Member = trees.pair_tree q in
      let ks : List Member = trees.pairs_tree more in
      let ms : Pairs = pairs_of (map member_forms ks) in
      let w : PrimaryWay = record_of (map member_forms (k ∷ ks)) in
      let v : List ℕ = each_after (codes ", ") (map member_text ks) in
      let u : List ℕ = codes "{" ++ (member_text k ++ v) ++ codes "}" in
      along (forms (tree.Rec (k ∷ ks))) (of_primary w) (bare (tree.Rec (k ∷ ks))) (piece 8 u) (forms-Rec (k ∷ ks)) (laws.bare-Rec (k ∷ ks))
      (prints_primary w u (enclosed (codes "{") (codes "}") (member_text k) v (text.pair_text (g.pair (g.quoted_key (member_forms k).0) (member_forms k).1.expr)) (text.pairs_text ms) (pair_prints q) (pairs_prints more)))

  pub items_prints : (d : Items) (t : List ℕ)
      → text.items_text (items_of (map forms (trees.items_tree d))) t ≡ each_after (codes ", ") (map (λ p. placed p 0) (map bare (trees.items_tree d))) ++ t
  items_prints g.no_item t = refl
  items_prints (g.item e more) t =
      let x : Expr = trees.expr_tree e in
      let es : List Expr = trees.items_tree more in
      item_text (forms x) (bare x) (items_of (map forms es)) (each_after (codes ", ") (map (λ p. placed p 0) (map bare es))) (expr_prints e) (items_prints more) t

  pub pairs_prints : (d : Pairs) (t : List ℕ) → text.pairs_text (pairs_of (map member_forms (trees.pairs_tree d))) t ≡ each_after (codes ", ") (map member_text (trees.pairs_tree d)) ++ t
  pairs_prints g.no_pair t = refl
  pairs_prints (g.next_pair q more) t =
      let k : Member = trees.pair_tree q in
      let ks : List Member = trees.pairs_tree more in
      ap (λ r. codes ", " ++ r) (two (text.pair_text (g.pair (g.quoted_key (member_forms k).0) (member_forms k).1.expr)) (text.pairs_text (pairs_of (map member_forms ks)))
      (member_text k) (each_after (codes ", ") (map member_text ks)) (pair_prints q) (pairs_prints more) t)

  pub pair_prints : (d : PairWay) (t : List ℕ)
      → text.pair_text (g.pair (g.quoted_key (member_forms (trees.pair_tree d)).0) (member_forms (trees.pair_tree d)).1.expr) t ≡ member_text (trees.pair_tree d) ++ t
  pair_prints (g.pair k e) t =
      let x : Expr = trees.expr_tree e in
      let key : List ℕ = trees.key_text k in
      let m : Member = trees.pair_tree (g.pair k e) in
      ap (λ (z : List ℕ × Forms). text.pair_text (g.pair (g.quoted_key z.0) z.1.expr) t) (form.member_is m)
      ∙ member_start key (forms x) (bare x) (expr_prints e) t
      ∙ ap (λ (h : List ℕ). h ++ t) (sym (laws.member_is m))
