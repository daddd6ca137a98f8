-- The tree that a way spells, and its depth in brackets.
use Rattle.std.specs.Prelude.{true, false, ℕ, suc, max, List, [], ◌∷◌, Option, Some, None}
use Rattle.nb_syntax.specs.declared.tree.Sign.{Sign}
use Rattle.nb_syntax.specs.declared.tree.Sign.TheVariants as sign
use Rattle.nb_syntax.specs.declared.tree.Expr.{Expr}
use Rattle.nb_syntax.specs.declared.tree.Expr.TheVariants as tree
use Rattle.nb_syntax.specs.declared.tree.PathStep.{PathStep}
use Rattle.nb_syntax.specs.declared.tree.PathStep.TheVariants as path
use Rattle.nb_syntax.specs.declared.tree.Operand.{Operand}
use Rattle.nb_syntax.specs.declared.tree.Member.{Member}
use Rattle.nb_syntax.specs.declared.tree.Block.{Block}
use Rattle.nb_syntax.specs.declared.tree.Arm.{Arm}
use Rattle.nb_syntax.specs.declared.tree.Stmt.{Stmt}
use Rattle.nb_syntax.specs.declared.tree.Stmt.TheVariants as stmt
use Rattle.nb_syntax.specs.declared.tree.Body.{Body}
use Rattle.nb_syntax.specs.declared.tree.Body.TheVariants as body
use Rattle.nb_syntax.specs.declared.tree.Cell.{Cell}
use Rattle.nb_grammar.specs.Grammar.{CompareSign, SumSign, ProductSign, UnarySign, KeyWay, ExprWay, OrWay, OrParts, AndWay, AndParts, CompareWay, SumWay, Summands, ProductWay, Factors, UnaryWay, PostfixWay, Steps, PrimaryWay, Items, Pairs, PairWay, BlockWay, Stmts, StmtWay, ElseIfs, ElseWay, BodyWay, CellWay, equal, not_equal, less, less_or_equal, greater, greater_or_equal, plus, minus, times, divide, remainder, negative, not, name_key, quoted_key, plain, choose, or, no_or_part, or_part, and, no_and_part, and_part, single, compare, sum, no_summand, summand, product, no_factor, factor, unsigned, signed, postfix, no_step, field, at, number, quoted, true_word, false_word, null_word, name, call1, call2, call3, fetch, round, no_items, items, no_pairs, pairs, no_item, item, no_pair, next_pair, pair, block, no_stmt, next_stmt, let_stmt, assign_stmt, if_stmt, while_stmt, for_stmt, yield_stmt, return_stmt, throw_stmt, cleanup_stmt, no_else_if, else_if, no_else, else_block, block_body, expr_body, unnamed, named}

-- What stands alone leaves no node.
abbrev pub path_of : Expr → List PathStep → Expr
path_of e [] = e
path_of e (s ∷ ss) = tree.Path e (s ∷ ss)

abbrev pub product_of : Expr → List Operand → Expr
product_of e [] = e
product_of e (o ∷ os) = tree.Product e (o ∷ os)

abbrev pub sum_of : Expr → List Operand → Expr
sum_of e [] = e
sum_of e (o ∷ os) = tree.Sum e (o ∷ os)

abbrev pub and_of : Expr → List Expr → Expr
and_of e [] = e
and_of e (d ∷ ds) = tree.And (e ∷ d ∷ ds)

abbrev pub or_of : Expr → List Expr → Expr
or_of e [] = e
or_of e (d ∷ ds) = tree.Or (e ∷ d ∷ ds)

abbrev pub compare_operator : CompareSign → Sign
compare_operator equal = sign.Equal
compare_operator not_equal = sign.NotEqual
compare_operator less = sign.Less
compare_operator less_or_equal = sign.LessOrEqual
compare_operator greater = sign.Greater
compare_operator greater_or_equal = sign.GreaterOrEqual

abbrev pub sum_operator : SumSign → Sign
sum_operator plus = sign.Plus
sum_operator minus = sign.Minus

abbrev pub product_operator : ProductSign → Sign
product_operator times = sign.Times
product_operator divide = sign.Divide
product_operator remainder = sign.Remainder

abbrev pub unary_operator : UnarySign → Sign
unary_operator negative = sign.Minus
unary_operator not = sign.Not

abbrev pub key_text : KeyWay → List ℕ
key_text (name_key x) = x
key_text (quoted_key x) = x

-- The tree that it spells. What stands alone, and brackets round an expression, leave no node.
abbrev mutual
  pub expr_tree : ExprWay → Expr
  expr_tree (plain o) = or_tree o
  expr_tree (choose c a b) = tree.Choose (or_tree c) (or_tree a) (or_tree b)

  pub or_tree : OrWay → Expr
  or_tree (or a more) = or_of (and_tree a) (or_parts_tree more)

  pub or_parts_tree : OrParts → List Expr
  or_parts_tree no_or_part = []
  or_parts_tree (or_part a more) = and_tree a ∷ or_parts_tree more

  pub and_tree : AndWay → Expr
  and_tree (and c more) = and_of (compare_tree c) (and_parts_tree more)

  pub and_parts_tree : AndParts → List Expr
  and_parts_tree no_and_part = []
  and_parts_tree (and_part c more) = compare_tree c ∷ and_parts_tree more

  pub compare_tree : CompareWay → Expr
  compare_tree (single s) = sum_tree s
  compare_tree (compare c s t) = tree.Compare (compare_operator c) (sum_tree s) (sum_tree t)

  pub sum_tree : SumWay → Expr
  sum_tree (sum p more) = sum_of (product_tree p) (summands_tree more)

  pub summands_tree : Summands → List Operand
  summands_tree no_summand = []
  summands_tree (summand s p more) = record { sign = sum_operator s; expr = product_tree p } ∷ summands_tree more

  pub product_tree : ProductWay → Expr
  product_tree (product u more) = product_of (unary_tree u) (factors_tree more)

  pub factors_tree : Factors → List Operand
  factors_tree no_factor = []
  factors_tree (factor s u more) = record { sign = product_operator s; expr = unary_tree u } ∷ factors_tree more

  pub unary_tree : UnaryWay → Expr
  unary_tree (unsigned p) = postfix_tree p
  unary_tree (signed s p) = tree.Unary (unary_operator s) (postfix_tree p)

  pub postfix_tree : PostfixWay → Expr
  postfix_tree (postfix p more) = path_of (primary_tree p) (steps_tree more)

  pub steps_tree : Steps → List PathStep
  steps_tree no_step = []
  steps_tree (field x more) = path.Field x ∷ steps_tree more
  steps_tree (at e more) = path.At (expr_tree e) ∷ steps_tree more

  pub primary_tree : PrimaryWay → Expr
  primary_tree (number n) = tree.Int n
  primary_tree (quoted x) = tree.Quoted x
  primary_tree true_word = tree.Bool true
  primary_tree false_word = tree.Bool false
  primary_tree null_word = tree.Null
  primary_tree (name x) = tree.Name x
  primary_tree (call1 f one a) = tree.Call f (expr_tree a ∷ [])
  primary_tree (call2 f two a b) = tree.Call f (expr_tree a ∷ expr_tree b ∷ [])
  primary_tree (call3 f three a b c) = tree.Call f (expr_tree a ∷ expr_tree b ∷ expr_tree c ∷ [])
  primary_tree (fetch e) = tree.Fetch (expr_tree e)
  primary_tree (round e) = expr_tree e
  primary_tree no_items = tree.List []
  primary_tree (items e more) = tree.List (expr_tree e ∷ items_tree more)
  primary_tree no_pairs = tree.Rec []
  primary_tree (pairs p more) = tree.Rec (pair_tree p ∷ pairs_tree more)

  pub items_tree : Items → List Expr
  items_tree no_item = []
  items_tree (item e more) = expr_tree e ∷ items_tree more

  pub pairs_tree : Pairs → List Member
  pairs_tree no_pair = []
  pairs_tree (next_pair p more) = pair_tree p ∷ pairs_tree more

  pub pair_tree : PairWay → Member
  pair_tree (pair k e) = record { key = key_text k; value = expr_tree e }

abbrev mutual
  pub block_tree : BlockWay → Block
  block_tree (block more) = record { stmts = stmts_tree more }

  pub stmts_tree : Stmts → List Stmt
  stmts_tree no_stmt = []
  stmts_tree (next_stmt s more) = stmt_tree s ∷ stmts_tree more

  pub stmt_tree : StmtWay → Stmt
  stmt_tree (let_stmt x e) = stmt.Let x (expr_tree e)
  stmt_tree (assign_stmt x e) = stmt.Assign x (expr_tree e)
  stmt_tree (if_stmt e b more other) = stmt.If (record { test = expr_tree e; body = block_tree b } ∷ else_ifs_tree more) (else_tree other)
  stmt_tree (while_stmt e b) = stmt.While (expr_tree e) (block_tree b)
  stmt_tree (for_stmt x e b) = stmt.For x (expr_tree e) (block_tree b)
  stmt_tree (yield_stmt e) = stmt.Yield (expr_tree e)
  stmt_tree (return_stmt e) = stmt.Return (expr_tree e)
  stmt_tree (throw_stmt e) = stmt.Throw (expr_tree e)
  stmt_tree (cleanup_stmt e) = stmt.Cleanup (expr_tree e)

  pub else_ifs_tree : ElseIfs → List Arm
  else_ifs_tree no_else_if = []
  else_ifs_tree (else_if e b more) = record { test = expr_tree e; body = block_tree b } ∷ else_ifs_tree more

  pub else_tree : ElseWay → Option Block
  else_tree no_else = None
  else_tree (else_block b) = Some (block_tree b)

abbrev pub body_tree : BodyWay → Body
body_tree (block_body s more) = body.Block (record { stmts = stmt_tree s ∷ stmts_tree more })
body_tree (expr_body e) = body.Expr (expr_tree e)

abbrev pub cell_tree : CellWay → Cell
cell_tree (unnamed b) = record { name = None; body = body_tree b }
cell_tree (named x b) = record { name = Some x; body = body_tree b }

-- How many brackets are open where most are.
abbrev mutual
  pub expr_depth : ExprWay → ℕ
  expr_depth (plain o) = or_depth o
  expr_depth (choose c a b) = max (or_depth c) (max (or_depth a) (or_depth b))

  pub or_depth : OrWay → ℕ
  or_depth (or a more) = max (and_depth a) (or_parts_depth more)

  pub or_parts_depth : OrParts → ℕ
  or_parts_depth no_or_part = 0
  or_parts_depth (or_part a more) = max (and_depth a) (or_parts_depth more)

  pub and_depth : AndWay → ℕ
  and_depth (and c more) = max (compare_depth c) (and_parts_depth more)

  pub and_parts_depth : AndParts → ℕ
  and_parts_depth no_and_part = 0
  and_parts_depth (and_part c more) = max (compare_depth c) (and_parts_depth more)

  pub compare_depth : CompareWay → ℕ
  compare_depth (single s) = sum_depth s
  compare_depth (compare c s t) = max (sum_depth s) (sum_depth t)

  pub sum_depth : SumWay → ℕ
  sum_depth (sum p more) = max (product_depth p) (summands_depth more)

  pub summands_depth : Summands → ℕ
  summands_depth no_summand = 0
  summands_depth (summand s p more) = max (product_depth p) (summands_depth more)

  pub product_depth : ProductWay → ℕ
  product_depth (product u more) = max (unary_depth u) (factors_depth more)

  pub factors_depth : Factors → ℕ
  factors_depth no_factor = 0
  factors_depth (factor s u more) = max (unary_depth u) (factors_depth more)

  pub unary_depth : UnaryWay → ℕ
  unary_depth (unsigned p) = postfix_depth p
  unary_depth (signed s p) = postfix_depth p

  pub postfix_depth : PostfixWay → ℕ
  postfix_depth (postfix p more) = max (primary_depth p) (steps_depth more)

  pub steps_depth : Steps → ℕ
  steps_depth no_step = 0
  steps_depth (field x more) = steps_depth more
  steps_depth (at e more) = max (suc (expr_depth e)) (steps_depth more)

  pub primary_depth : PrimaryWay → ℕ
  primary_depth (number n) = 0
  primary_depth (quoted x) = 0
  primary_depth true_word = 0
  primary_depth false_word = 0
  primary_depth null_word = 0
  primary_depth (name x) = 0
  primary_depth (call1 f one a) = suc (expr_depth a)
  primary_depth (call2 f two a b) = suc (max (expr_depth a) (expr_depth b))
  primary_depth (call3 f three a b c) = suc (max (expr_depth a) (max (expr_depth b) (expr_depth c)))
  primary_depth (fetch e) = suc (expr_depth e)
  primary_depth (round e) = suc (expr_depth e)
  primary_depth no_items = 1
  primary_depth (items e more) = suc (max (expr_depth e) (items_depth more))
  primary_depth no_pairs = 1
  primary_depth (pairs p more) = suc (max (pair_depth p) (pairs_depth more))

  pub items_depth : Items → ℕ
  items_depth no_item = 0
  items_depth (item e more) = max (expr_depth e) (items_depth more)

  pub pairs_depth : Pairs → ℕ
  pairs_depth no_pair = 0
  pairs_depth (next_pair p more) = max (pair_depth p) (pairs_depth more)

  pub pair_depth : PairWay → ℕ
  pair_depth (pair k e) = expr_depth e

abbrev mutual
  pub block_depth : BlockWay → ℕ
  block_depth (block more) = suc (stmts_depth more)

  pub stmts_depth : Stmts → ℕ
  stmts_depth no_stmt = 0
  stmts_depth (next_stmt s more) = max (stmt_depth s) (stmts_depth more)

  pub stmt_depth : StmtWay → ℕ
  stmt_depth (let_stmt x e) = expr_depth e
  stmt_depth (assign_stmt x e) = expr_depth e
  stmt_depth (if_stmt e b more other) = max (max (suc (expr_depth e)) (block_depth b)) (max (else_ifs_depth more) (else_depth other))
  stmt_depth (while_stmt e b) = max (suc (expr_depth e)) (block_depth b)
  stmt_depth (for_stmt x e b) = max (suc (expr_depth e)) (block_depth b)
  stmt_depth (yield_stmt e) = expr_depth e
  stmt_depth (return_stmt e) = expr_depth e
  stmt_depth (throw_stmt e) = expr_depth e
  stmt_depth (cleanup_stmt e) = expr_depth e

  pub else_ifs_depth : ElseIfs → ℕ
  else_ifs_depth no_else_if = 0
  else_ifs_depth (else_if e b more) = max (max (suc (expr_depth e)) (block_depth b)) (else_ifs_depth more)

  pub else_depth : ElseWay → ℕ
  else_depth no_else = 0
  else_depth (else_block b) = block_depth b

abbrev pub body_depth : BodyWay → ℕ
body_depth (block_body s more) = suc (max (stmt_depth s) (stmts_depth more))
body_depth (expr_body e) = expr_depth e

abbrev pub cell_depth : CellWay → ℕ
cell_depth (unnamed b) = body_depth b
cell_depth (named x b) = body_depth b
