-- The words with those behind them are no fewer than those behind them.
use Rattle.std.proofs.Common.{◌≤◌, List, ◌∷◌, length, arith}
use Rattle.nb_lexer.specs.declared.word.Word.{Word}
use Rattle.nb_lexer.specs.declared.word.Word.TheVariants as word
use Rattle.nb_grammar.specs.Grammar as g
use Rattle.nb_grammar.specs.Grammar.{ExprWay, OrWay, OrParts, AndWay, AndParts, CompareWay, SumWay, Summands, ProductWay, Factors, UnaryWay, PostfixWay, Steps, PrimaryWay, Items, Pairs, PairWay, BlockWay, Stmts, StmtWay, ElseIfs, ElseWay, BodyWay, CellWay}

mutual
  pub expr_grows : (d : ExprWay) (ws : List Word) → length ws ≤ length (g.expr_words d ws)
  expr_grows (g.plain o) ws = or_grows o ws
  expr_grows (g.choose c a b) ws = omega (arith, or_grows c (word.Question ∷ g.or_words a (word.Colon ∷ g.or_words b ws)), or_grows a (word.Colon ∷ g.or_words b ws), or_grows b ws)

  pub or_grows : (d : OrWay) (ws : List Word) → length ws ≤ length (g.or_words d ws)
  or_grows (g.or a more) ws = omega (arith, and_grows a (g.or_parts_words more ws), or_parts_grows more ws)

  pub or_parts_grows : (d : OrParts) (ws : List Word) → length ws ≤ length (g.or_parts_words d ws)
  or_parts_grows g.no_or_part ws = omega arith
  or_parts_grows (g.or_part a more) ws = omega (arith, and_grows a (g.or_parts_words more ws), or_parts_grows more ws)

  pub and_grows : (d : AndWay) (ws : List Word) → length ws ≤ length (g.and_words d ws)
  and_grows (g.and c more) ws = omega (arith, compare_grows c (g.and_parts_words more ws), and_parts_grows more ws)

  pub and_parts_grows : (d : AndParts) (ws : List Word) → length ws ≤ length (g.and_parts_words d ws)
  and_parts_grows g.no_and_part ws = omega arith
  and_parts_grows (g.and_part c more) ws = omega (arith, compare_grows c (g.and_parts_words more ws), and_parts_grows more ws)

  pub compare_grows : (d : CompareWay) (ws : List Word) → length ws ≤ length (g.compare_words d ws)
  compare_grows (g.single s) ws = sum_grows s ws
  compare_grows (g.compare c s t) ws = omega (arith, sum_grows s (g.compare_word c ∷ g.sum_words t ws), sum_grows t ws)

  pub sum_grows : (d : SumWay) (ws : List Word) → length ws ≤ length (g.sum_words d ws)
  sum_grows (g.sum p more) ws = omega (arith, product_grows p (g.summands_words more ws), summands_grows more ws)

  pub summands_grows : (d : Summands) (ws : List Word) → length ws ≤ length (g.summands_words d ws)
  summands_grows g.no_summand ws = omega arith
  summands_grows (g.summand s p more) ws = omega (arith, product_grows p (g.summands_words more ws), summands_grows more ws)

  pub product_grows : (d : ProductWay) (ws : List Word) → length ws ≤ length (g.product_words d ws)
  product_grows (g.product u more) ws = omega (arith, unary_grows u (g.factors_words more ws), factors_grows more ws)

  pub factors_grows : (d : Factors) (ws : List Word) → length ws ≤ length (g.factors_words d ws)
  factors_grows g.no_factor ws = omega arith
  factors_grows (g.factor s u more) ws = omega (arith, unary_grows u (g.factors_words more ws), factors_grows more ws)

  pub unary_grows : (d : UnaryWay) (ws : List Word) → length ws ≤ length (g.unary_words d ws)
  unary_grows (g.unsigned p) ws = postfix_grows p ws
  unary_grows (g.signed s p) ws = omega (arith, postfix_grows p ws)

  pub postfix_grows : (d : PostfixWay) (ws : List Word) → length ws ≤ length (g.postfix_words d ws)
  postfix_grows (g.postfix p more) ws = omega (arith, primary_grows p (g.steps_words more ws), steps_grows more ws)

  pub steps_grows : (d : Steps) (ws : List Word) → length ws ≤ length (g.steps_words d ws)
  steps_grows g.no_step ws = omega arith
  steps_grows (g.field x more) ws = omega (arith, steps_grows more ws)
  steps_grows (g.at e more) ws = omega (arith, expr_grows e (word.CloseSquare ∷ g.steps_words more ws), steps_grows more ws)

  pub primary_grows : (d : PrimaryWay) (ws : List Word) → length ws ≤ length (g.primary_words d ws)
  primary_grows (g.number n) ws = omega arith
  primary_grows (g.quoted x) ws = omega arith
  primary_grows g.true_word ws = omega arith
  primary_grows g.false_word ws = omega arith
  primary_grows g.null_word ws = omega arith
  primary_grows (g.name x) ws = omega arith
  primary_grows (g.call1 f is a) ws = omega (arith, expr_grows a (word.CloseRound ∷ ws))
  primary_grows (g.call2 f is a b) ws = omega (arith, expr_grows a (word.Comma ∷ g.expr_words b (word.CloseRound ∷ ws)), expr_grows b (word.CloseRound ∷ ws))
  primary_grows (g.call3 f is a b c) ws = omega (arith, expr_grows a (word.Comma ∷ g.expr_words b (word.Comma ∷ g.expr_words c (word.CloseRound ∷ ws))), expr_grows b (word.Comma ∷ g.expr_words c (word.CloseRound ∷ ws)), expr_grows c (word.CloseRound ∷ ws))
  primary_grows (g.fetch e) ws = omega (arith, expr_grows e (word.CloseRound ∷ ws))
  primary_grows (g.round e) ws = omega (arith, expr_grows e (word.CloseRound ∷ ws))
  primary_grows g.no_items ws = omega arith
  primary_grows (g.items e more) ws = omega (arith, expr_grows e (g.items_words more (word.CloseSquare ∷ ws)), items_grows more (word.CloseSquare ∷ ws))
  primary_grows g.no_pairs ws = omega arith
  primary_grows (g.pairs p more) ws = omega (arith, pair_grows p (g.pairs_words more (word.CloseCurly ∷ ws)), pairs_grows more (word.CloseCurly ∷ ws))

  pub items_grows : (d : Items) (ws : List Word) → length ws ≤ length (g.items_words d ws)
  items_grows g.no_item ws = omega arith
  items_grows (g.item e more) ws = omega (arith, expr_grows e (g.items_words more ws), items_grows more ws)

  pub pairs_grows : (d : Pairs) (ws : List Word) → length ws ≤ length (g.pairs_words d ws)
  pairs_grows g.no_pair ws = omega arith
  pairs_grows (g.next_pair p more) ws = omega (arith, pair_grows p (g.pairs_words more ws), pairs_grows more ws)

  pub pair_grows : (d : PairWay) (ws : List Word) → length ws ≤ length (g.pair_words d ws)
  pair_grows (g.pair k e) ws = omega (arith, expr_grows e ws)

mutual
  pub block_grows : (d : BlockWay) (ws : List Word) → length ws ≤ length (g.block_words d ws)
  block_grows (g.block more) ws = omega (arith, stmts_grows more (word.CloseCurly ∷ ws))

  pub stmts_grows : (d : Stmts) (ws : List Word) → length ws ≤ length (g.stmts_words d ws)
  stmts_grows g.no_stmt ws = omega arith
  stmts_grows (g.next_stmt s more) ws = omega (arith, stmt_grows s (g.stmts_words more ws), stmts_grows more ws)

  pub stmt_grows : (d : StmtWay) (ws : List Word) → length ws ≤ length (g.stmt_words d ws)
  stmt_grows (g.let_stmt x e) ws = omega (arith, expr_grows e (word.Semicolon ∷ ws))
  stmt_grows (g.assign_stmt x e) ws = omega (arith, expr_grows e (word.Semicolon ∷ ws))
  stmt_grows (g.if_stmt e b more other) ws = omega (arith, expr_grows e (word.CloseRound ∷ g.block_words b (g.else_ifs_words more (g.else_words other ws))), block_grows b (g.else_ifs_words more (g.else_words other ws)), else_ifs_grows more (g.else_words other ws), else_grows other ws)
  stmt_grows (g.while_stmt e b) ws = omega (arith, expr_grows e (word.CloseRound ∷ g.block_words b ws), block_grows b ws)
  stmt_grows (g.for_stmt x e b) ws = omega (arith, expr_grows e (word.CloseRound ∷ g.block_words b ws), block_grows b ws)
  stmt_grows (g.yield_stmt e) ws = omega (arith, expr_grows e (word.Semicolon ∷ ws))
  stmt_grows (g.return_stmt e) ws = omega (arith, expr_grows e (word.Semicolon ∷ ws))
  stmt_grows (g.throw_stmt e) ws = omega (arith, expr_grows e (word.Semicolon ∷ ws))
  stmt_grows (g.cleanup_stmt e) ws = omega (arith, expr_grows e (word.Semicolon ∷ ws))

  pub else_ifs_grows : (d : ElseIfs) (ws : List Word) → length ws ≤ length (g.else_ifs_words d ws)
  else_ifs_grows g.no_else_if ws = omega arith
  else_ifs_grows (g.else_if e b more) ws = omega (arith, expr_grows e (word.CloseRound ∷ g.block_words b (g.else_ifs_words more ws)), block_grows b (g.else_ifs_words more ws), else_ifs_grows more ws)

  pub else_grows : (d : ElseWay) (ws : List Word) → length ws ≤ length (g.else_words d ws)
  else_grows g.no_else ws = omega arith
  else_grows (g.else_block b) ws = omega (arith, block_grows b ws)

pub body_grows : (d : BodyWay) (ws : List Word) → length ws ≤ length (g.body_words d ws)
body_grows (g.block_body s more) ws = omega (arith, stmt_grows s (g.stmts_words more (word.CloseCurly ∷ ws)), stmts_grows more (word.CloseCurly ∷ ws))
body_grows (g.expr_body e) ws = expr_grows e ws

pub cell_grows : (d : CellWay) (ws : List Word) → length ws ≤ length (g.cell_words d ws)
cell_grows (g.unnamed b) ws = body_grows b ws
cell_grows (g.named x b) ws = omega (arith, body_grows b ws)
