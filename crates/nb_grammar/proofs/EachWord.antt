-- What is said of each word of a part.
use Rattle.std.proofs.Common.{List, [], ◌∷◌}
use Rattle.nb_value.specs.Function.{function_name}
use Rattle.nb_lexer.specs.declared.word.Word.{Word}
use Rattle.nb_lexer.specs.declared.word.Word.TheVariants as word
use Rattle.nb_grammar.specs.Grammar as g
use Rattle.nb_grammar.specs.Grammar.{ExprWay, OrWay, OrParts, AndWay, AndParts, CompareWay, SumWay, Summands, ProductWay, Factors, UnaryWay, PostfixWay, Steps, PrimaryWay, Items, Pairs, PairWay, BlockWay, Stmts, StmtWay, ElseIfs, ElseWay, BodyWay, CellWay}

-- what is said of each word
abbrev pub Each : (Word → Type 0) → List Word → Type 0
Each P [] = Unit {0}
Each P (w ∷ ws) = P w × Each P ws

abbrev mutual
  pub expr_each : (Word → Type 0) → ExprWay → Type 0
  expr_each P (g.plain o) = or_each P o
  expr_each P (g.choose c a b) = or_each P c × P word.Question × or_each P a × P word.Colon × or_each P b

  pub or_each : (Word → Type 0) → OrWay → Type 0
  or_each P (g.or a more) = and_each P a × or_parts_each P more

  pub or_parts_each : (Word → Type 0) → OrParts → Type 0
  or_parts_each P g.no_or_part = Unit {0}
  or_parts_each P (g.or_part a more) = P word.Or × and_each P a × or_parts_each P more

  pub and_each : (Word → Type 0) → AndWay → Type 0
  and_each P (g.and c more) = compare_each P c × and_parts_each P more

  pub and_parts_each : (Word → Type 0) → AndParts → Type 0
  and_parts_each P g.no_and_part = Unit {0}
  and_parts_each P (g.and_part c more) = P word.And × compare_each P c × and_parts_each P more

  pub compare_each : (Word → Type 0) → CompareWay → Type 0
  compare_each P (g.single s) = sum_each P s
  compare_each P (g.compare c s t) = sum_each P s × P (g.compare_word c) × sum_each P t

  pub sum_each : (Word → Type 0) → SumWay → Type 0
  sum_each P (g.sum p more) = product_each P p × summands_each P more

  pub summands_each : (Word → Type 0) → Summands → Type 0
  summands_each P g.no_summand = Unit {0}
  summands_each P (g.summand s p more) = P (g.sum_word s) × product_each P p × summands_each P more

  pub product_each : (Word → Type 0) → ProductWay → Type 0
  product_each P (g.product u more) = unary_each P u × factors_each P more

  pub factors_each : (Word → Type 0) → Factors → Type 0
  factors_each P g.no_factor = Unit {0}
  factors_each P (g.factor s u more) = P (g.product_word s) × unary_each P u × factors_each P more

  pub unary_each : (Word → Type 0) → UnaryWay → Type 0
  unary_each P (g.unsigned p) = postfix_each P p
  unary_each P (g.signed s p) = P (g.unary_word s) × postfix_each P p

  pub postfix_each : (Word → Type 0) → PostfixWay → Type 0
  postfix_each P (g.postfix p more) = primary_each P p × steps_each P more

  pub steps_each : (Word → Type 0) → Steps → Type 0
  steps_each P g.no_step = Unit {0}
  steps_each P (g.field x more) = P word.Dot × P (word.Name x) × steps_each P more
  steps_each P (g.at e more) = P word.OpenSquare × expr_each P e × P word.CloseSquare × steps_each P more

  pub primary_each : (Word → Type 0) → PrimaryWay → Type 0
  primary_each P (g.number n) = P (word.Number n)
  primary_each P (g.quoted x) = P (word.Quoted x)
  primary_each P g.true_word = P word.True
  primary_each P g.false_word = P word.False
  primary_each P g.null_word = P word.Null
  primary_each P (g.name x) = P (word.Name x)
  primary_each P (g.call1 f is a) = P (word.Name (function_name f)) × P word.OpenRound × expr_each P a × P word.CloseRound
  primary_each P (g.call2 f is a b) = P (word.Name (function_name f)) × P word.OpenRound × expr_each P a × P word.Comma × expr_each P b × P word.CloseRound
  primary_each P (g.call3 f is a b c) = P (word.Name (function_name f)) × P word.OpenRound × expr_each P a × P word.Comma × expr_each P b × P word.Comma × expr_each P c × P word.CloseRound
  primary_each P (g.fetch e) = P word.Fetch × P word.OpenRound × expr_each P e × P word.CloseRound
  primary_each P (g.round e) = P word.OpenRound × expr_each P e × P word.CloseRound
  primary_each P g.no_items = P word.OpenSquare × P word.CloseSquare
  primary_each P (g.items e more) = P word.OpenSquare × expr_each P e × items_each P more × P word.CloseSquare
  primary_each P g.no_pairs = P word.OpenCurly × P word.CloseCurly
  primary_each P (g.pairs p more) = P word.OpenCurly × pair_each P p × pairs_each P more × P word.CloseCurly

  pub items_each : (Word → Type 0) → Items → Type 0
  items_each P g.no_item = Unit {0}
  items_each P (g.item e more) = P word.Comma × expr_each P e × items_each P more

  pub pairs_each : (Word → Type 0) → Pairs → Type 0
  pairs_each P g.no_pair = Unit {0}
  pairs_each P (g.next_pair p more) = P word.Comma × pair_each P p × pairs_each P more

  pub pair_each : (Word → Type 0) → PairWay → Type 0
  pair_each P (g.pair k e) = P (g.key_word k) × P word.Colon × expr_each P e

abbrev mutual
  pub block_each : (Word → Type 0) → BlockWay → Type 0
  block_each P (g.block more) = P word.OpenCurly × stmts_each P more × P word.CloseCurly

  pub stmts_each : (Word → Type 0) → Stmts → Type 0
  stmts_each P g.no_stmt = Unit {0}
  stmts_each P (g.next_stmt s more) = stmt_each P s × stmts_each P more

  pub stmt_each : (Word → Type 0) → StmtWay → Type 0
  stmt_each P (g.let_stmt x e) = P word.Let × P (word.Name x) × P word.Assign × expr_each P e × P word.Semicolon
  stmt_each P (g.assign_stmt x e) = P (word.Name x) × P word.Assign × expr_each P e × P word.Semicolon
  stmt_each P (g.if_stmt e b more other) = P word.If × P word.OpenRound × expr_each P e × P word.CloseRound × block_each P b × else_ifs_each P more × else_each P other
  stmt_each P (g.while_stmt e b) = P word.While × P word.OpenRound × expr_each P e × P word.CloseRound × block_each P b
  stmt_each P (g.for_stmt x e b) = P word.For × P word.OpenRound × P word.Let × P (word.Name x) × P word.Of × expr_each P e × P word.CloseRound × block_each P b
  stmt_each P (g.yield_stmt e) = P word.Yield × expr_each P e × P word.Semicolon
  stmt_each P (g.return_stmt e) = P word.Return × expr_each P e × P word.Semicolon
  stmt_each P (g.throw_stmt e) = P word.Throw × expr_each P e × P word.Semicolon
  stmt_each P (g.cleanup_stmt e) = P word.Cleanup × expr_each P e × P word.Semicolon

  pub else_ifs_each : (Word → Type 0) → ElseIfs → Type 0
  else_ifs_each P g.no_else_if = Unit {0}
  else_ifs_each P (g.else_if e b more) = P word.Else × P word.If × P word.OpenRound × expr_each P e × P word.CloseRound × block_each P b × else_ifs_each P more

  pub else_each : (Word → Type 0) → ElseWay → Type 0
  else_each P g.no_else = Unit {0}
  else_each P (g.else_block b) = P word.Else × block_each P b

abbrev pub body_each : (Word → Type 0) → BodyWay → Type 0
body_each P (g.block_body s more) = P word.OpenCurly × stmt_each P s × stmts_each P more × P word.CloseCurly
body_each P (g.expr_body e) = expr_each P e

abbrev pub cell_each : (Word → Type 0) → CellWay → Type 0
cell_each P (g.unnamed b) = body_each P b
cell_each P (g.named x b) = P (word.Name x) × P word.Assign × body_each P b

mutual
  pub expr_split : (P : Word → Type 0) (d : ExprWay) (ws : List Word) → Each P (g.expr_words d ws) → expr_each P d × Each P ws
  expr_split P (g.plain o) ws h = let s0 = or_split P o ws h in (s0.0, s0.1)
  expr_split P (g.choose c a b) ws h = let s0 = or_split P c (word.Question ∷ g.or_words a (word.Colon ∷ g.or_words b ws)) h in let s2 = or_split P a (word.Colon ∷ g.or_words b ws) s0.1.1 in let s4 = or_split P b ws s2.1.1 in ((s0.0, s0.1.0, s2.0, s2.1.0, s4.0), s4.1)

  pub or_split : (P : Word → Type 0) (d : OrWay) (ws : List Word) → Each P (g.or_words d ws) → or_each P d × Each P ws
  or_split P (g.or a more) ws h = let s0 = and_split P a (g.or_parts_words more ws) h in let s1 = or_parts_split P more ws s0.1 in ((s0.0, s1.0), s1.1)

  pub or_parts_split : (P : Word → Type 0) (d : OrParts) (ws : List Word) → Each P (g.or_parts_words d ws) → or_parts_each P d × Each P ws
  or_parts_split P g.no_or_part ws h = (tt, h)
  or_parts_split P (g.or_part a more) ws h = let s1 = and_split P a (g.or_parts_words more ws) h.1 in let s2 = or_parts_split P more ws s1.1 in ((h.0, s1.0, s2.0), s2.1)

  pub and_split : (P : Word → Type 0) (d : AndWay) (ws : List Word) → Each P (g.and_words d ws) → and_each P d × Each P ws
  and_split P (g.and c more) ws h = let s0 = compare_split P c (g.and_parts_words more ws) h in let s1 = and_parts_split P more ws s0.1 in ((s0.0, s1.0), s1.1)

  pub and_parts_split : (P : Word → Type 0) (d : AndParts) (ws : List Word) → Each P (g.and_parts_words d ws) → and_parts_each P d × Each P ws
  and_parts_split P g.no_and_part ws h = (tt, h)
  and_parts_split P (g.and_part c more) ws h = let s1 = compare_split P c (g.and_parts_words more ws) h.1 in let s2 = and_parts_split P more ws s1.1 in ((h.0, s1.0, s2.0), s2.1)

  pub compare_split : (P : Word → Type 0) (d : CompareWay) (ws : List Word) → Each P (g.compare_words d ws) → compare_each P d × Each P ws
  compare_split P (g.single s) ws h = let s0 = sum_split P s ws h in (s0.0, s0.1)
  compare_split P (g.compare c s t) ws h = let s0 = sum_split P s (g.compare_word c ∷ g.sum_words t ws) h in let s2 = sum_split P t ws s0.1.1 in ((s0.0, s0.1.0, s2.0), s2.1)

  pub sum_split : (P : Word → Type 0) (d : SumWay) (ws : List Word) → Each P (g.sum_words d ws) → sum_each P d × Each P ws
  sum_split P (g.sum p more) ws h = let s0 = product_split P p (g.summands_words more ws) h in let s1 = summands_split P more ws s0.1 in ((s0.0, s1.0), s1.1)

  pub summands_split : (P : Word → Type 0) (d : Summands) (ws : List Word) → Each P (g.summands_words d ws) → summands_each P d × Each P ws
  summands_split P g.no_summand ws h = (tt, h)
  summands_split P (g.summand s p more) ws h = let s1 = product_split P p (g.summands_words more ws) h.1 in let s2 = summands_split P more ws s1.1 in ((h.0, s1.0, s2.0), s2.1)

  pub product_split : (P : Word → Type 0) (d : ProductWay) (ws : List Word) → Each P (g.product_words d ws) → product_each P d × Each P ws
  product_split P (g.product u more) ws h = let s0 = unary_split P u (g.factors_words more ws) h in let s1 = factors_split P more ws s0.1 in ((s0.0, s1.0), s1.1)

  pub factors_split : (P : Word → Type 0) (d : Factors) (ws : List Word) → Each P (g.factors_words d ws) → factors_each P d × Each P ws
  factors_split P g.no_factor ws h = (tt, h)
  factors_split P (g.factor s u more) ws h = let s1 = unary_split P u (g.factors_words more ws) h.1 in let s2 = factors_split P more ws s1.1 in ((h.0, s1.0, s2.0), s2.1)

  pub unary_split : (P : Word → Type 0) (d : UnaryWay) (ws : List Word) → Each P (g.unary_words d ws) → unary_each P d × Each P ws
  unary_split P (g.unsigned p) ws h = let s0 = postfix_split P p ws h in (s0.0, s0.1)
  unary_split P (g.signed s p) ws h = let s1 = postfix_split P p ws h.1 in ((h.0, s1.0), s1.1)

  pub postfix_split : (P : Word → Type 0) (d : PostfixWay) (ws : List Word) → Each P (g.postfix_words d ws) → postfix_each P d × Each P ws
  postfix_split P (g.postfix p more) ws h = let s0 = primary_split P p (g.steps_words more ws) h in let s1 = steps_split P more ws s0.1 in ((s0.0, s1.0), s1.1)

  pub steps_split : (P : Word → Type 0) (d : Steps) (ws : List Word) → Each P (g.steps_words d ws) → steps_each P d × Each P ws
  steps_split P g.no_step ws h = (tt, h)
  steps_split P (g.field x more) ws h = let s2 = steps_split P more ws h.1.1 in ((h.0, h.1.0, s2.0), s2.1)
  steps_split P (g.at e more) ws h = let s1 = expr_split P e (word.CloseSquare ∷ g.steps_words more ws) h.1 in let s3 = steps_split P more ws s1.1.1 in ((h.0, s1.0, s1.1.0, s3.0), s3.1)

  pub primary_split : (P : Word → Type 0) (d : PrimaryWay) (ws : List Word) → Each P (g.primary_words d ws) → primary_each P d × Each P ws
  primary_split P (g.number n) ws h = (h.0, h.1)
  primary_split P (g.quoted x) ws h = (h.0, h.1)
  primary_split P g.true_word ws h = (h.0, h.1)
  primary_split P g.false_word ws h = (h.0, h.1)
  primary_split P g.null_word ws h = (h.0, h.1)
  primary_split P (g.name x) ws h = (h.0, h.1)
  primary_split P (g.call1 f is a) ws h = let s2 = expr_split P a (word.CloseRound ∷ ws) h.1.1 in ((h.0, h.1.0, s2.0, s2.1.0), s2.1.1)
  primary_split P (g.call2 f is a b) ws h = let s2 = expr_split P a (word.Comma ∷ g.expr_words b (word.CloseRound ∷ ws)) h.1.1 in let s4 = expr_split P b (word.CloseRound ∷ ws) s2.1.1 in ((h.0, h.1.0, s2.0, s2.1.0, s4.0, s4.1.0), s4.1.1)
  primary_split P (g.call3 f is a b c) ws h = let s2 = expr_split P a (word.Comma ∷ g.expr_words b (word.Comma ∷ g.expr_words c (word.CloseRound ∷ ws))) h.1.1 in let s4 = expr_split P b (word.Comma ∷ g.expr_words c (word.CloseRound ∷ ws)) s2.1.1 in let s6 = expr_split P c (word.CloseRound ∷ ws) s4.1.1 in ((h.0, h.1.0, s2.0, s2.1.0, s4.0, s4.1.0, s6.0, s6.1.0), s6.1.1)
  primary_split P (g.fetch e) ws h = let s2 = expr_split P e (word.CloseRound ∷ ws) h.1.1 in ((h.0, h.1.0, s2.0, s2.1.0), s2.1.1)
  primary_split P (g.round e) ws h = let s1 = expr_split P e (word.CloseRound ∷ ws) h.1 in ((h.0, s1.0, s1.1.0), s1.1.1)
  primary_split P g.no_items ws h = ((h.0, h.1.0), h.1.1)
  primary_split P (g.items e more) ws h = let s1 = expr_split P e (g.items_words more (word.CloseSquare ∷ ws)) h.1 in let s2 = items_split P more (word.CloseSquare ∷ ws) s1.1 in ((h.0, s1.0, s2.0, s2.1.0), s2.1.1)
  primary_split P g.no_pairs ws h = ((h.0, h.1.0), h.1.1)
  primary_split P (g.pairs p more) ws h = let s1 = pair_split P p (g.pairs_words more (word.CloseCurly ∷ ws)) h.1 in let s2 = pairs_split P more (word.CloseCurly ∷ ws) s1.1 in ((h.0, s1.0, s2.0, s2.1.0), s2.1.1)

  pub items_split : (P : Word → Type 0) (d : Items) (ws : List Word) → Each P (g.items_words d ws) → items_each P d × Each P ws
  items_split P g.no_item ws h = (tt, h)
  items_split P (g.item e more) ws h = let s1 = expr_split P e (g.items_words more ws) h.1 in let s2 = items_split P more ws s1.1 in ((h.0, s1.0, s2.0), s2.1)

  pub pairs_split : (P : Word → Type 0) (d : Pairs) (ws : List Word) → Each P (g.pairs_words d ws) → pairs_each P d × Each P ws
  pairs_split P g.no_pair ws h = (tt, h)
  pairs_split P (g.next_pair p more) ws h = let s1 = pair_split P p (g.pairs_words more ws) h.1 in let s2 = pairs_split P more ws s1.1 in ((h.0, s1.0, s2.0), s2.1)

  pub pair_split : (P : Word → Type 0) (d : PairWay) (ws : List Word) → Each P (g.pair_words d ws) → pair_each P d × Each P ws
  pair_split P (g.pair k e) ws h = let s2 = expr_split P e ws h.1.1 in ((h.0, h.1.0, s2.0), s2.1)

mutual
  pub block_split : (P : Word → Type 0) (d : BlockWay) (ws : List Word) → Each P (g.block_words d ws) → block_each P d × Each P ws
  block_split P (g.block more) ws h = let s1 = stmts_split P more (word.CloseCurly ∷ ws) h.1 in ((h.0, s1.0, s1.1.0), s1.1.1)

  pub stmts_split : (P : Word → Type 0) (d : Stmts) (ws : List Word) → Each P (g.stmts_words d ws) → stmts_each P d × Each P ws
  stmts_split P g.no_stmt ws h = (tt, h)
  stmts_split P (g.next_stmt s more) ws h = let s0 = stmt_split P s (g.stmts_words more ws) h in let s1 = stmts_split P more ws s0.1 in ((s0.0, s1.0), s1.1)

  pub stmt_split : (P : Word → Type 0) (d : StmtWay) (ws : List Word) → Each P (g.stmt_words d ws) → stmt_each P d × Each P ws
  stmt_split P (g.let_stmt x e) ws h = let s3 = expr_split P e (word.Semicolon ∷ ws) h.1.1.1 in ((h.0, h.1.0, h.1.1.0, s3.0, s3.1.0), s3.1.1)
  stmt_split P (g.assign_stmt x e) ws h = let s2 = expr_split P e (word.Semicolon ∷ ws) h.1.1 in ((h.0, h.1.0, s2.0, s2.1.0), s2.1.1)
  stmt_split P (g.if_stmt e b more other) ws h = let s2 = expr_split P e (word.CloseRound ∷ g.block_words b (g.else_ifs_words more (g.else_words other ws))) h.1.1 in let s4 = block_split P b (g.else_ifs_words more (g.else_words other ws)) s2.1.1 in let s5 = else_ifs_split P more (g.else_words other ws) s4.1 in let s6 = else_split P other ws s5.1 in ((h.0, h.1.0, s2.0, s2.1.0, s4.0, s5.0, s6.0), s6.1)
  stmt_split P (g.while_stmt e b) ws h = let s2 = expr_split P e (word.CloseRound ∷ g.block_words b ws) h.1.1 in let s4 = block_split P b ws s2.1.1 in ((h.0, h.1.0, s2.0, s2.1.0, s4.0), s4.1)
  stmt_split P (g.for_stmt x e b) ws h = let s5 = expr_split P e (word.CloseRound ∷ g.block_words b ws) h.1.1.1.1.1 in let s7 = block_split P b ws s5.1.1 in ((h.0, h.1.0, h.1.1.0, h.1.1.1.0, h.1.1.1.1.0, s5.0, s5.1.0, s7.0), s7.1)
  stmt_split P (g.yield_stmt e) ws h = let s1 = expr_split P e (word.Semicolon ∷ ws) h.1 in ((h.0, s1.0, s1.1.0), s1.1.1)
  stmt_split P (g.return_stmt e) ws h = let s1 = expr_split P e (word.Semicolon ∷ ws) h.1 in ((h.0, s1.0, s1.1.0), s1.1.1)
  stmt_split P (g.throw_stmt e) ws h = let s1 = expr_split P e (word.Semicolon ∷ ws) h.1 in ((h.0, s1.0, s1.1.0), s1.1.1)
  stmt_split P (g.cleanup_stmt e) ws h = let s1 = expr_split P e (word.Semicolon ∷ ws) h.1 in ((h.0, s1.0, s1.1.0), s1.1.1)

  pub else_ifs_split : (P : Word → Type 0) (d : ElseIfs) (ws : List Word) → Each P (g.else_ifs_words d ws) → else_ifs_each P d × Each P ws
  else_ifs_split P g.no_else_if ws h = (tt, h)
  else_ifs_split P (g.else_if e b more) ws h = let s3 = expr_split P e (word.CloseRound ∷ g.block_words b (g.else_ifs_words more ws)) h.1.1.1 in let s5 = block_split P b (g.else_ifs_words more ws) s3.1.1 in let s6 = else_ifs_split P more ws s5.1 in ((h.0, h.1.0, h.1.1.0, s3.0, s3.1.0, s5.0, s6.0), s6.1)

  pub else_split : (P : Word → Type 0) (d : ElseWay) (ws : List Word) → Each P (g.else_words d ws) → else_each P d × Each P ws
  else_split P g.no_else ws h = (tt, h)
  else_split P (g.else_block b) ws h = let s1 = block_split P b ws h.1 in ((h.0, s1.0), s1.1)

pub body_split : (P : Word → Type 0) (d : BodyWay) (ws : List Word) → Each P (g.body_words d ws) → body_each P d × Each P ws
body_split P (g.block_body s more) ws h = let s1 = stmt_split P s (g.stmts_words more (word.CloseCurly ∷ ws)) h.1 in let s2 = stmts_split P more (word.CloseCurly ∷ ws) s1.1 in ((h.0, s1.0, s2.0, s2.1.0), s2.1.1)
body_split P (g.expr_body e) ws h = let s0 = expr_split P e ws h in (s0.0, s0.1)

pub cell_split : (P : Word → Type 0) (d : CellWay) (ws : List Word) → Each P (g.cell_words d ws) → cell_each P d × Each P ws
cell_split P (g.unnamed b) ws h = let s0 = body_split P b ws h in (s0.0, s0.1)
cell_split P (g.named x b) ws h = let s2 = body_split P b ws h.1.1 in ((h.0, h.1.0, s2.0), s2.1)

mutual
  pub expr_join : (P : Word → Type 0) (d : ExprWay) (ws : List Word) → expr_each P d → Each P ws → Each P (g.expr_words d ws)
  expr_join P (g.plain o) ws all h = or_join P o ws all h
  expr_join P (g.choose c a b) ws all h = or_join P c (word.Question ∷ g.or_words a (word.Colon ∷ g.or_words b ws)) all.0 (all.1, (or_join P a (word.Colon ∷ g.or_words b ws) all.2 (all.3, (or_join P b ws all.4 h))))

  pub or_join : (P : Word → Type 0) (d : OrWay) (ws : List Word) → or_each P d → Each P ws → Each P (g.or_words d ws)
  or_join P (g.or a more) ws all h = and_join P a (g.or_parts_words more ws) all.0 (or_parts_join P more ws all.1 h)

  pub or_parts_join : (P : Word → Type 0) (d : OrParts) (ws : List Word) → or_parts_each P d → Each P ws → Each P (g.or_parts_words d ws)
  or_parts_join P g.no_or_part ws all h = h
  or_parts_join P (g.or_part a more) ws all h = (all.0, (and_join P a (g.or_parts_words more ws) all.1 (or_parts_join P more ws all.2 h)))

  pub and_join : (P : Word → Type 0) (d : AndWay) (ws : List Word) → and_each P d → Each P ws → Each P (g.and_words d ws)
  and_join P (g.and c more) ws all h = compare_join P c (g.and_parts_words more ws) all.0 (and_parts_join P more ws all.1 h)

  pub and_parts_join : (P : Word → Type 0) (d : AndParts) (ws : List Word) → and_parts_each P d → Each P ws → Each P (g.and_parts_words d ws)
  and_parts_join P g.no_and_part ws all h = h
  and_parts_join P (g.and_part c more) ws all h = (all.0, (compare_join P c (g.and_parts_words more ws) all.1 (and_parts_join P more ws all.2 h)))

  pub compare_join : (P : Word → Type 0) (d : CompareWay) (ws : List Word) → compare_each P d → Each P ws → Each P (g.compare_words d ws)
  compare_join P (g.single s) ws all h = sum_join P s ws all h
  compare_join P (g.compare c s t) ws all h = sum_join P s (g.compare_word c ∷ g.sum_words t ws) all.0 (all.1, (sum_join P t ws all.2 h))

  pub sum_join : (P : Word → Type 0) (d : SumWay) (ws : List Word) → sum_each P d → Each P ws → Each P (g.sum_words d ws)
  sum_join P (g.sum p more) ws all h = product_join P p (g.summands_words more ws) all.0 (summands_join P more ws all.1 h)

  pub summands_join : (P : Word → Type 0) (d : Summands) (ws : List Word) → summands_each P d → Each P ws → Each P (g.summands_words d ws)
  summands_join P g.no_summand ws all h = h
  summands_join P (g.summand s p more) ws all h = (all.0, (product_join P p (g.summands_words more ws) all.1 (summands_join P more ws all.2 h)))

  pub product_join : (P : Word → Type 0) (d : ProductWay) (ws : List Word) → product_each P d → Each P ws → Each P (g.product_words d ws)
  product_join P (g.product u more) ws all h = unary_join P u (g.factors_words more ws) all.0 (factors_join P more ws all.1 h)

  pub factors_join : (P : Word → Type 0) (d : Factors) (ws : List Word) → factors_each P d → Each P ws → Each P (g.factors_words d ws)
  factors_join P g.no_factor ws all h = h
  factors_join P (g.factor s u more) ws all h = (all.0, (unary_join P u (g.factors_words more ws) all.1 (factors_join P more ws all.2 h)))

  pub unary_join : (P : Word → Type 0) (d : UnaryWay) (ws : List Word) → unary_each P d → Each P ws → Each P (g.unary_words d ws)
  unary_join P (g.unsigned p) ws all h = postfix_join P p ws all h
  unary_join P (g.signed s p) ws all h = (all.0, (postfix_join P p ws all.1 h))

  pub postfix_join : (P : Word → Type 0) (d : PostfixWay) (ws : List Word) → postfix_each P d → Each P ws → Each P (g.postfix_words d ws)
  postfix_join P (g.postfix p more) ws all h = primary_join P p (g.steps_words more ws) all.0 (steps_join P more ws all.1 h)

  pub steps_join : (P : Word → Type 0) (d : Steps) (ws : List Word) → steps_each P d → Each P ws → Each P (g.steps_words d ws)
  steps_join P g.no_step ws all h = h
  steps_join P (g.field x more) ws all h = (all.0, (all.1, (steps_join P more ws all.2 h)))
  steps_join P (g.at e more) ws all h = (all.0, (expr_join P e (word.CloseSquare ∷ g.steps_words more ws) all.1 (all.2, (steps_join P more ws all.3 h))))

  pub primary_join : (P : Word → Type 0) (d : PrimaryWay) (ws : List Word) → primary_each P d → Each P ws → Each P (g.primary_words d ws)
  primary_join P (g.number n) ws all h = (all, h)
  primary_join P (g.quoted x) ws all h = (all, h)
  primary_join P g.true_word ws all h = (all, h)
  primary_join P g.false_word ws all h = (all, h)
  primary_join P g.null_word ws all h = (all, h)
  primary_join P (g.name x) ws all h = (all, h)
  primary_join P (g.call1 f is a) ws all h = (all.0, (all.1, (expr_join P a (word.CloseRound ∷ ws) all.2 (all.3, h))))
  primary_join P (g.call2 f is a b) ws all h = (all.0, (all.1, (expr_join P a (word.Comma ∷ g.expr_words b (word.CloseRound ∷ ws)) all.2 (all.3, (expr_join P b (word.CloseRound ∷ ws) all.4 (all.5, h))))))
  primary_join P (g.call3 f is a b c) ws all h = (all.0, (all.1, (expr_join P a (word.Comma ∷ g.expr_words b (word.Comma ∷ g.expr_words c (word.CloseRound ∷ ws))) all.2 (all.3, (expr_join P b (word.Comma ∷ g.expr_words c (word.CloseRound ∷ ws)) all.4 (all.5, (expr_join P c (word.CloseRound ∷ ws) all.6 (all.7, h))))))))
  primary_join P (g.fetch e) ws all h = (all.0, (all.1, (expr_join P e (word.CloseRound ∷ ws) all.2 (all.3, h))))
  primary_join P (g.round e) ws all h = (all.0, (expr_join P e (word.CloseRound ∷ ws) all.1 (all.2, h)))
  primary_join P g.no_items ws all h = (all.0, (all.1, h))
  primary_join P (g.items e more) ws all h = (all.0, (expr_join P e (g.items_words more (word.CloseSquare ∷ ws)) all.1 (items_join P more (word.CloseSquare ∷ ws) all.2 (all.3, h))))
  primary_join P g.no_pairs ws all h = (all.0, (all.1, h))
  primary_join P (g.pairs p more) ws all h = (all.0, (pair_join P p (g.pairs_words more (word.CloseCurly ∷ ws)) all.1 (pairs_join P more (word.CloseCurly ∷ ws) all.2 (all.3, h))))

  pub items_join : (P : Word → Type 0) (d : Items) (ws : List Word) → items_each P d → Each P ws → Each P (g.items_words d ws)
  items_join P g.no_item ws all h = h
  items_join P (g.item e more) ws all h = (all.0, (expr_join P e (g.items_words more ws) all.1 (items_join P more ws all.2 h)))

  pub pairs_join : (P : Word → Type 0) (d : Pairs) (ws : List Word) → pairs_each P d → Each P ws → Each P (g.pairs_words d ws)
  pairs_join P g.no_pair ws all h = h
  pairs_join P (g.next_pair p more) ws all h = (all.0, (pair_join P p (g.pairs_words more ws) all.1 (pairs_join P more ws all.2 h)))

  pub pair_join : (P : Word → Type 0) (d : PairWay) (ws : List Word) → pair_each P d → Each P ws → Each P (g.pair_words d ws)
  pair_join P (g.pair k e) ws all h = (all.0, (all.1, (expr_join P e ws all.2 h)))

mutual
  pub block_join : (P : Word → Type 0) (d : BlockWay) (ws : List Word) → block_each P d → Each P ws → Each P (g.block_words d ws)
  block_join P (g.block more) ws all h = (all.0, (stmts_join P more (word.CloseCurly ∷ ws) all.1 (all.2, h)))

  pub stmts_join : (P : Word → Type 0) (d : Stmts) (ws : List Word) → stmts_each P d → Each P ws → Each P (g.stmts_words d ws)
  stmts_join P g.no_stmt ws all h = h
  stmts_join P (g.next_stmt s more) ws all h = stmt_join P s (g.stmts_words more ws) all.0 (stmts_join P more ws all.1 h)

  pub stmt_join : (P : Word → Type 0) (d : StmtWay) (ws : List Word) → stmt_each P d → Each P ws → Each P (g.stmt_words d ws)
  stmt_join P (g.let_stmt x e) ws all h = (all.0, (all.1, (all.2, (expr_join P e (word.Semicolon ∷ ws) all.3 (all.4, h)))))
  stmt_join P (g.assign_stmt x e) ws all h = (all.0, (all.1, (expr_join P e (word.Semicolon ∷ ws) all.2 (all.3, h))))
  stmt_join P (g.if_stmt e b more other) ws all h = (all.0, (all.1, (expr_join P e (word.CloseRound ∷ g.block_words b (g.else_ifs_words more (g.else_words other ws))) all.2 (all.3, (block_join P b (g.else_ifs_words more (g.else_words other ws)) all.4 (else_ifs_join P more (g.else_words other ws) all.5 (else_join P other ws all.6 h)))))))
  stmt_join P (g.while_stmt e b) ws all h = (all.0, (all.1, (expr_join P e (word.CloseRound ∷ g.block_words b ws) all.2 (all.3, (block_join P b ws all.4 h)))))
  stmt_join P (g.for_stmt x e b) ws all h = (all.0, (all.1, (all.2, (all.3, (all.4, (expr_join P e (word.CloseRound ∷ g.block_words b ws) all.5 (all.6, (block_join P b ws all.7 h))))))))
  stmt_join P (g.yield_stmt e) ws all h = (all.0, (expr_join P e (word.Semicolon ∷ ws) all.1 (all.2, h)))
  stmt_join P (g.return_stmt e) ws all h = (all.0, (expr_join P e (word.Semicolon ∷ ws) all.1 (all.2, h)))
  stmt_join P (g.throw_stmt e) ws all h = (all.0, (expr_join P e (word.Semicolon ∷ ws) all.1 (all.2, h)))
  stmt_join P (g.cleanup_stmt e) ws all h = (all.0, (expr_join P e (word.Semicolon ∷ ws) all.1 (all.2, h)))

  pub else_ifs_join : (P : Word → Type 0) (d : ElseIfs) (ws : List Word) → else_ifs_each P d → Each P ws → Each P (g.else_ifs_words d ws)
  else_ifs_join P g.no_else_if ws all h = h
  else_ifs_join P (g.else_if e b more) ws all h = (all.0, (all.1, (all.2, (expr_join P e (word.CloseRound ∷ g.block_words b (g.else_ifs_words more ws)) all.3 (all.4, (block_join P b (g.else_ifs_words more ws) all.5 (else_ifs_join P more ws all.6 h)))))))

  pub else_join : (P : Word → Type 0) (d : ElseWay) (ws : List Word) → else_each P d → Each P ws → Each P (g.else_words d ws)
  else_join P g.no_else ws all h = h
  else_join P (g.else_block b) ws all h = (all.0, (block_join P b ws all.1 h))

pub body_join : (P : Word → Type 0) (d : BodyWay) (ws : List Word) → body_each P d → Each P ws → Each P (g.body_words d ws)
body_join P (g.block_body s more) ws all h = (all.0, (stmt_join P s (g.stmts_words more (word.CloseCurly ∷ ws)) all.1 (stmts_join P more (word.CloseCurly ∷ ws) all.2 (all.3, h))))
body_join P (g.expr_body e) ws all h = expr_join P e ws all h

pub cell_join : (P : Word → Type 0) (d : CellWay) (ws : List Word) → cell_each P d → Each P ws → Each P (g.cell_words d ws)
cell_join P (g.unnamed b) ws all h = body_join P b ws all h
cell_join P (g.named x b) ws all h = (all.0, (all.1, (body_join P b ws all.2 h)))
