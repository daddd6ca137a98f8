-- The text of a way, before another one: its words, with the spaces that printing puts between them.
use Rattle.std.proofs.Common.{ℕ, List, ◌++◌}
use Rattle.std.specs.Prelude.{codes}
use Rattle.nb_value.specs.Function.{function_name}
use Rattle.nb_lexer.specs.declared.word.Word.{Word}
use Rattle.nb_lexer.specs.declared.word.Word.TheVariants as word
use Rattle.nb_lexer.specs.Written.{word_text}
use Rattle.nb_grammar.specs.Grammar as g
use Rattle.nb_grammar.specs.Grammar.{ExprWay, OrWay, OrParts, AndWay, AndParts, CompareWay, SumWay, Summands, ProductWay, Factors, UnaryWay, PostfixWay, Steps, PrimaryWay, Items, Pairs, PairWay, KeyWay, BlockWay, Stmts, StmtWay, ElseIfs, ElseWay, BodyWay, CellWay}

-- a binary operator has one space on each side
abbrev pub between : Word → List ℕ → List ℕ
between w t = codes " " ++ (word_text w ++ (codes " " ++ t))

abbrev mutual
  pub expr_text : ExprWay → List ℕ → List ℕ
  expr_text (g.plain o) t = or_text o t
  expr_text (g.choose c a b) t = or_text c (between word.Question (or_text a (between word.Colon (or_text b t))))

  pub or_text : OrWay → List ℕ → List ℕ
  or_text (g.or a more) t = and_text a (or_parts_text more t)

  pub or_parts_text : OrParts → List ℕ → List ℕ
  or_parts_text g.no_or_part t = t
  or_parts_text (g.or_part a more) t = between word.Or (and_text a (or_parts_text more t))

  pub and_text : AndWay → List ℕ → List ℕ
  and_text (g.and c more) t = compare_text c (and_parts_text more t)

  pub and_parts_text : AndParts → List ℕ → List ℕ
  and_parts_text g.no_and_part t = t
  and_parts_text (g.and_part c more) t = between word.And (compare_text c (and_parts_text more t))

  pub compare_text : CompareWay → List ℕ → List ℕ
  compare_text (g.single s) t = sum_text s t
  compare_text (g.compare c a b) t = sum_text a (between (g.compare_word c) (sum_text b t))

  pub sum_text : SumWay → List ℕ → List ℕ
  sum_text (g.sum p more) t = product_text p (summands_text more t)

  pub summands_text : Summands → List ℕ → List ℕ
  summands_text g.no_summand t = t
  summands_text (g.summand s p more) t = between (g.sum_word s) (product_text p (summands_text more t))

  pub product_text : ProductWay → List ℕ → List ℕ
  product_text (g.product u more) t = unary_text u (factors_text more t)

  pub factors_text : Factors → List ℕ → List ℕ
  factors_text g.no_factor t = t
  factors_text (g.factor s u more) t = between (g.product_word s) (unary_text u (factors_text more t))

  pub unary_text : UnaryWay → List ℕ → List ℕ
  unary_text (g.unsigned p) t = postfix_text p t
  unary_text (g.signed s p) t = word_text (g.unary_word s) ++ postfix_text p t

  pub postfix_text : PostfixWay → List ℕ → List ℕ
  postfix_text (g.postfix p more) t = primary_text p (steps_text more t)

  pub steps_text : Steps → List ℕ → List ℕ
  steps_text g.no_step t = t
  steps_text (g.field x more) t = codes "." ++ (x ++ steps_text more t)
  steps_text (g.at e more) t = codes "[" ++ expr_text e (codes "]" ++ steps_text more t)

  pub primary_text : PrimaryWay → List ℕ → List ℕ
  primary_text (g.number n) t = word_text (word.Number n) ++ t
  primary_text (g.quoted x) t = word_text (word.Quoted x) ++ t
  primary_text g.true_word t = codes "true" ++ t
  primary_text g.false_word t = codes "false" ++ t
  primary_text g.null_word t = codes "null" ++ t
  primary_text (g.name x) t = x ++ t
  primary_text (g.call1 f one a) t = function_name f ++ (codes "(" ++ expr_text a (codes ")" ++ t))
  primary_text (g.call2 f two a b) t = function_name f ++ (codes "(" ++ expr_text a (codes ", " ++ expr_text b (codes ")" ++ t)))
  primary_text (g.call3 f three a b c) t =
      function_name f ++ (codes "(" ++ expr_text a (codes ", " ++ expr_text b (codes ", " ++ expr_text c (codes ")" ++ t))))
  primary_text (g.fetch e) t = codes "fetch(" ++ expr_text e (codes ")" ++ t)
  primary_text (g.round e) t = codes "(" ++ expr_text e (codes ")" ++ t)
  primary_text g.no_items t = codes "[]" ++ t
  primary_text (g.items e more) t = codes "[" ++ expr_text e (items_text more (codes "]" ++ t))
  primary_text g.no_pairs t = codes "{}" ++ t
  primary_text (g.pairs p more) t = codes "{" ++ pair_text p (pairs_text more (codes "}" ++ t))

  pub items_text : Items → List ℕ → List ℕ
  items_text g.no_item t = t
  items_text (g.item e more) t = codes ", " ++ expr_text e (items_text more t)

  pub pairs_text : Pairs → List ℕ → List ℕ
  pairs_text g.no_pair t = t
  pairs_text (g.next_pair p more) t = codes ", " ++ pair_text p (pairs_text more t)

  pub pair_text : PairWay → List ℕ → List ℕ
  pair_text (g.pair k e) t = word_text (g.key_word k) ++ (codes ": " ++ expr_text e t)

-- the end of a block: one space before its bracket, but where no statement stands
abbrev pub block_end : Stmts → List ℕ → List ℕ
block_end g.no_stmt t = codes "}" ++ t
block_end (g.next_stmt s more) t = codes " }" ++ t

abbrev mutual
  pub block_text : BlockWay → List ℕ → List ℕ
  block_text (g.block more) t = codes "{" ++ stmts_text more (block_end more t)

  pub stmts_text : Stmts → List ℕ → List ℕ
  stmts_text g.no_stmt t = t
  stmts_text (g.next_stmt s more) t = codes " " ++ stmt_text s (stmts_text more t)

  pub stmt_text : StmtWay → List ℕ → List ℕ
  stmt_text (g.let_stmt x e) t = codes "let " ++ (x ++ (codes " = " ++ expr_text e (codes ";" ++ t)))
  stmt_text (g.assign_stmt x e) t = x ++ (codes " = " ++ expr_text e (codes ";" ++ t))
  stmt_text (g.if_stmt e b more other) t =
      codes "if (" ++ expr_text e (codes ") " ++ block_text b (else_ifs_text more (else_text other t)))
  stmt_text (g.while_stmt e b) t = codes "while (" ++ expr_text e (codes ") " ++ block_text b t)
  stmt_text (g.for_stmt x e b) t = codes "for (let " ++ (x ++ (codes " of " ++ expr_text e (codes ") " ++ block_text b t)))
  stmt_text (g.yield_stmt e) t = codes "yield " ++ expr_text e (codes ";" ++ t)
  stmt_text (g.return_stmt e) t = codes "return " ++ expr_text e (codes ";" ++ t)
  stmt_text (g.throw_stmt e) t = codes "throw " ++ expr_text e (codes ";" ++ t)
  stmt_text (g.cleanup_stmt e) t = codes "cleanup " ++ expr_text e (codes ";" ++ t)

  pub else_ifs_text : ElseIfs → List ℕ → List ℕ
  else_ifs_text g.no_else_if t = t
  else_ifs_text (g.else_if e b more) t = codes " else if (" ++ expr_text e (codes ") " ++ block_text b (else_ifs_text more t))

  pub else_text : ElseWay → List ℕ → List ℕ
  else_text g.no_else t = t
  else_text (g.else_block b) t = codes " else " ++ block_text b t

abbrev pub body_text : BodyWay → List ℕ → List ℕ
body_text (g.block_body s more) t = block_text (g.block (g.next_stmt s more)) t
body_text (g.expr_body e) t = expr_text e t

abbrev pub way_text : CellWay → List ℕ → List ℕ
way_text (g.unnamed b) t = body_text b t
way_text (g.named x b) t = x ++ (codes " = " ++ body_text b t)
