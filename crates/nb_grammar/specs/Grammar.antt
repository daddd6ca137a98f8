-- The grammar: a type for each of its rules, with a constructor for each case. A value of the type is a way to spell what the rule derives.
use Rattle.std.specs.Prelude.{◌≡◌, ℤ, ℕ, List, ◌∷◌}
use Rattle.nb_value.specs.Function.{function_name, arity}
use Rattle.nb_value.specs.declared.function.Function.{Function}
use Rattle.nb_lexer.specs.declared.word.Word.{Word}
use Rattle.nb_lexer.specs.declared.word.Word.TheVariants as word

pub data CompareSign : Type 0 where
  equal not_equal less less_or_equal greater greater_or_equal : CompareSign

pub data SumSign : Type 0 where
  plus minus : SumSign

pub data ProductSign : Type 0 where
  times divide remainder : ProductSign

pub data UnarySign : Type 0 where
  negative not : UnarySign

-- name | quoted, as the key of a pair
pub data KeyWay : Type 0 where
  name_key quoted_key : List ℕ → KeyWay

mutual
  -- expr := or [ "?" or ":" or ]
  pub data ExprWay : Type 0 where
    plain : OrWay → ExprWay
    choose : OrWay → OrWay → OrWay → ExprWay

  -- or := and { "||" and }
  pub data OrWay : Type 0 where
    or : AndWay → OrParts → OrWay

  pub data OrParts : Type 0 where
    no_or_part : OrParts
    or_part : AndWay → OrParts → OrParts

  -- and := cmp { "&&" cmp }
  pub data AndWay : Type 0 where
    and : CompareWay → AndParts → AndWay

  pub data AndParts : Type 0 where
    no_and_part : AndParts
    and_part : CompareWay → AndParts → AndParts

  -- cmp := sum [ ("==" | "!=" | "<" | "<=" | ">" | ">=") sum ]
  pub data CompareWay : Type 0 where
    single : SumWay → CompareWay
    compare : CompareSign → SumWay → SumWay → CompareWay

  -- sum := product { ("+" | "-") product }
  pub data SumWay : Type 0 where
    sum : ProductWay → Summands → SumWay

  pub data Summands : Type 0 where
    no_summand : Summands
    summand : SumSign → ProductWay → Summands → Summands

  -- product := unary { ("*" | "/" | "%") unary }
  pub data ProductWay : Type 0 where
    product : UnaryWay → Factors → ProductWay

  pub data Factors : Type 0 where
    no_factor : Factors
    factor : ProductSign → UnaryWay → Factors → Factors

  -- unary := [ "-" | "!" ] postfix
  pub data UnaryWay : Type 0 where
    unsigned : PostfixWay → UnaryWay
    signed : UnarySign → PostfixWay → UnaryWay

  -- postfix := primary { "." name | "[" expr "]" }
  pub data PostfixWay : Type 0 where
    postfix : PrimaryWay → Steps → PostfixWay

  pub data Steps : Type 0 where
    no_step : Steps
    field : List ℕ → Steps → Steps
    at : ExprWay → Steps → Steps

  -- primary := number | quoted | "true" | "false" | "null" | name | call | "fetch" "(" expr ")" | "(" expr ")"
  --          | "[" [ expr { "," expr } ] "]" | "{" [ pair { "," pair } ] "}"
  -- call := f1 "(" expr ")" | f2 "(" expr "," expr ")" | f3 "(" expr "," expr "," expr ")"
  pub data PrimaryWay : Type 0 where
    number : ℤ → PrimaryWay
    quoted : List ℕ → PrimaryWay
    true_word false_word null_word : PrimaryWay
    name : List ℕ → PrimaryWay
    call1 : (f : Function) → arity f ≡ 1 → ExprWay → PrimaryWay
    call2 : (f : Function) → arity f ≡ 2 → ExprWay → ExprWay → PrimaryWay
    call3 : (f : Function) → arity f ≡ 3 → ExprWay → ExprWay → ExprWay → PrimaryWay
    fetch : ExprWay → PrimaryWay
    round : ExprWay → PrimaryWay
    no_items : PrimaryWay
    items : ExprWay → Items → PrimaryWay
    no_pairs : PrimaryWay
    pairs : PairWay → Pairs → PrimaryWay

  pub data Items : Type 0 where
    no_item : Items
    item : ExprWay → Items → Items

  pub data Pairs : Type 0 where
    no_pair : Pairs
    next_pair : PairWay → Pairs → Pairs

  -- pair := (name | quoted) ":" expr
  pub data PairWay : Type 0 where
    pair : KeyWay → ExprWay → PairWay

mutual
  -- block := "{" { stmt } "}"
  pub data BlockWay : Type 0 where
    block : Stmts → BlockWay

  pub data Stmts : Type 0 where
    no_stmt : Stmts
    next_stmt : StmtWay → Stmts → Stmts

  -- stmt := "let" name "=" expr ";" | name "=" expr ";"
  --       | "if" "(" expr ")" block { "else" "if" "(" expr ")" block } [ "else" block ]
  --       | "while" "(" expr ")" block
  --       | "for" "(" "let" name "of" expr ")" block
  --       | "yield" expr ";" | "return" expr ";" | "throw" expr ";" | "cleanup" expr ";"
  pub data StmtWay : Type 0 where
    let_stmt : List ℕ → ExprWay → StmtWay
    assign_stmt : List ℕ → ExprWay → StmtWay
    if_stmt : ExprWay → BlockWay → ElseIfs → ElseWay → StmtWay
    while_stmt : ExprWay → BlockWay → StmtWay
    for_stmt : List ℕ → ExprWay → BlockWay → StmtWay
    yield_stmt return_stmt throw_stmt cleanup_stmt : ExprWay → StmtWay

  pub data ElseIfs : Type 0 where
    no_else_if : ElseIfs
    else_if : ExprWay → BlockWay → ElseIfs → ElseIfs

  pub data ElseWay : Type 0 where
    no_else : ElseWay
    else_block : BlockWay → ElseWay

-- body := "{" stmt { stmt } "}" | expr
pub data BodyWay : Type 0 where
  block_body : StmtWay → Stmts → BodyWay
  expr_body : ExprWay → BodyWay

-- cell := [ name "=" ] body
pub data CellWay : Type 0 where
  unnamed : BodyWay → CellWay
  named : List ℕ → BodyWay → CellWay

abbrev pub compare_word : CompareSign → Word
compare_word equal = word.Equal
compare_word not_equal = word.NotEqual
compare_word less = word.Less
compare_word less_or_equal = word.LessOrEqual
compare_word greater = word.Greater
compare_word greater_or_equal = word.GreaterOrEqual

abbrev pub sum_word : SumSign → Word
sum_word plus = word.Plus
sum_word minus = word.Minus

abbrev pub product_word : ProductSign → Word
product_word times = word.Times
product_word divide = word.Divide
product_word remainder = word.Remainder

abbrev pub unary_word : UnarySign → Word
unary_word negative = word.Minus
unary_word not = word.Not

abbrev pub key_word : KeyWay → Word
key_word (name_key x) = word.Name x
key_word (quoted_key x) = word.Quoted x

-- The words that spell it, before these.
abbrev mutual
  pub expr_words : ExprWay → List Word → List Word
  expr_words (plain o) ws = or_words o ws
  expr_words (choose c a b) ws = or_words c (word.Question ∷ or_words a (word.Colon ∷ or_words b ws))

  pub or_words : OrWay → List Word → List Word
  or_words (or a more) ws = and_words a (or_parts_words more ws)

  pub or_parts_words : OrParts → List Word → List Word
  or_parts_words no_or_part ws = ws
  or_parts_words (or_part a more) ws = word.Or ∷ and_words a (or_parts_words more ws)

  pub and_words : AndWay → List Word → List Word
  and_words (and c more) ws = compare_words c (and_parts_words more ws)

  pub and_parts_words : AndParts → List Word → List Word
  and_parts_words no_and_part ws = ws
  and_parts_words (and_part c more) ws = word.And ∷ compare_words c (and_parts_words more ws)

  pub compare_words : CompareWay → List Word → List Word
  compare_words (single s) ws = sum_words s ws
  compare_words (compare c s t) ws = sum_words s (compare_word c ∷ sum_words t ws)

  pub sum_words : SumWay → List Word → List Word
  sum_words (sum p more) ws = product_words p (summands_words more ws)

  pub summands_words : Summands → List Word → List Word
  summands_words no_summand ws = ws
  summands_words (summand s p more) ws = sum_word s ∷ product_words p (summands_words more ws)

  pub product_words : ProductWay → List Word → List Word
  product_words (product u more) ws = unary_words u (factors_words more ws)

  pub factors_words : Factors → List Word → List Word
  factors_words no_factor ws = ws
  factors_words (factor s u more) ws = product_word s ∷ unary_words u (factors_words more ws)

  pub unary_words : UnaryWay → List Word → List Word
  unary_words (unsigned p) ws = postfix_words p ws
  unary_words (signed s p) ws = unary_word s ∷ postfix_words p ws

  pub postfix_words : PostfixWay → List Word → List Word
  postfix_words (postfix p more) ws = primary_words p (steps_words more ws)

  pub steps_words : Steps → List Word → List Word
  steps_words no_step ws = ws
  steps_words (field x more) ws = word.Dot ∷ word.Name x ∷ steps_words more ws
  steps_words (at e more) ws = word.OpenSquare ∷ expr_words e (word.CloseSquare ∷ steps_words more ws)

  pub primary_words : PrimaryWay → List Word → List Word
  primary_words (number n) ws = word.Number n ∷ ws
  primary_words (quoted x) ws = word.Quoted x ∷ ws
  primary_words true_word ws = word.True ∷ ws
  primary_words false_word ws = word.False ∷ ws
  primary_words null_word ws = word.Null ∷ ws
  primary_words (name x) ws = word.Name x ∷ ws
  primary_words (call1 f one a) ws = word.Name (function_name f) ∷ word.OpenRound ∷ expr_words a (word.CloseRound ∷ ws)
  primary_words (call2 f two a b) ws =
      word.Name (function_name f) ∷ word.OpenRound ∷ expr_words a (word.Comma ∷ expr_words b (word.CloseRound ∷ ws))
  primary_words (call3 f three a b c) ws =
      word.Name (function_name f) ∷ word.OpenRound ∷ expr_words a (word.Comma ∷ expr_words b (word.Comma ∷ expr_words c (word.CloseRound ∷ ws)))
  primary_words (fetch e) ws = word.Fetch ∷ word.OpenRound ∷ expr_words e (word.CloseRound ∷ ws)
  primary_words (round e) ws = word.OpenRound ∷ expr_words e (word.CloseRound ∷ ws)
  primary_words no_items ws = word.OpenSquare ∷ word.CloseSquare ∷ ws
  primary_words (items e more) ws = word.OpenSquare ∷ expr_words e (items_words more (word.CloseSquare ∷ ws))
  primary_words no_pairs ws = word.OpenCurly ∷ word.CloseCurly ∷ ws
  primary_words (pairs p more) ws = word.OpenCurly ∷ pair_words p (pairs_words more (word.CloseCurly ∷ ws))

  pub items_words : Items → List Word → List Word
  items_words no_item ws = ws
  items_words (item e more) ws = word.Comma ∷ expr_words e (items_words more ws)

  pub pairs_words : Pairs → List Word → List Word
  pairs_words no_pair ws = ws
  pairs_words (next_pair p more) ws = word.Comma ∷ pair_words p (pairs_words more ws)

  pub pair_words : PairWay → List Word → List Word
  pair_words (pair k e) ws = key_word k ∷ word.Colon ∷ expr_words e ws

abbrev mutual
  pub block_words : BlockWay → List Word → List Word
  block_words (block more) ws = word.OpenCurly ∷ stmts_words more (word.CloseCurly ∷ ws)

  pub stmts_words : Stmts → List Word → List Word
  stmts_words no_stmt ws = ws
  stmts_words (next_stmt s more) ws = stmt_words s (stmts_words more ws)

  pub stmt_words : StmtWay → List Word → List Word
  stmt_words (let_stmt x e) ws = word.Let ∷ word.Name x ∷ word.Assign ∷ expr_words e (word.Semicolon ∷ ws)
  stmt_words (assign_stmt x e) ws = word.Name x ∷ word.Assign ∷ expr_words e (word.Semicolon ∷ ws)
  stmt_words (if_stmt e b more other) ws =
      word.If ∷ word.OpenRound ∷ expr_words e (word.CloseRound ∷ block_words b (else_ifs_words more (else_words other ws)))
  stmt_words (while_stmt e b) ws = word.While ∷ word.OpenRound ∷ expr_words e (word.CloseRound ∷ block_words b ws)
  stmt_words (for_stmt x e b) ws =
      word.For ∷ word.OpenRound ∷ word.Let ∷ word.Name x ∷ word.Of ∷ expr_words e (word.CloseRound ∷ block_words b ws)
  stmt_words (yield_stmt e) ws = word.Yield ∷ expr_words e (word.Semicolon ∷ ws)
  stmt_words (return_stmt e) ws = word.Return ∷ expr_words e (word.Semicolon ∷ ws)
  stmt_words (throw_stmt e) ws = word.Throw ∷ expr_words e (word.Semicolon ∷ ws)
  stmt_words (cleanup_stmt e) ws = word.Cleanup ∷ expr_words e (word.Semicolon ∷ ws)

  pub else_ifs_words : ElseIfs → List Word → List Word
  else_ifs_words no_else_if ws = ws
  else_ifs_words (else_if e b more) ws =
      word.Else ∷ word.If ∷ word.OpenRound ∷ expr_words e (word.CloseRound ∷ block_words b (else_ifs_words more ws))

  pub else_words : ElseWay → List Word → List Word
  else_words no_else ws = ws
  else_words (else_block b) ws = word.Else ∷ block_words b ws

abbrev pub body_words : BodyWay → List Word → List Word
body_words (block_body s more) ws = word.OpenCurly ∷ stmt_words s (stmts_words more (word.CloseCurly ∷ ws))
body_words (expr_body e) ws = expr_words e ws

abbrev pub cell_words : CellWay → List Word → List Word
cell_words (unnamed b) ws = body_words b ws
cell_words (named x b) ws = word.Name x ∷ word.Assign ∷ body_words b ws
