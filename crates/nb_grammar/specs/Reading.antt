-- Reading from left to right: what a function answers is a value and the words after it, or the first fault.
use Rattle.std.specs.Prelude.{◌≡◌, Bool, true, false, ℕ, zero, suc, ◌-◌, List, [], ◌∷◌, ◌++◌, length, Option, Some, None, Result, Ok, Err}
use Rattle.nb_value.specs.Function.{arity}
use Rattle.nb_value.specs.declared.function.Function.{Function}
use Rattle.nb_lexer.specs.declared.word.Word.{Word}
use Rattle.nb_lexer.specs.declared.word.Word.TheVariants as word
use Rattle.nb_syntax.specs.declared.tree.Sign.{Sign}
use Rattle.nb_syntax.specs.declared.tree.Sign.TheVariants as sign
use Rattle.nb_syntax.specs.declared.tree.Expr.{Expr}
use Rattle.nb_syntax.specs.declared.tree.Expr.TheVariants as tree
use Rattle.nb_syntax.specs.declared.tree.PathStep.{PathStep}
use Rattle.nb_syntax.specs.declared.tree.PathStep.TheVariants as path
use Rattle.nb_syntax.specs.declared.tree.Operand.{Operand}
use Rattle.nb_syntax.specs.declared.tree.Member.{Member}
use Rattle.nb_syntax.specs.declared.tree.Block.{Block}
use Rattle.nb_syntax.specs.declared.tree.Arm.{Arm}
use Rattle.nb_syntax.specs.declared.tree.Stmt.{Stmt}
use Rattle.nb_syntax.specs.declared.tree.Stmt.TheVariants as stmt
use Rattle.nb_syntax.specs.declared.tree.Body.{Body}
use Rattle.nb_syntax.specs.declared.tree.Body.TheVariants as body
use Rattle.nb_syntax.specs.declared.tree.Cell.{Cell}
use Rattle.nb_grammar.specs.declared.fault.Fault.{Fault}
use Rattle.nb_grammar.specs.declared.fault.Fault.TheVariants.{Unexpected, Ended, TooDeep}
use Rattle.nb_grammar.specs.declared.fault.Stop.{Stop}
use Rattle.nb_grammar.specs.declared.fault.Stop.TheVariants as stops
pub use Rattle.nb_grammar.specs.Trees.{path_of, product_of, sum_of, and_of, or_of}
use Rattle.nb_grammar.specs.Words.{product_sign, sum_sign, compare_sign, called}

abbrev pub Read : Type 0 → Type 0
Read A = Result (A × List Word) Fault

infixl 10 ◌>>=◌
abbrev pub ◌>>=◌ : {A B : Type 0} → Result A Fault → (A → Result B Fault) → Result B Fault
(Ok x) >>= f = f x
(Err e) >>= f = Err e

-- What a function returned, seen by view, is what reading gives, unless memory ran out.
abbrev pub Fails : {Y : Type 0} → Stop → Result Y Fault → Type 0
Fails stops.Memory read = Unit {0}
Fails (stops.Fault f) read = read ≡ Err f

abbrev pub Gives : {X Y : Type 0} → (X → Y) → Result X Stop → Result Y Fault → Type 0
Gives view (Ok x) read = read ≡ Ok (view x)
Gives view (Err e) read = Fails e read

-- the fault where nothing fits
abbrev pub fault : List Word → Fault
fault [] = Ended
fault (w ∷ ws) = Unexpected (length (w ∷ ws))

-- The same again, as often as there is one. The number bounds the turns.
abbrev pub onward : {A B : Type 0} → Option A → B → (A → B) → B
onward None stop go = stop
onward (Some x) stop go = go x

abbrev pub many : {A : Type 0} → (List Word → Read (Option A)) → ℕ → List A → List Word → Read (List A)
many next zero done ws = Ok (done, ws)
many next (suc n) done ws = next ws >>= (λ x. onward x.0 (Ok (done, x.1)) (λ a. many next n (done ++ a ∷ []) x.1))

-- Each turn takes a word, so that this bound is never met.
abbrev pub rounds : {A : Type 0} → (List Word → Read (Option A)) → List A → List Word → Read (List A)
rounds next done ws = many next (suc (length ws)) done ws

-- single words
abbrev pub close_round : List Word → Result (List Word) Fault
close_round (word.CloseRound ∷ ws) = Ok ws
close_round ws = Err (fault ws)

abbrev pub close_square : List Word → Result (List Word) Fault
close_square (word.CloseSquare ∷ ws) = Ok ws
close_square ws = Err (fault ws)

abbrev pub close_curly : List Word → Result (List Word) Fault
close_curly (word.CloseCurly ∷ ws) = Ok ws
close_curly ws = Err (fault ws)

abbrev pub comma : List Word → Result (List Word) Fault
comma (word.Comma ∷ ws) = Ok ws
comma ws = Err (fault ws)

abbrev pub colon : List Word → Result (List Word) Fault
colon (word.Colon ∷ ws) = Ok ws
colon ws = Err (fault ws)

abbrev pub semicolon : List Word → Result (List Word) Fault
semicolon (word.Semicolon ∷ ws) = Ok ws
semicolon ws = Err (fault ws)

abbrev pub assign : List Word → Result (List Word) Fault
assign (word.Assign ∷ ws) = Ok ws
assign ws = Err (fault ws)

abbrev pub let_word : List Word → Result (List Word) Fault
let_word (word.Let ∷ ws) = Ok ws
let_word ws = Err (fault ws)

abbrev pub of_word : List Word → Result (List Word) Fault
of_word (word.Of ∷ ws) = Ok ws
of_word ws = Err (fault ws)

abbrev pub name : List Word → Read (List ℕ)
name (word.Name x ∷ ws) = Ok (x, ws)
name ws = Err (fault ws)

-- name | quoted
abbrev pub key : List Word → Read (List ℕ)
key (word.Name x ∷ ws) = Ok (x, ws)
key (word.Quoted x ∷ ws) = Ok (x, ws)
key ws = Err (fault ws)

-- How an expression, and the statements of a block with the bracket that closes them, are read behind a bracket that opens.
pub record Inner : Type 0 where
  pub expr : List Word → Read Expr
  pub stmts : List Word → Read (List Stmt)

-- None where no bracket may open
abbrev pub Inside : Type 0
Inside = Option Inner

-- Behind a bracket that opens stand these words.
abbrev pub opened : {A : Type 0} → Inside → List Word → (Inner → Result A Fault) → Result A Fault
opened None ws go = Err (TooDeep (suc (length ws)))
opened (Some inner) ws go = go inner

-- behind "("
abbrev pub in_round : Inside → List Word → Read Expr
in_round inside ws = opened inside ws (λ inner. inner.expr ws >>= (λ e. close_round e.1 >>= (λ rest. Ok (e.0, rest))))

-- "(" expr ")"
abbrev pub bracketed : Inside → List Word → Read Expr
bracketed inside (word.OpenRound ∷ ws) = in_round inside ws
bracketed inside ws = Err (fault ws)

-- so many more arguments
abbrev pub arguments : (List Word → Read Expr) → ℕ → List Expr → List Word → Read (List Expr)
arguments expr zero done ws = Ok (done, ws)
arguments expr (suc n) done ws = comma ws >>= (λ rest. expr rest >>= (λ e. arguments expr n (done ++ e.0 ∷ []) e.1))

-- the arguments of a function, and the bracket that closes them
abbrev pub call : (List Word → Read Expr) → Function → List Word → Read Expr
call expr f ws = do
  first ← expr ws
  all ← arguments expr (arity f - 1) (first.0 ∷ []) first.1
  rest ← close_round all.1
  Ok (tree.Call f all.0, rest)

-- Behind a name: a call, where the name is that of a function and a bracket opens.
abbrev pub named : Inside → List ℕ → Option Function → List Word → Read Expr
named inside x (Some f) (word.OpenRound ∷ ws) = opened inside ws (λ inner. call inner.expr f ws)
named inside x _ ws = Ok (tree.Name x, ws)

abbrev pub item : (List Word → Read Expr) → List Word → Read (Option Expr)
item expr (word.Comma ∷ ws) = expr ws >>= (λ e. Ok (Some e.0, e.1))
item expr ws = Ok (None, ws)

-- at least one item, and the bracket that closes the list
abbrev pub some_items : (List Word → Read Expr) → List Word → Read Expr
some_items expr ws = do
  first ← expr ws
  all ← rounds (item expr) (first.0 ∷ []) first.1
  rest ← close_square all.1
  Ok (tree.List all.0, rest)

-- behind "["
abbrev pub items : (List Word → Read Expr) → List Word → Read Expr
items expr (word.CloseSquare ∷ ws) = Ok (tree.List [], ws)
items expr ws = some_items expr ws

-- pair := (name | quoted) ":" expr
abbrev pub pair : (List Word → Read Expr) → List Word → Read Member
pair expr ws = do
  x ← key ws
  rest ← colon x.1
  e ← expr rest
  Ok (record { key = x.0; value = e.0 }, e.1)

abbrev pub next_pair : (List Word → Read Expr) → List Word → Read (Option Member)
next_pair expr (word.Comma ∷ ws) = pair expr ws >>= (λ p. Ok (Some p.0, p.1))
next_pair expr ws = Ok (None, ws)

-- at least one pair, and the bracket that closes the record
abbrev pub some_pairs : (List Word → Read Expr) → List Word → Read Expr
some_pairs expr ws = do
  first ← pair expr ws
  all ← rounds (next_pair expr) (first.0 ∷ []) first.1
  rest ← close_curly all.1
  Ok (tree.Rec all.0, rest)

-- behind "{"
abbrev pub pairs : (List Word → Read Expr) → List Word → Read Expr
pairs expr (word.CloseCurly ∷ ws) = Ok (tree.Rec [], ws)
pairs expr ws = some_pairs expr ws

-- primary := number | quoted | "true" | "false" | "null" | name | call | "fetch" "(" expr ")" | "(" expr ")"
--          | "[" [ expr { "," expr } ] "]" | "{" [ pair { "," pair } ] "}"
abbrev pub primary : Inside → List Word → Read Expr
primary inside (word.Number n ∷ ws) = Ok (tree.Int n, ws)
primary inside (word.Quoted x ∷ ws) = Ok (tree.Quoted x, ws)
primary inside (word.True ∷ ws) = Ok (tree.Bool true, ws)
primary inside (word.False ∷ ws) = Ok (tree.Bool false, ws)
primary inside (word.Null ∷ ws) = Ok (tree.Null, ws)
primary inside (word.Name x ∷ ws) = named inside x (called x) ws
primary inside (word.Fetch ∷ ws) = bracketed inside ws >>= (λ e. Ok (tree.Fetch e.0, e.1))
primary inside (word.OpenRound ∷ ws) = in_round inside ws
primary inside (word.OpenSquare ∷ ws) = opened inside ws (λ inner. items inner.expr ws)
primary inside (word.OpenCurly ∷ ws) = opened inside ws (λ inner. pairs inner.expr ws)
primary inside ws = Err (fault ws)

-- "." name | "[" expr "]"
abbrev pub step : Inside → List Word → Read (Option PathStep)
step inside (word.Dot ∷ ws) = name ws >>= (λ x. Ok (Some (path.Field x.0), x.1))
step inside (word.OpenSquare ∷ ws) =
    opened inside ws (λ inner. inner.expr ws >>= (λ e. close_square e.1 >>= (λ rest. Ok (Some (path.At e.0), rest))))
step inside ws = Ok (None, ws)

-- postfix := primary { "." name | "[" expr "]" }
abbrev pub postfix : Inside → List Word → Read Expr
postfix inside ws = do
  e ← primary inside ws
  more ← rounds (step inside) [] e.1
  Ok (path_of e.0 more.0, more.1)

-- unary := [ "-" | "!" ] postfix
abbrev pub unary : Inside → List Word → Read Expr
unary inside (word.Minus ∷ ws) = postfix inside ws >>= (λ e. Ok (tree.Unary sign.Minus e.0, e.1))
unary inside (word.Not ∷ ws) = postfix inside ws >>= (λ e. Ok (tree.Unary sign.Not e.0, e.1))
unary inside ws = postfix inside ws

-- a sign and a part, where this word is a sign
abbrev pub signed : (List Word → Read Expr) → Option Sign → Word → List Word → Read (Option Operand)
signed part None w ws = Ok (None, w ∷ ws)
signed part (Some s) w ws = part ws >>= (λ e. Ok (Some (record { sign = s; expr = e.0 }), e.1))

abbrev pub operand : (Word → Option Sign) → (List Word → Read Expr) → List Word → Read (Option Operand)
operand sign part [] = Ok (None, [])
operand sign part (w ∷ ws) = signed part (sign w) w ws

-- product := unary { ("*" | "/" | "%") unary }
abbrev pub product : Inside → List Word → Read Expr
product inside ws = do
  e ← unary inside ws
  more ← rounds (operand product_sign (unary inside)) [] e.1
  Ok (product_of e.0 more.0, more.1)

-- sum := product { ("+" | "-") product }
abbrev pub sum : Inside → List Word → Read Expr
sum inside ws = do
  e ← product inside ws
  more ← rounds (operand sum_sign (product inside)) [] e.1
  Ok (sum_of e.0 more.0, more.1)

-- Behind a sum: a comparison with another, where this is a sign.
abbrev pub compared : Inside → Expr → Option Sign → Word → List Word → Read Expr
compared inside left None w ws = Ok (left, w ∷ ws)
compared inside left (Some s) w ws = sum inside ws >>= (λ right. Ok (tree.Compare s left right.0, right.1))

abbrev pub compare_at : Inside → Expr → List Word → Read Expr
compare_at inside left [] = Ok (left, [])
compare_at inside left (w ∷ ws) = compared inside left (compare_sign w) w ws

-- cmp := sum [ ("==" | "!=" | "<" | "<=" | ">" | ">=") sum ]
abbrev pub compare : Inside → List Word → Read Expr
compare inside ws = sum inside ws >>= (λ e. compare_at inside e.0 e.1)

abbrev pub and_part : Inside → List Word → Read (Option Expr)
and_part inside (word.And ∷ ws) = compare inside ws >>= (λ e. Ok (Some e.0, e.1))
and_part inside ws = Ok (None, ws)

-- and := cmp { "&&" cmp }
abbrev pub and : Inside → List Word → Read Expr
and inside ws = do
  e ← compare inside ws
  more ← rounds (and_part inside) [] e.1
  Ok (and_of e.0 more.0, more.1)

abbrev pub or_part : Inside → List Word → Read (Option Expr)
or_part inside (word.Or ∷ ws) = and inside ws >>= (λ e. Ok (Some e.0, e.1))
or_part inside ws = Ok (None, ws)

-- or := and { "||" and }
abbrev pub or : Inside → List Word → Read Expr
or inside ws = do
  e ← and inside ws
  more ← rounds (or_part inside) [] e.1
  Ok (or_of e.0 more.0, more.1)

-- behind the test of a choice, if it is one
abbrev pub choice : Inside → Expr → List Word → Read Expr
choice inside test (word.Question ∷ ws) = do
  a ← or inside ws
  rest ← colon a.1
  b ← or inside rest
  Ok (tree.Choose test a.0 b.0, b.1)
choice inside test ws = Ok (test, ws)

-- expr := or [ "?" or ":" or ]
abbrev pub expr : Inside → List Word → Read Expr
expr inside ws = or inside ws >>= (λ e. choice inside e.0 e.1)

-- block := "{" { stmt } "}"
abbrev pub block : Inside → List Word → Read Block
block inside (word.OpenCurly ∷ ws) = opened inside ws (λ inner. inner.stmts ws >>= (λ s. Ok (record { stmts = s.0 }, s.1)))
block inside ws = Err (fault ws)

-- expr ";"
abbrev pub ended : Inside → List Word → Read Expr
ended inside ws = expr inside ws >>= (λ e. semicolon e.1 >>= (λ rest. Ok (e.0, rest)))

-- behind a name at the head of a statement: "=" expr ";"
abbrev pub assignment : Inside → List ℕ → List Word → Read Stmt
assignment inside x ws = assign ws >>= (λ rest. ended inside rest >>= (λ e. Ok (stmt.Assign x e.0, e.1)))

-- behind "let": name "=" expr ";"
abbrev pub let_stmt : Inside → List Word → Read Stmt
let_stmt inside ws = do
  x ← name ws
  rest ← assign x.1
  e ← ended inside rest
  Ok (stmt.Let x.0 e.0, e.1)

-- "(" expr ")" block
abbrev pub arm : Inside → List Word → Read Arm
arm inside ws = bracketed inside ws >>= (λ test. block inside test.1 >>= (λ b. Ok (record { test = test.0; body = b.0 }, b.1)))

-- "else" "if" "(" expr ")" block
abbrev pub else_if : Inside → List Word → Read (Option Arm)
else_if inside (word.Else ∷ word.If ∷ ws) = arm inside ws >>= (λ a. Ok (Some a.0, a.1))
else_if inside ws = Ok (None, ws)

-- [ "else" block ]
abbrev pub otherwise : Inside → List Word → Read (Option Block)
otherwise inside (word.Else ∷ ws) = block inside ws >>= (λ b. Ok (Some b.0, b.1))
otherwise inside ws = Ok (None, ws)

-- behind "if"
abbrev pub if_stmt : Inside → List Word → Read Stmt
if_stmt inside ws = do
  first ← arm inside ws
  arms ← rounds (else_if inside) (first.0 ∷ []) first.1
  other ← otherwise inside arms.1
  Ok (stmt.If arms.0 other.0, other.1)

-- behind "while"
abbrev pub while_stmt : Inside → List Word → Read Stmt
while_stmt inside ws = arm inside ws >>= (λ a. Ok (stmt.While a.0.test a.0.body, a.1))

-- behind "(" of a for: "let" name "of" expr ")"
abbrev pub each_of : (List Word → Read Expr) → List Word → Read (List ℕ × Expr)
each_of expr ws = do
  begun ← let_word ws
  x ← name begun
  from ← of_word x.1
  list ← expr from
  rest ← close_round list.1
  Ok ((x.0, list.0), rest)

-- "(" "let" name "of" expr ")"
abbrev pub each : Inside → List Word → Read (List ℕ × Expr)
each inside (word.OpenRound ∷ ws) = opened inside ws (λ inner. each_of inner.expr ws)
each inside ws = Err (fault ws)

-- behind "for"
abbrev pub for_stmt : Inside → List Word → Read Stmt
for_stmt inside ws = each inside ws >>= (λ h. block inside h.1 >>= (λ b. Ok (stmt.For h.0.0 h.0.1 b.0, b.1)))

-- a statement, where this is the first word of one
abbrev pub next_stmt : Inside → List Word → Read (Option Stmt)
next_stmt inside (word.Name x ∷ ws) = assignment inside x ws >>= (λ s. Ok (Some s.0, s.1))
next_stmt inside (word.Let ∷ ws) = let_stmt inside ws >>= (λ s. Ok (Some s.0, s.1))
next_stmt inside (word.If ∷ ws) = if_stmt inside ws >>= (λ s. Ok (Some s.0, s.1))
next_stmt inside (word.While ∷ ws) = while_stmt inside ws >>= (λ s. Ok (Some s.0, s.1))
next_stmt inside (word.For ∷ ws) = for_stmt inside ws >>= (λ s. Ok (Some s.0, s.1))
next_stmt inside (word.Yield ∷ ws) = ended inside ws >>= (λ e. Ok (Some (stmt.Yield e.0), e.1))
next_stmt inside (word.Return ∷ ws) = ended inside ws >>= (λ e. Ok (Some (stmt.Return e.0), e.1))
next_stmt inside (word.Throw ∷ ws) = ended inside ws >>= (λ e. Ok (Some (stmt.Throw e.0), e.1))
next_stmt inside (word.Cleanup ∷ ws) = ended inside ws >>= (λ e. Ok (Some (stmt.Cleanup e.0), e.1))
next_stmt inside ws = Ok (None, ws)

-- the statements of a block, and the bracket that closes them
abbrev pub stmts : Inside → List Word → Read (List Stmt)
stmts inside ws = rounds (next_stmt inside) [] ws >>= (λ all. close_curly all.1 >>= (λ rest. Ok (all.0, rest)))

-- How many brackets may open.
abbrev pub inside_of : ℕ → Inside
inside_of zero = None
inside_of (suc room) = Some (record { expr = expr (inside_of room); stmts = stmts (inside_of room) })

-- Behind "{" at the head of a body: whether it is a record. What is neither record nor block is refused at the same word as either.
abbrev pub is_record : List Word → Bool
is_record (word.CloseCurly ∷ ws) = true
is_record (word.Name x ∷ word.Colon ∷ ws) = true
is_record (word.Quoted x ∷ ws) = true
is_record ws = false

abbrev pub body_expr : Inside → List Word → Read Body
body_expr inside ws = expr inside ws >>= (λ e. Ok (body.Expr e.0, e.1))

abbrev pub body_block : Inside → List Word → Read Body
body_block inside ws = block inside ws >>= (λ b. Ok (body.Block b.0, b.1))

abbrev pub braced : Bool → Inside → List Word → Read Body
braced true inside ws = body_expr inside ws
braced false inside ws = body_block inside ws

-- body := "{" stmt { stmt } "}" | expr
abbrev pub body_at : Inside → List Word → Read Body
body_at inside (word.OpenCurly ∷ ws) = braced (is_record ws) inside (word.OpenCurly ∷ ws)
body_at inside ws = body_expr inside ws

abbrev pub cell_of : Option (List ℕ) → Inside → List Word → Read Cell
cell_of name inside ws = body_at inside ws >>= (λ b. Ok (record { name = name; body = b.0 }, b.1))

-- cell := [ name "=" ] body
abbrev pub cell : Inside → List Word → Read Cell
cell inside (word.Name x ∷ word.Assign ∷ ws) = cell_of (Some x) inside ws
cell inside ws = cell_of None inside ws

-- No word is left.
abbrev pub end : Cell → List Word → Result Cell Fault
end c [] = Ok c
end c (w ∷ ws) = Err (fault (w ∷ ws))

-- the whole of the words
abbrev pub whole : ℕ → List Word → Result Cell Fault
whole room ws = cell (inside_of room) ws >>= (λ c. end c.0 c.1)
