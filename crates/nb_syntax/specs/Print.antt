-- The text of a cell.
use Rattle.std.specs.Prelude.{ℕ, ◌==◌, Bool, true, false, List, [], ◌∷◌, ◌++◌, map, codes, nat_lt, if◌then◌else◌, Option, Some, None}
use Rattle.std.specs.Fmt.{signed_decimal}
use Rattle.nb_value.specs.Function.{function_name}
use Rattle.nb_syntax.specs.declared.tree.Sign.{Sign}
use Rattle.nb_syntax.specs.declared.tree.Sign.TheVariants as sign
use Rattle.nb_syntax.specs.declared.tree.Expr.{Expr, fold-Expr}
use Rattle.nb_syntax.specs.declared.tree.Expr.TheOpen as layer
use Rattle.nb_syntax.specs.declared.tree.PathStep.{PathStep, fold-PathStep}
use Rattle.nb_syntax.specs.declared.tree.Member.{Member, fold-Member}
use Rattle.nb_syntax.specs.declared.tree.Operand.{Operand, fold-Operand}
use Rattle.nb_syntax.specs.declared.tree.Stmt.{Stmt, fold-Stmt}
use Rattle.nb_syntax.specs.declared.tree.Stmt.TheOpen as level
use Rattle.nb_syntax.specs.declared.tree.Arm.{Arm, fold-Arm}
use Rattle.nb_syntax.specs.declared.tree.Block.{Block, fold-Block}
use Rattle.nb_syntax.specs.declared.tree.Body.{Body}
use Rattle.nb_syntax.specs.declared.tree.Body.TheVariants as body
use Rattle.nb_syntax.specs.declared.tree.Cell.{Cell}

-- A text without brackets round it, and its level in the grammar. From low to high: 0 expression, 1 or, 2 and,
-- 3 comparison, 4 sum, 5 product, 6 unary, 7 postfix, 8 primary.
pub record Piece : Type 0 where
  pub level : ℕ
  pub text : List ℕ

abbrev pub piece : ℕ → List ℕ → Piece
piece level text = record { level = level; text = text }

-- in round brackets exactly where its level is lower than its position asks
abbrev pub placed : Piece → ℕ → List ℕ
placed p asked = if nat_lt p.level asked then codes "(" ++ p.text ++ codes ")" else p.text

abbrev pub sign_text : Sign → List ℕ
sign_text sign.Plus = codes "+"
sign_text sign.Minus = codes "-"
sign_text sign.Times = codes "*"
sign_text sign.Divide = codes "/"
sign_text sign.Remainder = codes "%"
sign_text sign.Equal = codes "=="
sign_text sign.NotEqual = codes "!="
sign_text sign.Less = codes "<"
sign_text sign.LessOrEqual = codes "<="
sign_text sign.Greater = codes ">"
sign_text sign.GreaterOrEqual = codes ">="
sign_text sign.Not = codes "!"

abbrev pub bool_text : Bool → List ℕ
bool_text true = codes "true"
bool_text false = codes "false"

-- exactly the quote, the backslash, line feed, carriage return and tab are escaped
abbrev pub escape : ℕ → List ℕ
escape c =
    if c == 34 then codes "\\\"" else
    if c == 92 then codes "\\\\" else
    if c == 10 then codes "\\n" else
    if c == 13 then codes "\\r" else
    if c == 9 then codes "\\t" else
    c ∷ []

abbrev pub escaped : List ℕ → List ℕ
escaped [] = []
escaped (c ∷ cs) = escape c ++ escaped cs

abbrev pub quoted_text : List ℕ → List ℕ
quoted_text t = codes "\"" ++ escaped t ++ codes "\""

-- each text after a separator
abbrev pub each_after : List ℕ → List (List ℕ) → List ℕ
each_after separator [] = []
each_after separator (t ∷ ts) = separator ++ t ++ each_after separator ts

-- the texts with a separator between
abbrev pub separated : List ℕ → List (List ℕ) → List ℕ
separated separator [] = []
separated separator (t ∷ ts) = t ++ each_after separator ts

-- parts at one position, with a separator between
abbrev pub parts_text : List ℕ → ℕ → List Piece → List ℕ
parts_text separator asked ps = separated separator (map (λ p. placed p asked) ps)

abbrev pub steps_text : List (List ℕ) → List ℕ
steps_text [] = []
steps_text (t ∷ ts) = t ++ steps_text ts

-- a binary operator has one space on each side
abbrev pub operand_text : ℕ → Sign × Piece → List ℕ
operand_text asked o = codes " " ++ sign_text o.0 ++ codes " " ++ placed o.1 asked

abbrev pub operands_text : ℕ → List (Sign × Piece) → List ℕ
operands_text asked [] = []
operands_text asked (o ∷ os) = operand_text asked o ++ operands_text asked os

abbrev pub expr_step : layer.Expr-F Piece (List ℕ) (List ℕ) (Sign × Piece) → Piece
expr_step (layer.Int n) = piece 8 (signed_decimal n)
expr_step (layer.Quoted t) = piece 8 (quoted_text t)
expr_step (layer.Bool b) = piece 8 (bool_text b)
expr_step layer.Null = piece 8 (codes "null")
expr_step (layer.Name t) = piece 8 t
expr_step (layer.List xs) = piece 8 (codes "[" ++ parts_text (codes ", ") 0 xs ++ codes "]")
expr_step (layer.Rec members) = piece 8 (codes "{" ++ separated (codes ", ") members ++ codes "}")
expr_step (layer.Call f args) = piece 8 (function_name f ++ codes "(" ++ parts_text (codes ", ") 0 args ++ codes ")")
expr_step (layer.Fetch e) = piece 8 (codes "fetch(" ++ placed e 0 ++ codes ")")
expr_step (layer.Path e steps) = piece 7 (placed e 8 ++ steps_text steps)
expr_step (layer.Unary s e) = piece 6 (sign_text s ++ placed e 7)
expr_step (layer.Product e more) = piece 5 (placed e 6 ++ operands_text 6 more)
expr_step (layer.Sum e more) = piece 4 (placed e 5 ++ operands_text 5 more)
expr_step (layer.Compare s a b) = piece 3 (placed a 4 ++ operand_text 4 (s, b))
expr_step (layer.And parts) = piece 2 (parts_text (codes " && ") 3 parts)
expr_step (layer.Or parts) = piece 1 (parts_text (codes " || ") 2 parts)
expr_step (layer.Choose c a b) = piece 0 (placed c 1 ++ codes " ? " ++ placed a 1 ++ codes " : " ++ placed b 1)

abbrev pub path_step : layer.PathStep-F Piece (List ℕ) (List ℕ) (Sign × Piece) → List ℕ
path_step (layer.Field t) = codes "." ++ t
path_step (layer.At e) = codes "[" ++ placed e 0 ++ codes "]"

-- keys are quoted
abbrev pub member_step : layer.Member-F Piece (List ℕ) (List ℕ) (Sign × Piece) → List ℕ
member_step m = quoted_text m.key ++ codes ": " ++ placed m.value 0

abbrev pub operand_step : layer.Operand-F Piece (List ℕ) (List ℕ) (Sign × Piece) → Sign × Piece
operand_step o = (o.sign, o.expr)

abbrev pub bare : Expr → Piece
bare = fold-Expr Piece (List ℕ) (List ℕ) (Sign × Piece) expr_step path_step member_step operand_step

abbrev pub path_step_text : PathStep → List ℕ
path_step_text = fold-PathStep Piece (List ℕ) (List ℕ) (Sign × Piece) expr_step path_step member_step operand_step

abbrev pub member_text : Member → List ℕ
member_text = fold-Member Piece (List ℕ) (List ℕ) (Sign × Piece) expr_step path_step member_step operand_step

abbrev pub operand : Operand → Sign × Piece
operand = fold-Operand Piece (List ℕ) (List ℕ) (Sign × Piece) expr_step path_step member_step operand_step

-- an expression where this level is asked for
abbrev pub printed : Expr → ℕ → List ℕ
printed e = placed (bare e)

-- the block after the last `else`
abbrev pub other_text : Option (List ℕ) → List ℕ
other_text None = []
other_text (Some b) = codes " else " ++ b

-- a block's statements stand after one space each, and one more stands before its last bracket
abbrev pub stmts_text : List (List ℕ) → List ℕ
stmts_text [] = codes "{}"
stmts_text (s ∷ ss) = codes "{" ++ each_after (codes " ") (s ∷ ss) ++ codes " }"

abbrev pub stmt_step : level.Stmt-F (List ℕ) (List ℕ) (List ℕ) → List ℕ
stmt_step (level.Let n e) = codes "let " ++ n ++ codes " = " ++ printed e 0 ++ codes ";"
stmt_step (level.Assign n e) = n ++ codes " = " ++ printed e 0 ++ codes ";"
stmt_step (level.If arms other) = separated (codes " else ") arms ++ other_text other
stmt_step (level.While e b) = codes "while (" ++ printed e 0 ++ codes ") " ++ b
stmt_step (level.For n e b) = codes "for (let " ++ n ++ codes " of " ++ printed e 0 ++ codes ") " ++ b
stmt_step (level.Yield e) = codes "yield " ++ printed e 0 ++ codes ";"
stmt_step (level.Return e) = codes "return " ++ printed e 0 ++ codes ";"
stmt_step (level.Throw e) = codes "throw " ++ printed e 0 ++ codes ";"
stmt_step (level.Cleanup e) = codes "cleanup " ++ printed e 0 ++ codes ";"

abbrev pub arm_step : level.Arm-F (List ℕ) (List ℕ) (List ℕ) → List ℕ
arm_step a = codes "if (" ++ printed a.test 0 ++ codes ") " ++ a.body

abbrev pub block_step : level.Block-F (List ℕ) (List ℕ) (List ℕ) → List ℕ
block_step b = stmts_text b.stmts

abbrev pub stmt_text : Stmt → List ℕ
stmt_text = fold-Stmt (List ℕ) (List ℕ) (List ℕ) stmt_step arm_step block_step

abbrev pub arm_text : Arm → List ℕ
arm_text = fold-Arm (List ℕ) (List ℕ) (List ℕ) stmt_step arm_step block_step

abbrev pub block_text : Block → List ℕ
block_text = fold-Block (List ℕ) (List ℕ) (List ℕ) stmt_step arm_step block_step

abbrev pub body_text : Body → List ℕ
body_text (body.Expr e) = printed e 0
body_text (body.Block b) = block_text b

abbrev pub name_text : Option (List ℕ) → List ℕ
name_text None = []
name_text (Some n) = n ++ codes " = "

-- `name = body`, or the body alone
abbrev pub cell_text : Cell → List ℕ
cell_text c = name_text c.name ++ body_text c.body
