-- The way in which a tree is printed: brackets stand exactly where a part's level is lower than its place asks, and keys are quoted.
-- Trees that no words spell have some way too.
use Rattle.std.specs.Prelude.{◌≡◌, Bool, true, false, ℕ, zero, suc, refl, List, [], ◌∷◌, Option, Some, None}
use Rattle.nb_value.specs.Function.{arity}
use Rattle.nb_value.specs.declared.function.Function.{Function}
use Rattle.nb_lexer.specs.declared.word.Word.{Word}
use Rattle.nb_syntax.specs.declared.tree.Sign.{Sign}
use Rattle.nb_syntax.specs.declared.tree.Sign.TheVariants as sign
use Rattle.nb_syntax.specs.declared.tree.Expr.{Expr, fold-Expr}
use Rattle.nb_syntax.specs.declared.tree.Expr.TheOpen as layer
use Rattle.nb_syntax.specs.declared.tree.PathStep.{PathStep, fold-PathStep}
use Rattle.nb_syntax.specs.declared.tree.Member.{Member, fold-Member}
use Rattle.nb_syntax.specs.declared.tree.Operand.{Operand, fold-Operand}
use Rattle.nb_syntax.specs.declared.tree.Stmt.{Stmt, fold-Stmt}
use Rattle.nb_syntax.specs.declared.tree.Stmt.TheOpen as stmt_layer
use Rattle.nb_syntax.specs.declared.tree.Arm.{Arm, fold-Arm}
use Rattle.nb_syntax.specs.declared.tree.Block.{Block, fold-Block}
use Rattle.nb_syntax.specs.declared.tree.Body.{Body}
use Rattle.nb_syntax.specs.declared.tree.Body.TheVariants as body
use Rattle.nb_syntax.specs.declared.tree.Cell.{Cell}
use Rattle.nb_grammar.specs.Grammar as g
use Rattle.nb_grammar.specs.Grammar.{ExprWay, OrWay, OrParts, AndWay, AndParts, CompareWay, SumWay, Summands, ProductWay, Factors, UnaryWay, PostfixWay, Steps, PrimaryWay, Items, Pairs, BlockWay, Stmts, StmtWay, ElseIfs, ElseWay, BodyWay, CellWay, CompareSign, SumSign, ProductSign, UnarySign, cell_words}

-- the ways of an expression at the places of each level
pub record Forms : Type 0 where
  pub expr : ExprWay
  pub or : OrWay
  pub and : AndWay
  pub compare : CompareWay
  pub sum : SumWay
  pub product : ProductWay
  pub unary : UnaryWay
  pub postfix : PostfixWay
  pub primary : PrimaryWay

-- A primary stands at every place as it is.
abbrev pub of_primary : PrimaryWay → Forms
of_primary p =
    let postfix : PostfixWay = g.postfix p g.no_step in
    let unary : UnaryWay = g.unsigned postfix in
    let product : ProductWay = g.product unary g.no_factor in
    let sum : SumWay = g.sum product g.no_summand in
    let compare : CompareWay = g.single sum in
    let and : AndWay = g.and compare g.no_and_part in
    let or : OrWay = g.or and g.no_or_part in
    record { expr = g.plain or; or = or; and = and; compare = compare; sum = sum; product = product; unary = unary; postfix = postfix; primary = p }

-- Of each other level: as it is at the places of its own and of lower levels, and in brackets at those of higher ones.
abbrev pub of_expr : ExprWay → Forms
of_expr e = record (of_primary (g.round e)) { expr = e }

abbrev pub of_or : OrWay → Forms
of_or o = record (of_expr (g.plain o)) { or = o }

abbrev pub of_and : AndWay → Forms
of_and a = record (of_or (g.or a g.no_or_part)) { and = a }

abbrev pub of_compare : CompareWay → Forms
of_compare c = record (of_and (g.and c g.no_and_part)) { compare = c }

abbrev pub of_sum : SumWay → Forms
of_sum s = record (of_compare (g.single s)) { sum = s }

abbrev pub of_product : ProductWay → Forms
of_product p = record (of_sum (g.sum p g.no_summand)) { product = p }

abbrev pub of_unary : UnaryWay → Forms
of_unary u = record (of_product (g.product u g.no_factor)) { unary = u }

abbrev pub of_postfix : PostfixWay → Forms
of_postfix p = record (of_unary (g.unsigned p)) { postfix = p }

abbrev pub as_compare : Sign → CompareSign
as_compare sign.NotEqual = g.not_equal
as_compare sign.Less = g.less
as_compare sign.LessOrEqual = g.less_or_equal
as_compare sign.Greater = g.greater
as_compare sign.GreaterOrEqual = g.greater_or_equal
as_compare _ = g.equal

abbrev pub as_sum : Sign → SumSign
as_sum sign.Minus = g.minus
as_sum _ = g.plus

abbrev pub as_product : Sign → ProductSign
as_product sign.Divide = g.divide
as_product sign.Remainder = g.remainder
as_product _ = g.times

abbrev pub as_unary : Sign → UnarySign
as_unary sign.Not = g.not
as_unary _ = g.negative

abbrev pub or_parts_of : List Forms → OrParts
or_parts_of [] = g.no_or_part
or_parts_of (e ∷ es) = g.or_part e.and (or_parts_of es)

abbrev pub and_parts_of : List Forms → AndParts
and_parts_of [] = g.no_and_part
and_parts_of (e ∷ es) = g.and_part e.compare (and_parts_of es)

abbrev pub summands_of : List (Sign × Forms) → Summands
summands_of [] = g.no_summand
summands_of (o ∷ os) = g.summand (as_sum o.0) o.1.product (summands_of os)

abbrev pub factors_of : List (Sign × Forms) → Factors
factors_of [] = g.no_factor
factors_of (o ∷ os) = g.factor (as_product o.0) o.1.unary (factors_of os)

abbrev pub steps_of : List (Steps → Steps) → Steps
steps_of [] = g.no_step
steps_of (s ∷ ss) = s (steps_of ss)

abbrev pub items_of : List Forms → Items
items_of [] = g.no_item
items_of (e ∷ es) = g.item e.expr (items_of es)

abbrev pub pairs_of : List (List ℕ × Forms) → Pairs
pairs_of [] = g.no_pair
pairs_of (m ∷ ms) = g.next_pair (g.pair (g.quoted_key m.0) m.1.expr) (pairs_of ms)

abbrev pub or_of : List Forms → Forms
or_of [] = of_primary g.null_word
or_of (e ∷ es) = of_or (g.or e.and (or_parts_of es))

abbrev pub and_of : List Forms → Forms
and_of [] = of_primary g.null_word
and_of (e ∷ es) = of_and (g.and e.compare (and_parts_of es))

abbrev pub list_of : List Forms → PrimaryWay
list_of [] = g.no_items
list_of (e ∷ es) = g.items e.expr (items_of es)

abbrev pub record_of : List (List ℕ × Forms) → PrimaryWay
record_of [] = g.no_pairs
record_of (m ∷ ms) = g.pairs (g.pair (g.quoted_key m.0) m.1.expr) (pairs_of ms)

abbrev pub truth_of : Bool → PrimaryWay
truth_of true = g.true_word
truth_of false = g.false_word

abbrev pub call_of : (f : Function) (n : ℕ) → arity f ≡ n → List Forms → PrimaryWay
call_of f (suc zero) is (a ∷ []) = g.call1 f is a.expr
call_of f (suc (suc zero)) is (a ∷ b ∷ []) = g.call2 f is a.expr b.expr
call_of f (suc (suc (suc zero))) is (a ∷ b ∷ c ∷ []) = g.call3 f is a.expr b.expr c.expr
call_of f n is es = g.null_word

abbrev pub expr_step : layer.Expr-F Forms (Steps → Steps) (List ℕ × Forms) (Sign × Forms) → Forms
expr_step (layer.Int n) = of_primary (g.number n)
expr_step (layer.Quoted x) = of_primary (g.quoted x)
expr_step (layer.Bool b) = of_primary (truth_of b)
expr_step layer.Null = of_primary g.null_word
expr_step (layer.Name x) = of_primary (g.name x)
expr_step (layer.List es) = of_primary (list_of es)
expr_step (layer.Rec ms) = of_primary (record_of ms)
expr_step (layer.Call f es) = of_primary (call_of f (arity f) refl es)
expr_step (layer.Fetch e) = of_primary (g.fetch e.expr)
expr_step (layer.Path e steps) = of_postfix (g.postfix e.primary (steps_of steps))
expr_step (layer.Unary s e) = of_unary (g.signed (as_unary s) e.postfix)
expr_step (layer.Product e more) = of_product (g.product e.unary (factors_of more))
expr_step (layer.Sum e more) = of_sum (g.sum e.product (summands_of more))
expr_step (layer.Compare s a b) = of_compare (g.compare (as_compare s) a.sum b.sum)
expr_step (layer.And es) = and_of es
expr_step (layer.Or es) = or_of es
expr_step (layer.Choose c a b) = of_expr (g.choose c.or a.or b.or)

abbrev pub path_step : layer.PathStep-F Forms (Steps → Steps) (List ℕ × Forms) (Sign × Forms) → Steps → Steps
path_step (layer.Field x) = g.field x
path_step (layer.At e) = g.at e.expr

abbrev pub member_step : layer.Member-F Forms (Steps → Steps) (List ℕ × Forms) (Sign × Forms) → List ℕ × Forms
member_step m = (m.key, m.value)

abbrev pub operand_step : layer.Operand-F Forms (Steps → Steps) (List ℕ × Forms) (Sign × Forms) → Sign × Forms
operand_step o = (o.sign, o.expr)

abbrev pub forms : Expr → Forms
forms = fold-Expr Forms (Steps → Steps) (List ℕ × Forms) (Sign × Forms) expr_step path_step member_step operand_step

abbrev pub step_forms : PathStep → Steps → Steps
step_forms = fold-PathStep Forms (Steps → Steps) (List ℕ × Forms) (Sign × Forms) expr_step path_step member_step operand_step

abbrev pub member_forms : Member → List ℕ × Forms
member_forms = fold-Member Forms (Steps → Steps) (List ℕ × Forms) (Sign × Forms) expr_step path_step member_step operand_step

abbrev pub operand_forms : Operand → Sign × Forms
operand_forms = fold-Operand Forms (Steps → Steps) (List ℕ × Forms) (Sign × Forms) expr_step path_step member_step operand_step

-- statements
abbrev pub stmts_of : List StmtWay → Stmts
stmts_of [] = g.no_stmt
stmts_of (s ∷ ss) = g.next_stmt s (stmts_of ss)

abbrev pub else_ifs_of : List (ExprWay × BlockWay) → ElseIfs
else_ifs_of [] = g.no_else_if
else_ifs_of (a ∷ more) = g.else_if a.0 a.1 (else_ifs_of more)

abbrev pub else_of : Option BlockWay → ElseWay
else_of None = g.no_else
else_of (Some b) = g.else_block b

abbrev pub if_of : List (ExprWay × BlockWay) → Option BlockWay → StmtWay
if_of [] other = g.yield_stmt (of_primary g.null_word).expr
if_of (a ∷ more) other = g.if_stmt a.0 a.1 (else_ifs_of more) (else_of other)

abbrev pub stmt_step : stmt_layer.Stmt-F StmtWay (ExprWay × BlockWay) BlockWay → StmtWay
stmt_step (stmt_layer.Let x e) = g.let_stmt x (forms e).expr
stmt_step (stmt_layer.Assign x e) = g.assign_stmt x (forms e).expr
stmt_step (stmt_layer.If arms other) = if_of arms other
stmt_step (stmt_layer.While e b) = g.while_stmt (forms e).expr b
stmt_step (stmt_layer.For x e b) = g.for_stmt x (forms e).expr b
stmt_step (stmt_layer.Yield e) = g.yield_stmt (forms e).expr
stmt_step (stmt_layer.Return e) = g.return_stmt (forms e).expr
stmt_step (stmt_layer.Throw e) = g.throw_stmt (forms e).expr
stmt_step (stmt_layer.Cleanup e) = g.cleanup_stmt (forms e).expr

abbrev pub arm_step : stmt_layer.Arm-F StmtWay (ExprWay × BlockWay) BlockWay → ExprWay × BlockWay
arm_step a = ((forms a.test).expr, a.body)

abbrev pub block_step : stmt_layer.Block-F StmtWay (ExprWay × BlockWay) BlockWay → BlockWay
block_step b = g.block (stmts_of b.stmts)

abbrev pub stmt_form : Stmt → StmtWay
stmt_form = fold-Stmt StmtWay (ExprWay × BlockWay) BlockWay stmt_step arm_step block_step

abbrev pub arm_form : Arm → ExprWay × BlockWay
arm_form = fold-Arm StmtWay (ExprWay × BlockWay) BlockWay stmt_step arm_step block_step

abbrev pub block_form : Block → BlockWay
block_form = fold-Block StmtWay (ExprWay × BlockWay) BlockWay stmt_step arm_step block_step

-- A body without statements is printed as the empty record is.
abbrev pub block_body_of : BlockWay → BodyWay
block_body_of (g.block g.no_stmt) = g.expr_body (of_primary g.no_pairs).expr
block_body_of (g.block (g.next_stmt s more)) = g.block_body s more

abbrev pub body_form : Body → BodyWay
body_form (body.Expr e) = g.expr_body (forms e).expr
body_form (body.Block b) = block_body_of (block_form b)

abbrev pub named_as : Option (List ℕ) → BodyWay → CellWay
named_as None b = g.unnamed b
named_as (Some x) b = g.named x b

abbrev pub cell_form : Cell → CellWay
cell_form c = named_as c.name (body_form c.body)

-- the words that are printed
abbrev pub printed : Cell → List Word
printed c = cell_words (cell_form c) []
