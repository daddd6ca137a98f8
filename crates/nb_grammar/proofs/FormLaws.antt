-- The form of a tree by its node.
use Rattle.std.proofs.Common.{◌≡◌, ℕ, ℤ, Bool, refl, sym, ap, ◌∙◌, List, map, Option, Some, None}
use Rattle.nb_value.specs.Function.{arity}
use Rattle.nb_value.specs.declared.function.Function.{Function}
use Rattle.nb_syntax.specs.declared.tree.Sign.{Sign}
use Rattle.nb_syntax.specs.declared.tree.Expr.{Expr}
use Rattle.nb_syntax.specs.declared.tree.Expr.TheVariants as tree
use Rattle.nb_syntax.specs.declared.tree.PathStep.{PathStep}
use Rattle.nb_syntax.specs.declared.tree.PathStep.TheVariants as path
use Rattle.nb_syntax.specs.declared.tree.Operand.{Operand}
use Rattle.nb_syntax.specs.declared.tree.Member.{Member}
use Rattle.nb_syntax.specs.declared.tree.Block.{Block}
use Rattle.nb_syntax.specs.declared.tree.Arm.{Arm}
use Rattle.nb_syntax.specs.declared.tree.Stmt.TheVariants as stmt
use Rattle.nb_grammar.specs.Grammar as g
use Rattle.nb_grammar.specs.Grammar.{ExprWay, Steps, BlockWay, StmtWay}
use Rattle.nb_syntax.specs.declared.tree.Expr.{fold-roll-Expr}
use Rattle.nb_syntax.specs.declared.tree.Expr.TheOpen as layer
use Rattle.nb_syntax.specs.declared.tree.Expr.TheViews as views
use Rattle.nb_syntax.specs.declared.tree.PathStep.{fold-roll-PathStep}
use Rattle.nb_syntax.specs.declared.tree.Member.{fold_out-Member}
use Rattle.nb_syntax.specs.declared.tree.Operand.{fold_out-Operand}
use Rattle.nb_syntax.specs.declared.tree.Stmt.{fold-roll-Stmt}
use Rattle.nb_syntax.specs.declared.tree.Stmt.TheOpen as stmt_layer
use Rattle.nb_syntax.specs.declared.tree.Stmt.TheViews as stmt_views
use Rattle.nb_syntax.specs.declared.tree.Arm.{fold_out-Arm}
use Rattle.nb_syntax.specs.declared.tree.Block.{fold_out-Block}
use Rattle.nb_grammar.specs.Forms as f
use Rattle.nb_grammar.specs.Forms.{Forms, of_primary, of_expr, of_compare, of_sum, of_product, of_unary, of_postfix, as_compare, as_unary, summands_of, factors_of, steps_of, list_of, record_of, truth_of, call_of, expr_step, path_step, member_step, operand_step, forms, step_forms, member_forms, operand_forms, stmts_of, stmt_step, arm_step, block_step, stmt_form, arm_form, block_form}

pub forms-Int : (n : ℤ) → forms (tree.Int n) ≡ of_primary (g.number n)
forms-Int n = ap forms (sym (views.rolls-Int n)) ∙ fold-roll-Expr Forms (Steps → Steps) (List ℕ × Forms) (Sign × Forms) expr_step path_step member_step operand_step (layer.Int n)

pub forms-Quoted : (x : List ℕ) → forms (tree.Quoted x) ≡ of_primary (g.quoted x)
forms-Quoted x = ap forms (sym (views.rolls-Quoted x)) ∙ fold-roll-Expr Forms (Steps → Steps) (List ℕ × Forms) (Sign × Forms) expr_step path_step member_step operand_step (layer.Quoted x)

pub forms-Bool : (b : Bool) → forms (tree.Bool b) ≡ of_primary (truth_of b)
forms-Bool b = ap forms (sym (views.rolls-Bool b)) ∙ fold-roll-Expr Forms (Steps → Steps) (List ℕ × Forms) (Sign × Forms) expr_step path_step member_step operand_step (layer.Bool b)

pub forms-Name : (x : List ℕ) → forms (tree.Name x) ≡ of_primary (g.name x)
forms-Name x = ap forms (sym (views.rolls-Name x)) ∙ fold-roll-Expr Forms (Steps → Steps) (List ℕ × Forms) (Sign × Forms) expr_step path_step member_step operand_step (layer.Name x)

pub forms-List : (es : List Expr) → forms (tree.List es) ≡ of_primary (list_of (map forms es))
forms-List es = ap forms (sym (views.rolls-List es)) ∙ fold-roll-Expr Forms (Steps → Steps) (List ℕ × Forms) (Sign × Forms) expr_step path_step member_step operand_step (layer.List es)

pub forms-Rec : (ms : List Member) → forms (tree.Rec ms) ≡ of_primary (record_of (map member_forms ms))
forms-Rec ms = ap forms (sym (views.rolls-Rec ms)) ∙ fold-roll-Expr Forms (Steps → Steps) (List ℕ × Forms) (Sign × Forms) expr_step path_step member_step operand_step (layer.Rec ms)

pub forms-Call : (f : Function) (es : List Expr) → forms (tree.Call f es) ≡ of_primary (call_of f (arity f) refl (map forms es))
forms-Call f es = ap forms (sym (views.rolls-Call f es)) ∙ fold-roll-Expr Forms (Steps → Steps) (List ℕ × Forms) (Sign × Forms) expr_step path_step member_step operand_step (layer.Call f es)

pub forms-Fetch : (e : Expr) → forms (tree.Fetch e) ≡ of_primary (g.fetch (forms e).expr)
forms-Fetch e = ap forms (sym (views.rolls-Fetch e)) ∙ fold-roll-Expr Forms (Steps → Steps) (List ℕ × Forms) (Sign × Forms) expr_step path_step member_step operand_step (layer.Fetch e)

pub forms-Path : (e : Expr) (ss : List PathStep) → forms (tree.Path e ss) ≡ of_postfix (g.postfix (forms e).primary (steps_of (map step_forms ss)))
forms-Path e ss = ap forms (sym (views.rolls-Path e ss)) ∙ fold-roll-Expr Forms (Steps → Steps) (List ℕ × Forms) (Sign × Forms) expr_step path_step member_step operand_step (layer.Path e ss)

pub forms-Unary : (s : Sign) (e : Expr) → forms (tree.Unary s e) ≡ of_unary (g.signed (as_unary s) (forms e).postfix)
forms-Unary s e = ap forms (sym (views.rolls-Unary s e)) ∙ fold-roll-Expr Forms (Steps → Steps) (List ℕ × Forms) (Sign × Forms) expr_step path_step member_step operand_step (layer.Unary s e)

pub forms-Product : (e : Expr) (os : List Operand) → forms (tree.Product e os) ≡ of_product (g.product (forms e).unary (factors_of (map operand_forms os)))
forms-Product e os = ap forms (sym (views.rolls-Product e os)) ∙ fold-roll-Expr Forms (Steps → Steps) (List ℕ × Forms) (Sign × Forms) expr_step path_step member_step operand_step (layer.Product e os)

pub forms-Sum : (e : Expr) (os : List Operand) → forms (tree.Sum e os) ≡ of_sum (g.sum (forms e).product (summands_of (map operand_forms os)))
forms-Sum e os = ap forms (sym (views.rolls-Sum e os)) ∙ fold-roll-Expr Forms (Steps → Steps) (List ℕ × Forms) (Sign × Forms) expr_step path_step member_step operand_step (layer.Sum e os)

pub forms-Compare : (s : Sign) (a b : Expr) → forms (tree.Compare s a b) ≡ of_compare (g.compare (as_compare s) (forms a).sum (forms b).sum)
forms-Compare s a b = ap forms (sym (views.rolls-Compare s a b)) ∙ fold-roll-Expr Forms (Steps → Steps) (List ℕ × Forms) (Sign × Forms) expr_step path_step member_step operand_step (layer.Compare s a b)

pub forms-And : (es : List Expr) → forms (tree.And es) ≡ f.and_of (map forms es)
forms-And es = ap forms (sym (views.rolls-And es)) ∙ fold-roll-Expr Forms (Steps → Steps) (List ℕ × Forms) (Sign × Forms) expr_step path_step member_step operand_step (layer.And es)

pub forms-Or : (es : List Expr) → forms (tree.Or es) ≡ f.or_of (map forms es)
forms-Or es = ap forms (sym (views.rolls-Or es)) ∙ fold-roll-Expr Forms (Steps → Steps) (List ℕ × Forms) (Sign × Forms) expr_step path_step member_step operand_step (layer.Or es)

pub forms-Choose : (c a b : Expr) → forms (tree.Choose c a b) ≡ of_expr (g.choose (forms c).or (forms a).or (forms b).or)
forms-Choose c a b = ap forms (sym (views.rolls-Choose c a b)) ∙ fold-roll-Expr Forms (Steps → Steps) (List ℕ × Forms) (Sign × Forms) expr_step path_step member_step operand_step (layer.Choose c a b)

pub forms-Null : forms tree.Null ≡ of_primary g.null_word
forms-Null = ap forms (sym views.rolls-Null) ∙ fold-roll-Expr Forms (Steps → Steps) (List ℕ × Forms) (Sign × Forms) expr_step path_step member_step operand_step layer.Null

pub step_forms-Field : (x : List ℕ) → step_forms (path.Field x) ≡ g.field x
step_forms-Field x = ap step_forms (sym (path.rolls-Field x)) ∙ fold-roll-PathStep Forms (Steps → Steps) (List ℕ × Forms) (Sign × Forms) expr_step path_step member_step operand_step (layer.Field x)

pub step_forms-At : (e : Expr) → step_forms (path.At e) ≡ g.at (forms e).expr
step_forms-At e = ap step_forms (sym (path.rolls-At e)) ∙ fold-roll-PathStep Forms (Steps → Steps) (List ℕ × Forms) (Sign × Forms) expr_step path_step member_step operand_step (layer.At e)

pub member_is : (m : Member) → member_forms m ≡ (m.key, forms m.value)
member_is m = fold_out-Member Forms (Steps → Steps) (List ℕ × Forms) (Sign × Forms) expr_step path_step member_step operand_step m

pub operand_is : (o : Operand) → operand_forms o ≡ (o.sign, forms o.expr)
operand_is o = fold_out-Operand Forms (Steps → Steps) (List ℕ × Forms) (Sign × Forms) expr_step path_step member_step operand_step o

pub stmt_form-Let : (x : List ℕ) (e : Expr) → stmt_form (stmt.Let x e) ≡ g.let_stmt x (forms e).expr
stmt_form-Let x e = ap stmt_form (sym (stmt_views.rolls-Let x e)) ∙ fold-roll-Stmt StmtWay (ExprWay × BlockWay) BlockWay stmt_step arm_step block_step (stmt_layer.Let x e)

pub stmt_form-Assign : (x : List ℕ) (e : Expr) → stmt_form (stmt.Assign x e) ≡ g.assign_stmt x (forms e).expr
stmt_form-Assign x e = ap stmt_form (sym (stmt_views.rolls-Assign x e)) ∙ fold-roll-Stmt StmtWay (ExprWay × BlockWay) BlockWay stmt_step arm_step block_step (stmt_layer.Assign x e)

pub stmt_form-While : (e : Expr) (b : Block) → stmt_form (stmt.While e b) ≡ g.while_stmt (forms e).expr (block_form b)
stmt_form-While e b = ap stmt_form (sym (stmt_views.rolls-While e b)) ∙ fold-roll-Stmt StmtWay (ExprWay × BlockWay) BlockWay stmt_step arm_step block_step (stmt_layer.While e b)

pub stmt_form-For : (x : List ℕ) (e : Expr) (b : Block) → stmt_form (stmt.For x e b) ≡ g.for_stmt x (forms e).expr (block_form b)
stmt_form-For x e b = ap stmt_form (sym (stmt_views.rolls-For x e b)) ∙ fold-roll-Stmt StmtWay (ExprWay × BlockWay) BlockWay stmt_step arm_step block_step (stmt_layer.For x e b)

pub stmt_form-Yield : (e : Expr) → stmt_form (stmt.Yield e) ≡ g.yield_stmt (forms e).expr
stmt_form-Yield e = ap stmt_form (sym (stmt_views.rolls-Yield e)) ∙ fold-roll-Stmt StmtWay (ExprWay × BlockWay) BlockWay stmt_step arm_step block_step (stmt_layer.Yield e)

pub stmt_form-Return : (e : Expr) → stmt_form (stmt.Return e) ≡ g.return_stmt (forms e).expr
stmt_form-Return e = ap stmt_form (sym (stmt_views.rolls-Return e)) ∙ fold-roll-Stmt StmtWay (ExprWay × BlockWay) BlockWay stmt_step arm_step block_step (stmt_layer.Return e)

pub stmt_form-Throw : (e : Expr) → stmt_form (stmt.Throw e) ≡ g.throw_stmt (forms e).expr
stmt_form-Throw e = ap stmt_form (sym (stmt_views.rolls-Throw e)) ∙ fold-roll-Stmt StmtWay (ExprWay × BlockWay) BlockWay stmt_step arm_step block_step (stmt_layer.Throw e)

pub stmt_form-Cleanup : (e : Expr) → stmt_form (stmt.Cleanup e) ≡ g.cleanup_stmt (forms e).expr
stmt_form-Cleanup e = ap stmt_form (sym (stmt_views.rolls-Cleanup e)) ∙ fold-roll-Stmt StmtWay (ExprWay × BlockWay) BlockWay stmt_step arm_step block_step (stmt_layer.Cleanup e)

abbrev pub other_form : Option Block → Option BlockWay
other_form None = None
other_form (Some b) = Some (block_form b)

pub stmt_form-If : (arms : List Arm) (other : Option Block) → stmt_form (stmt.If arms other) ≡ f.if_of (map arm_form arms) (other_form other)
stmt_form-If arms None = ap stmt_form (sym (stmt_views.rolls-If arms None)) ∙ fold-roll-Stmt StmtWay (ExprWay × BlockWay) BlockWay stmt_step arm_step block_step (stmt_layer.If arms None)
stmt_form-If arms (Some b) = ap stmt_form (sym (stmt_views.rolls-If arms (Some b))) ∙ fold-roll-Stmt StmtWay (ExprWay × BlockWay) BlockWay stmt_step arm_step block_step (stmt_layer.If arms (Some b))

pub arm_is : (a : Arm) → arm_form a ≡ ((forms a.test).expr, block_form a.body)
arm_is a = fold_out-Arm StmtWay (ExprWay × BlockWay) BlockWay stmt_step arm_step block_step a

pub block_is : (b : Block) → block_form b ≡ g.block (stmts_of (map stmt_form b.stmts))
block_is b = fold_out-Block StmtWay (ExprWay × BlockWay) BlockWay stmt_step arm_step block_step b
