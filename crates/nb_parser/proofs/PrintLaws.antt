-- What is printed of each kind of tree.
use Rattle.std.proofs.Common.{◌≡◌, ◌∙◌, ap, sym, ℕ, ℤ, Bool, List, ◌++◌, map, Option, Some, None}
use Rattle.std.specs.Prelude.{codes}
use Rattle.nb_value.specs.declared.function.Function.{Function}
use Rattle.nb_syntax.specs.declared.tree.Sign.{Sign}
use Rattle.nb_syntax.specs.declared.tree.Expr.{Expr, fold-roll-Expr}
use Rattle.nb_syntax.specs.declared.tree.Expr.TheVariants as tree
use Rattle.nb_syntax.specs.declared.tree.Expr.TheOpen as layer
use Rattle.nb_syntax.specs.declared.tree.Expr.TheViews as views
use Rattle.nb_syntax.specs.declared.tree.PathStep.{PathStep, fold-roll-PathStep}
use Rattle.nb_syntax.specs.declared.tree.PathStep.TheVariants as path
use Rattle.nb_syntax.specs.declared.tree.Member.{Member, fold_out-Member}
use Rattle.nb_syntax.specs.declared.tree.Operand.{Operand, fold_out-Operand}
use Rattle.nb_syntax.specs.declared.tree.Stmt.{fold-roll-Stmt}
use Rattle.nb_syntax.specs.declared.tree.Stmt.TheVariants as stmt
use Rattle.nb_syntax.specs.declared.tree.Stmt.TheOpen as stmt_layer
use Rattle.nb_syntax.specs.declared.tree.Stmt.TheViews as stmt_views
use Rattle.nb_syntax.specs.declared.tree.Arm.{Arm, fold_out-Arm}
use Rattle.nb_syntax.specs.declared.tree.Block.{Block, fold_out-Block}
use Rattle.nb_syntax.specs.Print.{Piece, printed, bare, expr_step, path_step, member_step, operand_step, path_step_text, member_text, operand, quoted_text, stmt_step, arm_step, block_step, stmt_text, arm_text, block_text, stmts_text}

pub bare-Int : (n : ℤ) → bare (tree.Int n) ≡ expr_step (layer.Int n)
bare-Int n = ap bare (sym (views.rolls-Int n)) ∙ fold-roll-Expr Piece (List ℕ) (List ℕ) (Sign × Piece) expr_step path_step member_step operand_step (layer.Int n)

pub bare-Quoted : (x : List ℕ) → bare (tree.Quoted x) ≡ expr_step (layer.Quoted x)
bare-Quoted x = ap bare (sym (views.rolls-Quoted x)) ∙ fold-roll-Expr Piece (List ℕ) (List ℕ) (Sign × Piece) expr_step path_step member_step operand_step (layer.Quoted x)

pub bare-Bool : (b : Bool) → bare (tree.Bool b) ≡ expr_step (layer.Bool b)
bare-Bool b = ap bare (sym (views.rolls-Bool b)) ∙ fold-roll-Expr Piece (List ℕ) (List ℕ) (Sign × Piece) expr_step path_step member_step operand_step (layer.Bool b)

pub bare-Name : (x : List ℕ) → bare (tree.Name x) ≡ expr_step (layer.Name x)
bare-Name x = ap bare (sym (views.rolls-Name x)) ∙ fold-roll-Expr Piece (List ℕ) (List ℕ) (Sign × Piece) expr_step path_step member_step operand_step (layer.Name x)

pub bare-List : (es : List Expr) → bare (tree.List es) ≡ expr_step (layer.List (map bare es))
bare-List es = ap bare (sym (views.rolls-List es)) ∙ fold-roll-Expr Piece (List ℕ) (List ℕ) (Sign × Piece) expr_step path_step member_step operand_step (layer.List es)

pub bare-Rec : (ms : List Member) → bare (tree.Rec ms) ≡ expr_step (layer.Rec (map member_text ms))
bare-Rec ms = ap bare (sym (views.rolls-Rec ms)) ∙ fold-roll-Expr Piece (List ℕ) (List ℕ) (Sign × Piece) expr_step path_step member_step operand_step (layer.Rec ms)

pub bare-Call : (f : Function) (es : List Expr) → bare (tree.Call f es) ≡ expr_step (layer.Call f (map bare es))
bare-Call f es = ap bare (sym (views.rolls-Call f es)) ∙ fold-roll-Expr Piece (List ℕ) (List ℕ) (Sign × Piece) expr_step path_step member_step operand_step (layer.Call f es)

pub bare-Fetch : (e : Expr) → bare (tree.Fetch e) ≡ expr_step (layer.Fetch (bare e))
bare-Fetch e = ap bare (sym (views.rolls-Fetch e)) ∙ fold-roll-Expr Piece (List ℕ) (List ℕ) (Sign × Piece) expr_step path_step member_step operand_step (layer.Fetch e)

pub bare-Path : (e : Expr) (ss : List PathStep) → bare (tree.Path e ss) ≡ expr_step (layer.Path (bare e) (map path_step_text ss))
bare-Path e ss = ap bare (sym (views.rolls-Path e ss)) ∙ fold-roll-Expr Piece (List ℕ) (List ℕ) (Sign × Piece) expr_step path_step member_step operand_step (layer.Path e ss)

pub bare-Unary : (s : Sign) (e : Expr) → bare (tree.Unary s e) ≡ expr_step (layer.Unary s (bare e))
bare-Unary s e = ap bare (sym (views.rolls-Unary s e)) ∙ fold-roll-Expr Piece (List ℕ) (List ℕ) (Sign × Piece) expr_step path_step member_step operand_step (layer.Unary s e)

pub bare-Product : (e : Expr) (os : List Operand) → bare (tree.Product e os) ≡ expr_step (layer.Product (bare e) (map operand os))
bare-Product e os = ap bare (sym (views.rolls-Product e os)) ∙ fold-roll-Expr Piece (List ℕ) (List ℕ) (Sign × Piece) expr_step path_step member_step operand_step (layer.Product e os)

pub bare-Sum : (e : Expr) (os : List Operand) → bare (tree.Sum e os) ≡ expr_step (layer.Sum (bare e) (map operand os))
bare-Sum e os = ap bare (sym (views.rolls-Sum e os)) ∙ fold-roll-Expr Piece (List ℕ) (List ℕ) (Sign × Piece) expr_step path_step member_step operand_step (layer.Sum e os)

pub bare-Compare : (s : Sign) (a b : Expr) → bare (tree.Compare s a b) ≡ expr_step (layer.Compare s (bare a) (bare b))
bare-Compare s a b = ap bare (sym (views.rolls-Compare s a b)) ∙ fold-roll-Expr Piece (List ℕ) (List ℕ) (Sign × Piece) expr_step path_step member_step operand_step (layer.Compare s a b)

pub bare-And : (es : List Expr) → bare (tree.And es) ≡ expr_step (layer.And (map bare es))
bare-And es = ap bare (sym (views.rolls-And es)) ∙ fold-roll-Expr Piece (List ℕ) (List ℕ) (Sign × Piece) expr_step path_step member_step operand_step (layer.And es)

pub bare-Or : (es : List Expr) → bare (tree.Or es) ≡ expr_step (layer.Or (map bare es))
bare-Or es = ap bare (sym (views.rolls-Or es)) ∙ fold-roll-Expr Piece (List ℕ) (List ℕ) (Sign × Piece) expr_step path_step member_step operand_step (layer.Or es)

pub bare-Choose : (c a b : Expr) → bare (tree.Choose c a b) ≡ expr_step (layer.Choose (bare c) (bare a) (bare b))
bare-Choose c a b = ap bare (sym (views.rolls-Choose c a b)) ∙ fold-roll-Expr Piece (List ℕ) (List ℕ) (Sign × Piece) expr_step path_step member_step operand_step (layer.Choose c a b)

pub bare-Null : bare tree.Null ≡ expr_step layer.Null
bare-Null = ap bare (sym views.rolls-Null) ∙ fold-roll-Expr Piece (List ℕ) (List ℕ) (Sign × Piece) expr_step path_step member_step operand_step layer.Null

pub path-Field : (x : List ℕ) → path_step_text (path.Field x) ≡ codes "." ++ x
path-Field x = ap path_step_text (sym (path.rolls-Field x)) ∙ fold-roll-PathStep Piece (List ℕ) (List ℕ) (Sign × Piece) expr_step path_step member_step operand_step (layer.Field x)

pub path-At : (e : Expr) → path_step_text (path.At e) ≡ codes "[" ++ printed e 0 ++ codes "]"
path-At e = ap path_step_text (sym (path.rolls-At e)) ∙ fold-roll-PathStep Piece (List ℕ) (List ℕ) (Sign × Piece) expr_step path_step member_step operand_step (layer.At e)

pub member_is : (m : Member) → member_text m ≡ quoted_text m.key ++ codes ": " ++ printed m.value 0
member_is m = fold_out-Member Piece (List ℕ) (List ℕ) (Sign × Piece) expr_step path_step member_step operand_step m

pub operand_is : (o : Operand) → operand o ≡ (o.sign, bare o.expr)
operand_is o = fold_out-Operand Piece (List ℕ) (List ℕ) (Sign × Piece) expr_step path_step member_step operand_step o

pub stmt-Let : (x : List ℕ) (e : Expr) → stmt_text (stmt.Let x e) ≡ stmt_step (stmt_layer.Let x e)
stmt-Let x e = ap stmt_text (sym (stmt_views.rolls-Let x e)) ∙ fold-roll-Stmt (List ℕ) (List ℕ) (List ℕ) stmt_step arm_step block_step (stmt_layer.Let x e)

pub stmt-Assign : (x : List ℕ) (e : Expr) → stmt_text (stmt.Assign x e) ≡ stmt_step (stmt_layer.Assign x e)
stmt-Assign x e = ap stmt_text (sym (stmt_views.rolls-Assign x e)) ∙ fold-roll-Stmt (List ℕ) (List ℕ) (List ℕ) stmt_step arm_step block_step (stmt_layer.Assign x e)

pub stmt-While : (e : Expr) (b : Block) → stmt_text (stmt.While e b) ≡ stmt_step (stmt_layer.While e (block_text b))
stmt-While e b = ap stmt_text (sym (stmt_views.rolls-While e b)) ∙ fold-roll-Stmt (List ℕ) (List ℕ) (List ℕ) stmt_step arm_step block_step (stmt_layer.While e b)

pub stmt-For : (x : List ℕ) (e : Expr) (b : Block) → stmt_text (stmt.For x e b) ≡ stmt_step (stmt_layer.For x e (block_text b))
stmt-For x e b = ap stmt_text (sym (stmt_views.rolls-For x e b)) ∙ fold-roll-Stmt (List ℕ) (List ℕ) (List ℕ) stmt_step arm_step block_step (stmt_layer.For x e b)

pub stmt-Yield : (e : Expr) → stmt_text (stmt.Yield e) ≡ stmt_step (stmt_layer.Yield e)
stmt-Yield e = ap stmt_text (sym (stmt_views.rolls-Yield e)) ∙ fold-roll-Stmt (List ℕ) (List ℕ) (List ℕ) stmt_step arm_step block_step (stmt_layer.Yield e)

pub stmt-Return : (e : Expr) → stmt_text (stmt.Return e) ≡ stmt_step (stmt_layer.Return e)
stmt-Return e = ap stmt_text (sym (stmt_views.rolls-Return e)) ∙ fold-roll-Stmt (List ℕ) (List ℕ) (List ℕ) stmt_step arm_step block_step (stmt_layer.Return e)

pub stmt-Throw : (e : Expr) → stmt_text (stmt.Throw e) ≡ stmt_step (stmt_layer.Throw e)
stmt-Throw e = ap stmt_text (sym (stmt_views.rolls-Throw e)) ∙ fold-roll-Stmt (List ℕ) (List ℕ) (List ℕ) stmt_step arm_step block_step (stmt_layer.Throw e)

pub stmt-Cleanup : (e : Expr) → stmt_text (stmt.Cleanup e) ≡ stmt_step (stmt_layer.Cleanup e)
stmt-Cleanup e = ap stmt_text (sym (stmt_views.rolls-Cleanup e)) ∙ fold-roll-Stmt (List ℕ) (List ℕ) (List ℕ) stmt_step arm_step block_step (stmt_layer.Cleanup e)

abbrev pub other_block : Option Block → Option (List ℕ)
other_block None = None
other_block (Some b) = Some (block_text b)

pub stmt-If : (arms : List Arm) (other : Option Block) → stmt_text (stmt.If arms other) ≡ stmt_step (stmt_layer.If (map arm_text arms) (other_block other))
stmt-If arms None = ap stmt_text (sym (stmt_views.rolls-If arms None)) ∙ fold-roll-Stmt (List ℕ) (List ℕ) (List ℕ) stmt_step arm_step block_step (stmt_layer.If arms None)
stmt-If arms (Some b) = ap stmt_text (sym (stmt_views.rolls-If arms (Some b))) ∙ fold-roll-Stmt (List ℕ) (List ℕ) (List ℕ) stmt_step arm_step block_step (stmt_layer.If arms (Some b))

pub arm_is : (a : Arm) → arm_text a ≡ codes "if (" ++ printed a.test 0 ++ codes ") " ++ block_text a.body
arm_is a = fold_out-Arm (List ℕ) (List ℕ) (List ℕ) stmt_step arm_step block_step a

pub block_is : (b : Block) → block_text b ≡ stmts_text (map stmt_text b.stmts)
block_is b = fold_out-Block (List ℕ) (List ℕ) (List ℕ) stmt_step arm_step block_step b
