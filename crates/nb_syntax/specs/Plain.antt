-- Which cells are plain: no fetch, yield or cleanup stands anywhere in them.
use Rattle.std.specs.Prelude.{Bool, true, false, ◌&&◌, List, Option, Some, None}
use Rattle.std.specs.List.{list_all}
use Rattle.nb_syntax.specs.declared.tree.Expr.{Expr, fold-Expr}
use Rattle.nb_syntax.specs.declared.tree.Expr.TheOpen as layer
use Rattle.nb_syntax.specs.declared.tree.PathStep.{PathStep, fold-PathStep}
use Rattle.nb_syntax.specs.declared.tree.Member.{Member, fold-Member}
use Rattle.nb_syntax.specs.declared.tree.Operand.{Operand, fold-Operand}
use Rattle.nb_syntax.specs.declared.tree.Stmt.{Stmt, fold-Stmt}
use Rattle.nb_syntax.specs.declared.tree.Stmt.TheOpen as level
use Rattle.nb_syntax.specs.declared.tree.Arm.{Arm, fold-Arm}
use Rattle.nb_syntax.specs.declared.tree.Block.{Block, fold-Block}
use Rattle.nb_syntax.specs.declared.tree.Body.{Body}
use Rattle.nb_syntax.specs.declared.tree.Body.TheVariants as body
use Rattle.nb_syntax.specs.declared.tree.Cell.{Cell}

-- each of the parts is plain
abbrev pub all_plain : List Bool → Bool
all_plain = list_all (λ b. b)

-- an expression is plain where no fetch stands in it
abbrev pub expr_step : layer.Expr-F Bool Bool Bool Bool → Bool
expr_step (layer.Int n) = true
expr_step (layer.Quoted t) = true
expr_step (layer.Bool b) = true
expr_step layer.Null = true
expr_step (layer.Name t) = true
expr_step (layer.List xs) = all_plain xs
expr_step (layer.Rec members) = all_plain members
expr_step (layer.Call f args) = all_plain args
expr_step (layer.Fetch e) = false
expr_step (layer.Path e steps) = e && all_plain steps
expr_step (layer.Unary sign e) = e
expr_step (layer.Product e more) = e && all_plain more
expr_step (layer.Sum e more) = e && all_plain more
expr_step (layer.Compare sign a b) = a && b
expr_step (layer.And parts) = all_plain parts
expr_step (layer.Or parts) = all_plain parts
expr_step (layer.Choose c a b) = c && (a && b)

abbrev pub path_step : layer.PathStep-F Bool Bool Bool Bool → Bool
path_step (layer.Field t) = true
path_step (layer.At e) = e

abbrev pub member_step : layer.Member-F Bool Bool Bool Bool → Bool
member_step m = m.value

abbrev pub operand_step : layer.Operand-F Bool Bool Bool Bool → Bool
operand_step o = o.expr

abbrev pub expr_plain : Expr → Bool
expr_plain = fold-Expr Bool Bool Bool Bool expr_step path_step member_step operand_step

abbrev pub path_step_plain : PathStep → Bool
path_step_plain = fold-PathStep Bool Bool Bool Bool expr_step path_step member_step operand_step

abbrev pub member_plain : Member → Bool
member_plain = fold-Member Bool Bool Bool Bool expr_step path_step member_step operand_step

abbrev pub operand_plain : Operand → Bool
operand_plain = fold-Operand Bool Bool Bool Bool expr_step path_step member_step operand_step

abbrev pub other_plain : Option Bool → Bool
other_plain None = true
other_plain (Some b) = b

-- a statement is plain where it is no yield and no cleanup, and its expressions and blocks are plain
abbrev pub stmt_step : level.Stmt-F Bool Bool Bool → Bool
stmt_step (level.Let n e) = expr_plain e
stmt_step (level.Assign n e) = expr_plain e
stmt_step (level.If arms other) = all_plain arms && other_plain other
stmt_step (level.While e b) = expr_plain e && b
stmt_step (level.For n e b) = expr_plain e && b
stmt_step (level.Yield e) = false
stmt_step (level.Return e) = expr_plain e
stmt_step (level.Throw e) = expr_plain e
stmt_step (level.Cleanup e) = false

abbrev pub arm_step : level.Arm-F Bool Bool Bool → Bool
arm_step a = expr_plain a.test && a.body

abbrev pub block_step : level.Block-F Bool Bool Bool → Bool
block_step b = all_plain b.stmts

abbrev pub stmt_plain : Stmt → Bool
stmt_plain = fold-Stmt Bool Bool Bool stmt_step arm_step block_step

abbrev pub arm_plain : Arm → Bool
arm_plain = fold-Arm Bool Bool Bool stmt_step arm_step block_step

abbrev pub block_plain : Block → Bool
block_plain = fold-Block Bool Bool Bool stmt_step arm_step block_step

abbrev pub body_plain : Body → Bool
body_plain (body.Expr e) = expr_plain e
body_plain (body.Block b) = block_plain b

-- no fetch, yield or cleanup stands in it, in expressions and blocks of any depth
abbrev pub is_plain : Cell → Bool
is_plain c = body_plain c.body
