-- Which cells are generators.
use Rattle.std.specs.Prelude.{Bool, true, false, ◌||◌, List, Option, Some, None}
use Rattle.std.specs.List.{list_any}
use Rattle.nb_syntax.specs.declared.tree.Stmt.{Stmt, fold-Stmt}
use Rattle.nb_syntax.specs.declared.tree.Stmt.TheOpen as level
use Rattle.nb_syntax.specs.declared.tree.Arm.{Arm, fold-Arm}
use Rattle.nb_syntax.specs.declared.tree.Block.{Block, fold-Block}
use Rattle.nb_syntax.specs.declared.tree.Body.{Body}
use Rattle.nb_syntax.specs.declared.tree.Body.TheVariants as body
use Rattle.nb_syntax.specs.declared.tree.Cell.{Cell}

-- one of the parts yields
abbrev pub some_yield : List Bool → Bool
some_yield = list_any (λ b. b)

abbrev pub other_yields : Option Bool → Bool
other_yields None = false
other_yields (Some b) = b

-- it is a yield, or a yield stands in one of its blocks
abbrev pub stmt_step : level.Stmt-F Bool Bool Bool → Bool
stmt_step (level.Let n e) = false
stmt_step (level.Assign n e) = false
stmt_step (level.If arms other) = some_yield arms || other_yields other
stmt_step (level.While e b) = b
stmt_step (level.For n e b) = b
stmt_step (level.Yield e) = true
stmt_step (level.Return e) = false
stmt_step (level.Throw e) = false
stmt_step (level.Cleanup e) = false

abbrev pub arm_step : level.Arm-F Bool Bool Bool → Bool
arm_step a = a.body

abbrev pub block_step : level.Block-F Bool Bool Bool → Bool
block_step b = some_yield b.stmts

abbrev pub stmt_yields : Stmt → Bool
stmt_yields = fold-Stmt Bool Bool Bool stmt_step arm_step block_step

abbrev pub arm_yields : Arm → Bool
arm_yields = fold-Arm Bool Bool Bool stmt_step arm_step block_step

abbrev pub block_yields : Block → Bool
block_yields = fold-Block Bool Bool Bool stmt_step arm_step block_step

-- an expression yields nothing
abbrev pub yields : Body → Bool
yields (body.Expr e) = false
yields (body.Block b) = block_yields b

-- a yield stands in its body, at any depth of blocks
abbrev pub is_generator : Cell → Bool
is_generator c = yields c.body
