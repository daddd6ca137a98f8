-- The free names of a cell.
use Rattle.std.specs.Prelude.{ℕ, Bool, false, ◌||◌, List, [], ◌∷◌, ◌++◌, Option, Some, None, if◌then◌else◌}
use Rattle.std.specs.Str.{bytes_eq}
use Rattle.nb_syntax.specs.declared.tree.Expr.{Expr, fold-Expr}
use Rattle.nb_syntax.specs.declared.tree.Expr.TheOpen as layer
use Rattle.nb_syntax.specs.declared.tree.PathStep.{PathStep, fold-PathStep}
use Rattle.nb_syntax.specs.declared.tree.Member.{Member, fold-Member}
use Rattle.nb_syntax.specs.declared.tree.Operand.{Operand, fold-Operand}
use Rattle.nb_syntax.specs.declared.tree.Stmt.{Stmt, fold-Stmt}
use Rattle.nb_syntax.specs.declared.tree.Stmt.TheOpen as level
use Rattle.nb_syntax.specs.declared.tree.Arm.{Arm, fold-Arm}
use Rattle.nb_syntax.specs.declared.tree.Block.{Block, fold-Block}
use Rattle.nb_syntax.specs.declared.tree.Body.{Body}
use Rattle.nb_syntax.specs.declared.tree.Body.TheVariants as body
use Rattle.nb_syntax.specs.declared.tree.Cell.{Cell}

abbrev pub Name : Type 0
Name = List ℕ

abbrev pub joined : List (List Name) → List Name
joined [] = []
joined (ns ∷ more) = ns ++ joined more

-- every occurrence of a name in an expression, from left to right
abbrev pub expr_step : layer.Expr-F (List Name) (List Name) (List Name) (List Name) → List Name
expr_step (layer.Int n) = []
expr_step (layer.Quoted t) = []
expr_step (layer.Bool b) = []
expr_step layer.Null = []
expr_step (layer.Name n) = n ∷ []
expr_step (layer.List xs) = joined xs
expr_step (layer.Rec members) = joined members
expr_step (layer.Call f args) = joined args
expr_step (layer.Fetch e) = e
expr_step (layer.Path e steps) = e ++ joined steps
expr_step (layer.Unary sign e) = e
expr_step (layer.Product e more) = e ++ joined more
expr_step (layer.Sum e more) = e ++ joined more
expr_step (layer.Compare sign a b) = a ++ b
expr_step (layer.And parts) = joined parts
expr_step (layer.Or parts) = joined parts
expr_step (layer.Choose c a b) = c ++ (a ++ b)

abbrev pub path_step : layer.PathStep-F (List Name) (List Name) (List Name) (List Name) → List Name
path_step (layer.Field t) = []
path_step (layer.At e) = e

abbrev pub member_step : layer.Member-F (List Name) (List Name) (List Name) (List Name) → List Name
member_step m = m.value

abbrev pub operand_step : layer.Operand-F (List Name) (List Name) (List Name) (List Name) → List Name
operand_step o = o.expr

abbrev pub occurrences : Expr → List Name
occurrences = fold-Expr (List Name) (List Name) (List Name) (List Name) expr_step path_step member_step operand_step

abbrev pub step_occurrences : PathStep → List Name
step_occurrences = fold-PathStep (List Name) (List Name) (List Name) (List Name) expr_step path_step member_step operand_step

abbrev pub member_occurrences : Member → List Name
member_occurrences = fold-Member (List Name) (List Name) (List Name) (List Name) expr_step path_step member_step operand_step

abbrev pub operand_occurrences : Operand → List Name
operand_occurrences = fold-Operand (List Name) (List Name) (List Name) (List Name) expr_step path_step member_step operand_step

abbrev pub has_name : Name → List Name → Bool
has_name n [] = false
has_name n (m ∷ ms) = bytes_eq m n || has_name n ms

-- the occurrences of other names than these
abbrev pub without : List Name → List Name → List Name
without scope [] = []
without scope (n ∷ ns) = if has_name n scope then without scope ns else n ∷ without scope ns

-- The names that a statement uses, which are its occurrences outside the scopes inside it, and the names that it
-- makes for the statements after it.
pub record Uses : Type 0 where
  pub names : List Name
  pub makes : List Name

abbrev pub uses_only : List Name → Uses
uses_only names = record { names = names; makes = [] }

abbrev pub other_uses : Option (List Name) → List Name
other_uses None = []
other_uses (Some names) = names

-- a name that a statement makes is in scope in the statements after it
abbrev pub in_order : List Uses → List Name
in_order [] = []
in_order (s ∷ ss) = s.names ++ without s.makes (in_order ss)

abbrev pub stmt_step : level.Stmt-F Uses (List Name) (List Name) → Uses
stmt_step (level.Let n e) = record { names = occurrences e; makes = n ∷ [] }
stmt_step (level.Assign n e) = uses_only (occurrences e)
stmt_step (level.If arms other) = uses_only (joined arms ++ other_uses other)
stmt_step (level.While e b) = uses_only (occurrences e ++ b)
stmt_step (level.For n e b) = uses_only (occurrences e ++ without (n ∷ []) b)
stmt_step (level.Yield e) = uses_only (occurrences e)
stmt_step (level.Return e) = uses_only (occurrences e)
stmt_step (level.Throw e) = uses_only (occurrences e)
stmt_step (level.Cleanup e) = uses_only (occurrences e)

abbrev pub arm_step : level.Arm-F Uses (List Name) (List Name) → List Name
arm_step a = occurrences a.test ++ a.body

abbrev pub block_step : level.Block-F Uses (List Name) (List Name) → List Name
block_step b = in_order b.stmts

abbrev pub stmt_uses : Stmt → Uses
stmt_uses = fold-Stmt Uses (List Name) (List Name) stmt_step arm_step block_step

abbrev pub arm_uses : Arm → List Name
arm_uses = fold-Arm Uses (List Name) (List Name) stmt_step arm_step block_step

abbrev pub block_uses : Block → List Name
block_uses = fold-Block Uses (List Name) (List Name) stmt_step arm_step block_step

-- every occurrence of a free name, from left to right
abbrev pub body_occurrences : Body → List Name
body_occurrences (body.Expr e) = occurrences e
body_occurrences (body.Block b) = block_uses b

-- a name after those that were found, if it isn't among them
abbrev pub noted : List Name → Name → List Name
noted found n = if has_name n found then found else found ++ n ∷ []

-- the names in order of first occurrence, after those that were found
abbrev pub first_occurrences : List Name → List Name → List Name
first_occurrences found [] = found
first_occurrences found (n ∷ ns) = first_occurrences (noted found n) ns

-- the free names, each once, in order of first occurrence
abbrev pub free : Cell → List Name
free c = first_occurrences [] (body_occurrences c.body)
