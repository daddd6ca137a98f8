-- Statements with a value.
use Rattle.nb_syntax.specs.declared.tree.Expr.{Expr}
use Rattle.nb_syntax.specs.declared.tree.Stmt.{Stmt}
use Rattle.nb_syntax.specs.declared.tree.Stmt.TheVariants as stmt
use Rattle.nb_parser.specs.declared.statements.Effect.{Effect}
use Rattle.nb_parser.specs.declared.statements.Effect.TheVariants as effect

-- the statement that does this with the value
abbrev pub effect_of : Effect → Expr → Stmt
effect_of effect.Yield value = stmt.Yield value
effect_of effect.Return value = stmt.Return value
effect_of effect.Throw value = stmt.Throw value
effect_of effect.Cleanup value = stmt.Cleanup value
