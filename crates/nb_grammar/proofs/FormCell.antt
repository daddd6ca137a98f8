-- The form of a cell that is spelled has its tree.
use Rattle.std.proofs.Common.{◌≡◌, refl, ap, ◌∙◌, List, ◌∷◌, map, Option, Some, None}
use Rattle.nb_syntax.specs.declared.tree.Expr.{Expr}
use Rattle.nb_syntax.specs.declared.tree.Block.{Block}
use Rattle.nb_syntax.specs.declared.tree.Arm.{Arm}
use Rattle.nb_syntax.specs.declared.tree.Stmt.{Stmt}
use Rattle.nb_syntax.specs.declared.tree.Stmt.TheVariants as stmt
use Rattle.nb_syntax.specs.declared.tree.Body.{Body}
use Rattle.nb_syntax.specs.declared.tree.Body.TheVariants as body
use Rattle.nb_syntax.specs.declared.tree.Cell.{Cell}
use Rattle.nb_grammar.specs.Grammar as g
use Rattle.nb_grammar.specs.Trees as trees
use Rattle.nb_grammar.specs.Grammar.{ExprWay, BlockWay, Stmts, StmtWay, ElseIfs, ElseWay, BodyWay, CellWay}
use Rattle.nb_grammar.specs.Forms as f
use Rattle.nb_grammar.specs.Forms.{forms, stmts_of, else_ifs_of, else_of, stmt_form, arm_form, block_form, body_form, cell_form}
use Rattle.nb_grammar.proofs.FormLaws.{stmt_form-Let, stmt_form-Assign, stmt_form-While, stmt_form-For, stmt_form-Yield, stmt_form-Return, stmt_form-Throw, stmt_form-Cleanup, other_form, stmt_form-If, arm_is, block_is}
use Rattle.nb_grammar.proofs.FormExpr.{expr_fine}

arm_fine : (e : ExprWay) (b : BlockWay) → trees.block_tree (block_form (trees.block_tree b)) ≡ trees.block_tree b
    → (let z : Arm = record { test = trees.expr_tree (forms (trees.expr_tree e)).expr; body = trees.block_tree (block_form (trees.block_tree b)) } in z) ≡ record { test = trees.expr_tree e; body = trees.block_tree b }
arm_fine e b is =
    ap (λ (h : Expr). let z : Arm = record { test = h; body = trees.block_tree (block_form (trees.block_tree b)) } in z) (expr_fine e).expr_is
    ∙ ap (λ (h : Block). let z : Arm = record { test = trees.expr_tree e; body = h } in z) is

mutual
  pub block_fine : (d : BlockWay) → trees.block_tree (block_form (trees.block_tree d)) ≡ trees.block_tree d
  block_fine (g.block more) =
      ap trees.block_tree (block_is (trees.block_tree (g.block more))) ∙ ap (λ (h : List Stmt). let z : Block = record { stmts = h } in z) (stmts_fine more)

  pub stmts_fine : (d : Stmts) → trees.stmts_tree (stmts_of (map stmt_form (trees.stmts_tree d))) ≡ trees.stmts_tree d
  stmts_fine g.no_stmt = refl
  stmts_fine (g.next_stmt s more) =
      ap (λ (h : Stmt). h ∷ trees.stmts_tree (stmts_of (map stmt_form (trees.stmts_tree more)))) (stmt_fine s)
      ∙ ap (λ (h : List Stmt). trees.stmt_tree s ∷ h) (stmts_fine more)

  pub stmt_fine : (d : StmtWay) → trees.stmt_tree (stmt_form (trees.stmt_tree d)) ≡ trees.stmt_tree d
  stmt_fine (g.let_stmt x e) = ap trees.stmt_tree (stmt_form-Let x (trees.expr_tree e)) ∙ ap (λ (h : Expr). stmt.Let x h) (expr_fine e).expr_is
  stmt_fine (g.assign_stmt x e) = ap trees.stmt_tree (stmt_form-Assign x (trees.expr_tree e)) ∙ ap (λ (h : Expr). stmt.Assign x h) (expr_fine e).expr_is
  stmt_fine (g.if_stmt e b more other) =
      let a : Arm = record { test = trees.expr_tree e; body = trees.block_tree b } in
      let arms : List Arm = trees.else_ifs_tree more in
      let o : Option Block = trees.else_tree other in
      ap trees.stmt_tree (stmt_form-If (a ∷ arms) o)
      ∙ ap (λ (z : ExprWay × BlockWay). trees.stmt_tree (g.if_stmt z.0 z.1 (else_ifs_of (map arm_form arms)) (else_of (other_form o)))) (arm_is a)
      ∙ ap (λ (h : Arm). stmt.If (h ∷ trees.else_ifs_tree (else_ifs_of (map arm_form arms))) (trees.else_tree (else_of (other_form o)))) (arm_fine e b (block_fine b))
      ∙ ap (λ (h : List Arm). stmt.If (a ∷ h) (trees.else_tree (else_of (other_form o)))) (else_ifs_fine more)
      ∙ ap (λ (h : Option Block). stmt.If (a ∷ arms) h) (else_fine other)
  stmt_fine (g.while_stmt e b) =
      ap trees.stmt_tree (stmt_form-While (trees.expr_tree e) (trees.block_tree b))
      ∙ ap (λ (h : Expr). stmt.While h (trees.block_tree (block_form (trees.block_tree b)))) (expr_fine e).expr_is
      ∙ ap (λ (h : Block). stmt.While (trees.expr_tree e) h) (block_fine b)
  stmt_fine (g.for_stmt x e b) =
      ap trees.stmt_tree (stmt_form-For x (trees.expr_tree e) (trees.block_tree b))
      ∙ ap (λ (h : Expr). stmt.For x h (trees.block_tree (block_form (trees.block_tree b)))) (expr_fine e).expr_is
      ∙ ap (λ (h : Block). stmt.For x (trees.expr_tree e) h) (block_fine b)
  stmt_fine (g.yield_stmt e) = ap trees.stmt_tree (stmt_form-Yield (trees.expr_tree e)) ∙ ap (λ (h : Expr). stmt.Yield h) (expr_fine e).expr_is
  stmt_fine (g.return_stmt e) = ap trees.stmt_tree (stmt_form-Return (trees.expr_tree e)) ∙ ap (λ (h : Expr). stmt.Return h) (expr_fine e).expr_is
  stmt_fine (g.throw_stmt e) = ap trees.stmt_tree (stmt_form-Throw (trees.expr_tree e)) ∙ ap (λ (h : Expr). stmt.Throw h) (expr_fine e).expr_is
  stmt_fine (g.cleanup_stmt e) = ap trees.stmt_tree (stmt_form-Cleanup (trees.expr_tree e)) ∙ ap (λ (h : Expr). stmt.Cleanup h) (expr_fine e).expr_is

  pub else_ifs_fine : (d : ElseIfs) → trees.else_ifs_tree (else_ifs_of (map arm_form (trees.else_ifs_tree d))) ≡ trees.else_ifs_tree d
  else_ifs_fine g.no_else_if = refl
  else_ifs_fine (g.else_if e b more) =
      let a : Arm = record { test = trees.expr_tree e; body = trees.block_tree b } in
      let ms : ElseIfs = else_ifs_of (map arm_form (trees.else_ifs_tree more)) in
      ap (λ (z : ExprWay × BlockWay). trees.else_ifs_tree (g.else_if z.0 z.1 ms)) (arm_is a)
      ∙ ap (λ (h : Arm). h ∷ trees.else_ifs_tree ms) (arm_fine e b (block_fine b))
      ∙ ap (λ (h : List Arm). a ∷ h) (else_ifs_fine more)

  pub else_fine : (d : ElseWay) → trees.else_tree (else_of (other_form (trees.else_tree d))) ≡ trees.else_tree d
  else_fine g.no_else = refl
  else_fine (g.else_block b) = ap (λ (h : Block). Some h) (block_fine b)

pub body_fine : (d : BodyWay) → trees.body_tree (body_form (trees.body_tree d)) ≡ trees.body_tree d
body_fine (g.expr_body e) = ap (λ (h : Expr). body.Expr h) (expr_fine e).expr_is
body_fine (g.block_body s more) =
    let b : Block = record { stmts = trees.stmts_tree (g.next_stmt s more) } in
    ap (λ (h : BlockWay). trees.body_tree (f.block_body_of h)) (block_is b)
    ∙ ap (λ (h : List Stmt). body.Block (record { stmts = h })) (stmts_fine (g.next_stmt s more))

-- The form of a cell that is spelled has its tree.
pub cell_fine : (d : CellWay) → trees.cell_tree (cell_form (trees.cell_tree d)) ≡ trees.cell_tree d
cell_fine (g.unnamed b) = ap (λ (h : Body). let z : Cell = record { name = None; body = h } in z) (body_fine b)
cell_fine (g.named x b) = ap (λ (h : Body). let z : Cell = record { name = Some x; body = h } in z) (body_fine b)
