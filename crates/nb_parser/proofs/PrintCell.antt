-- The text of a cell's form is what is printed of the cell.
use Rattle.std.proofs.Common.{◌≡◌, ℕ, refl, sym, ap, ◌∙◌, List, ◌∷◌, ◌++◌, map, Option}
use Rattle.std.specs.Prelude.{codes}
use Rattle.nb_syntax.specs.declared.tree.Expr.{Expr}
use Rattle.nb_syntax.specs.declared.tree.Block.{Block}
use Rattle.nb_syntax.specs.declared.tree.Arm.{Arm}
use Rattle.nb_syntax.specs.declared.tree.Stmt.{Stmt}
use Rattle.nb_syntax.specs.Print.{placed, bare, each_after, other_text}
use Rattle.nb_syntax.specs.Print as print
use Rattle.nb_grammar.specs.Grammar as g
use Rattle.nb_grammar.specs.Trees as trees
use Rattle.nb_grammar.specs.Grammar.{ExprWay, BlockWay, Stmts, StmtWay, ElseIfs, ElseWay, BodyWay, CellWay}
use Rattle.nb_grammar.specs.Forms.{forms, stmts_of, else_ifs_of, else_of, stmt_form, arm_form, block_form, block_body_of, body_form, cell_form}
use Rattle.nb_grammar.proofs.FormLaws.{other_form}
use Rattle.nb_grammar.proofs.FormLaws as form
use Rattle.nb_parser.proofs.WayTexts as text
use Rattle.nb_parser.proofs.PrintLaws.{other_block}
use Rattle.nb_parser.proofs.PrintLaws as laws
use Rattle.nb_parser.proofs.PrintForms.{join2, join3, join4, join5, two}
use Rattle.nb_parser.proofs.PrintExpr.{expr_prints}

-- a keyword, and an expression that ends with a semicolon
ended : (before : List ℕ) (e : ExprWay) (t : List ℕ) → (let x : Expr = trees.expr_tree e in
    before ++ text.expr_text (forms x).expr (codes ";" ++ t) ≡ (before ++ placed (bare x) 0 ++ codes ";") ++ t)
ended before e t = ap (λ r. before ++ r) ((expr_prints e).expr_is _) ∙ join3 before (placed (bare (trees.expr_tree e)) 0) (codes ";") t

-- what stands before an expression in brackets, and a block behind it
tested : (before : List ℕ) (e : ExprWay) (b : BlockWay) → ((t : List ℕ) → text.block_text (block_form (trees.block_tree b)) t ≡ print.block_text (trees.block_tree b) ++ t) → (t : List ℕ)
    → (let x : Expr = trees.expr_tree e in let y : Block = trees.block_tree b in
    before ++ text.expr_text (forms x).expr (codes ") " ++ text.block_text (block_form y) t) ≡ (before ++ placed (bare x) 0 ++ codes ") " ++ print.block_text y) ++ t)
tested before e b h t =
    let p : List ℕ = placed (bare (trees.expr_tree e)) 0 in
    ap (λ r. before ++ r) ((expr_prints e).expr_is _) ∙ ap (λ r. before ++ (p ++ (codes ") " ++ r))) (h t) ∙ join4 before p (codes ") ") (print.block_text (trees.block_tree b)) t

-- the words of an arm, from its `if` on
arm_prints : (e : ExprWay) (b : BlockWay) → ((t : List ℕ) → text.block_text (block_form (trees.block_tree b)) t ≡ print.block_text (trees.block_tree b) ++ t)
    → (a : Arm) → a ≡ record { test = trees.expr_tree e; body = trees.block_tree b } → (t : List ℕ)
    → codes "if (" ++ text.expr_text (arm_form a).0 (codes ") " ++ text.block_text (arm_form a).1 t) ≡ print.arm_text a ++ t
arm_prints e b h a is t =
    let k : Arm = record { test = trees.expr_tree e; body = trees.block_tree b } in
    ap (λ (z : Arm). codes "if (" ++ text.expr_text (arm_form z).0 (codes ") " ++ text.block_text (arm_form z).1 t)) is
    ∙ ap (λ (z : ExprWay × BlockWay). codes "if (" ++ text.expr_text z.0 (codes ") " ++ text.block_text z.1 t)) (form.arm_is k)
    ∙ tested (codes "if (") e b h t
    ∙ ap (λ r. r ++ t) (sym (laws.arm_is k))
    ∙ ap (λ (z : Arm). print.arm_text z ++ t) (sym is)

mutual
  pub block_prints : (d : BlockWay) (t : List ℕ) → text.block_text (block_form (trees.block_tree d)) t ≡ print.block_text (trees.block_tree d) ++ t
  block_prints (g.block g.no_stmt) t =
      let b : Block = trees.block_tree (g.block g.no_stmt) in
      ap (λ (z : BlockWay). text.block_text z t) (form.block_is b) ∙ ap (λ r. r ++ t) (sym (laws.block_is b))
  block_prints (g.block (g.next_stmt s more)) t =
      let b : Block = trees.block_tree (g.block (g.next_stmt s more)) in
      ap (λ (z : BlockWay). text.block_text z t) (form.block_is b)
      ∙ ap (λ r. codes "{" ++ r) (stmts_prints (g.next_stmt s more) (codes " }" ++ t))
      ∙ join3 (codes "{") (each_after (codes " ") (map print.stmt_text b.stmts)) (codes " }") t
      ∙ ap (λ r. r ++ t) (sym (laws.block_is b))

  pub stmts_prints : (d : Stmts) (t : List ℕ) → text.stmts_text (stmts_of (map stmt_form (trees.stmts_tree d))) t ≡ each_after (codes " ") (map print.stmt_text (trees.stmts_tree d)) ++ t
  stmts_prints g.no_stmt t = refl
  stmts_prints (g.next_stmt s more) t =
      let x : Stmt = trees.stmt_tree s in
      let xs : List Stmt = trees.stmts_tree more in
      ap (λ r. codes " " ++ r) (two (text.stmt_text (stmt_form x)) (text.stmts_text (stmts_of (map stmt_form xs))) (print.stmt_text x) (each_after (codes " ") (map print.stmt_text xs)) (stmt_prints s) (stmts_prints more) t)

  pub stmt_prints : (d : StmtWay) (t : List ℕ) → text.stmt_text (stmt_form (trees.stmt_tree d)) t ≡ print.stmt_text (trees.stmt_tree d) ++ t
  stmt_prints (g.let_stmt x e) t =
      let y : Expr = trees.expr_tree e in
      ap (λ (z : StmtWay). text.stmt_text z t) (form.stmt_form-Let x y)
      ∙ ap (λ r. codes "let " ++ (x ++ (codes " = " ++ r))) ((expr_prints e).expr_is _)
      ∙ join5 (codes "let ") x (codes " = ") (placed (bare y) 0) (codes ";") t
      ∙ ap (λ r. r ++ t) (sym (laws.stmt-Let x y))
  stmt_prints (g.assign_stmt x e) t =
      let y : Expr = trees.expr_tree e in
      ap (λ (z : StmtWay). text.stmt_text z t) (form.stmt_form-Assign x y)
      ∙ ap (λ r. x ++ (codes " = " ++ r)) ((expr_prints e).expr_is _)
      ∙ join4 x (codes " = ") (placed (bare y) 0) (codes ";") t
      ∙ ap (λ r. r ++ t) (sym (laws.stmt-Assign x y))
  stmt_prints (g.if_stmt e b more other) t =
      let a : Arm = record { test = trees.expr_tree e; body = trees.block_tree b } in
      let arms : List Arm = trees.else_ifs_tree more in
      let o : Option Block = trees.else_tree other in
      let u : List ℕ = text.else_text (else_of (other_form o)) t in
      ap (λ (z : StmtWay). text.stmt_text z t) (form.stmt_form-If (a ∷ arms) o)
      ∙ arm_prints e b (block_prints b) a refl (text.else_ifs_text (else_ifs_of (map arm_form arms)) u)
      ∙ ap (λ r. print.arm_text a ++ r) (else_ifs_prints more u)
      ∙ ap (λ r. print.arm_text a ++ (each_after (codes " else ") (map print.arm_text arms) ++ r)) (else_prints other t)
      ∙ join3 (print.arm_text a) (each_after (codes " else ") (map print.arm_text arms)) (other_text (other_block o)) t
      ∙ ap (λ r. r ++ t) (sym (laws.stmt-If (a ∷ arms) o))
  stmt_prints (g.while_stmt e b) t =
      ap (λ (z : StmtWay). text.stmt_text z t) (form.stmt_form-While (trees.expr_tree e) (trees.block_tree b))
      ∙ tested (codes "while (") e b (block_prints b) t
      ∙ ap (λ r. r ++ t) (sym (laws.stmt-While (trees.expr_tree e) (trees.block_tree b)))
  stmt_prints (g.for_stmt x e b) t =
      let y : Expr = trees.expr_tree e in
      let k : Block = trees.block_tree b in
      let inner : List ℕ = text.expr_text (forms y).expr (codes ") " ++ text.block_text (block_form k) t) in
      ap (λ (z : StmtWay). text.stmt_text z t) (form.stmt_form-For x y k)
      ∙ join3 (codes "for (let ") x (codes " of ") inner
      ∙ tested (codes "for (let " ++ x ++ codes " of ") e b (block_prints b) t
      ∙ ap (λ r. r ++ t) (sym (laws.stmt-For x y k))
  stmt_prints (g.yield_stmt e) t =
      ap (λ (z : StmtWay). text.stmt_text z t) (form.stmt_form-Yield (trees.expr_tree e)) ∙ ended (codes "yield ") e t ∙ ap (λ r. r ++ t) (sym (laws.stmt-Yield (trees.expr_tree e)))
  stmt_prints (g.return_stmt e) t =
      ap (λ (z : StmtWay). text.stmt_text z t) (form.stmt_form-Return (trees.expr_tree e)) ∙ ended (codes "return ") e t ∙ ap (λ r. r ++ t) (sym (laws.stmt-Return (trees.expr_tree e)))
  stmt_prints (g.throw_stmt e) t =
      ap (λ (z : StmtWay). text.stmt_text z t) (form.stmt_form-Throw (trees.expr_tree e)) ∙ ended (codes "throw ") e t ∙ ap (λ r. r ++ t) (sym (laws.stmt-Throw (trees.expr_tree e)))
  stmt_prints (g.cleanup_stmt e) t =
      ap (λ (z : StmtWay). text.stmt_text z t) (form.stmt_form-Cleanup (trees.expr_tree e)) ∙ ended (codes "cleanup ") e t ∙ ap (λ r. r ++ t) (sym (laws.stmt-Cleanup (trees.expr_tree e)))

  pub else_ifs_prints : (d : ElseIfs) (t : List ℕ) → text.else_ifs_text (else_ifs_of (map arm_form (trees.else_ifs_tree d))) t ≡ each_after (codes " else ") (map print.arm_text (trees.else_ifs_tree d)) ++ t
  else_ifs_prints g.no_else_if t = refl
  else_ifs_prints (g.else_if e b more) t =
      let a : Arm = record { test = trees.expr_tree e; body = trees.block_tree b } in
      let arms : List Arm = trees.else_ifs_tree more in
      ap (λ r. codes " else " ++ r) (arm_prints e b (block_prints b) a refl (text.else_ifs_text (else_ifs_of (map arm_form arms)) t)
      ∙ ap (λ r. print.arm_text a ++ r) (else_ifs_prints more t)
      ∙ join2 (print.arm_text a) (each_after (codes " else ") (map print.arm_text arms)) t)

  pub else_prints : (d : ElseWay) (t : List ℕ) → text.else_text (else_of (other_form (trees.else_tree d))) t ≡ other_text (other_block (trees.else_tree d)) ++ t
  else_prints g.no_else t = refl
  else_prints (g.else_block b) t = ap (λ r. codes " else " ++ r) (block_prints b t)

body_prints : (d : BodyWay) (t : List ℕ) → text.body_text (body_form (trees.body_tree d)) t ≡ print.body_text (trees.body_tree d) ++ t
body_prints (g.expr_body e) t = (expr_prints e).expr_is t
body_prints (g.block_body s more) t =
    let b : Block = trees.block_tree (g.block (g.next_stmt s more)) in
    ap (λ (z : BlockWay). text.body_text (block_body_of z) t) (form.block_is b)
    ∙ ap (λ (z : BlockWay). text.block_text z t) (sym (form.block_is b))
    ∙ block_prints (g.block (g.next_stmt s more)) t

-- The text of the form of a cell that is spelled is what is printed of the cell.
pub cell_prints : (d : CellWay) (t : List ℕ) → text.way_text (cell_form (trees.cell_tree d)) t ≡ print.cell_text (trees.cell_tree d) ++ t
cell_prints (g.unnamed b) t = body_prints b t
cell_prints (g.named x b) t =
    ap (λ r. x ++ (codes " = " ++ r)) (body_prints b t) ∙ join3 x (codes " = ") (print.body_text (trees.body_tree b)) t
