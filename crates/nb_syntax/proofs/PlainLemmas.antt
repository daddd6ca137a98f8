-- A plain cell is no generator.
use Rattle.std.proofs.Common.{◌≡◌, refl, sym, ◌∙◌, subst, Bool, true, false, ◌&&◌, List, [], ◌∷◌, map, Some, None}
use Rattle.std.proofs.lemmas.Bool.{false≢true, and_parts}
use Rattle.nb_syntax.specs.declared.tree.Expr.{Expr}
use Rattle.nb_syntax.specs.declared.tree.Block.{Block, ind-Block, roll-Block, fold_out-Block}
use Rattle.nb_syntax.specs.declared.tree.Arm.{Arm, roll-Arm, fold_out-Arm}
use Rattle.nb_syntax.specs.declared.tree.Stmt.{Stmt, roll-Stmt, map-Stmt, fold-roll-Stmt}
use Rattle.nb_syntax.specs.declared.tree.Stmt.TheOpen as level
use Rattle.nb_syntax.specs.declared.tree.Body.{Body}
use Rattle.nb_syntax.specs.declared.tree.Body.TheVariants as body
use Rattle.nb_syntax.specs.declared.tree.Cell.{Cell}
use Rattle.nb_syntax.specs.Generator as yield
use Rattle.nb_syntax.specs.Generator.{stmt_yields, arm_yields, block_yields, some_yield, yields, is_generator}
use Rattle.nb_syntax.specs.Plain as plain
use Rattle.nb_syntax.specs.Plain.{expr_plain, stmt_plain, arm_plain, block_plain, all_plain, body_plain, is_plain}

abbrev Proved : (X : Type 0) → (X → Type 0) → Type 0
Proved X P = (x : X) × P x

abbrev StmtCalm : Stmt → Type 0
StmtCalm s = stmt_plain s ≡ true → stmt_yields s ≡ false

abbrev ArmCalm : Arm → Type 0
ArmCalm a = arm_plain a ≡ true → arm_yields a ≡ false

abbrev BlockCalm : Block → Type 0
BlockCalm b = block_plain b ≡ true → block_yields b ≡ false

arm_plain_is : (a : Arm) → arm_plain a ≡ (expr_plain a.test && block_plain a.body)
arm_plain_is a = fold_out-Arm Bool Bool Bool plain.stmt_step plain.arm_step plain.block_step a

arm_yields_is : (a : Arm) → arm_yields a ≡ block_yields a.body
arm_yields_is a = fold_out-Arm Bool Bool Bool yield.stmt_step yield.arm_step yield.block_step a

block_plain_is : (b : Block) → block_plain b ≡ all_plain (map stmt_plain b.stmts)
block_plain_is b = fold_out-Block Bool Bool Bool plain.stmt_step plain.arm_step plain.block_step b

block_yields_is : (b : Block) → block_yields b ≡ some_yield (map stmt_yields b.stmts)
block_yields_is b = fold_out-Block Bool Bool Bool yield.stmt_step yield.arm_step yield.block_step b

none_of : {X : Type 0} (p q : X → Bool) (xs : List (Proved X (λ x. p x ≡ true → q x ≡ false)))
    → all_plain (map p (map (λ x. x.0) xs)) ≡ true → some_yield (map q (map (λ x. x.0) xs)) ≡ false
none_of p q [] h = refl
none_of p q (x ∷ xs) h =
    let parts : (p x.0 ≡ true) × (all_plain (map p (map (λ y. y.0) xs)) ≡ true) = and_parts _ _ h in
    rw (x.1 parts.0, none_of p q xs parts.1) refl

abbrev Level : Type 0
Level = level.Stmt-F (Proved Stmt StmtCalm) (Proved Arm ArmCalm) (Proved Block BlockCalm)

abbrev bare : Level → level.Stmt-F Stmt Arm Block
bare = map-Stmt (Proved Stmt StmtCalm) (Proved Arm ArmCalm) (Proved Block BlockCalm) Stmt Arm Block (λ e. e.0) (λ e. e.0) (λ e. e.0)

abbrev plains : level.Stmt-F Stmt Arm Block → level.Stmt-F Bool Bool Bool
plains = map-Stmt Stmt Arm Block Bool Bool Bool stmt_plain arm_plain block_plain

abbrev yieldings : level.Stmt-F Stmt Arm Block → level.Stmt-F Bool Bool Bool
yieldings = map-Stmt Stmt Arm Block Bool Bool Bool stmt_yields arm_yields block_yields

plain_roll : (x : level.Stmt-F Stmt Arm Block) → stmt_plain (roll-Stmt x) ≡ plain.stmt_step (plains x)
plain_roll x = fold-roll-Stmt Bool Bool Bool plain.stmt_step plain.arm_step plain.block_step x

yields_roll : (x : level.Stmt-F Stmt Arm Block) → stmt_yields (roll-Stmt x) ≡ yield.stmt_step (yieldings x)
yields_roll x = fold-roll-Stmt Bool Bool Bool yield.stmt_step yield.arm_step yield.block_step x

at_level : (y : Level) → plain.stmt_step (plains (bare y)) ≡ true → yield.stmt_step (yieldings (bare y)) ≡ false
at_level (level.Let n e) h = refl
at_level (level.Assign n e) h = refl
at_level (level.If arms None) h = rw (none_of arm_plain arm_yields arms (and_parts _ _ h).0) refl
at_level (level.If arms (Some b)) h =
    let parts : (all_plain (map arm_plain (map (λ y. y.0) arms)) ≡ true) × (block_plain b.0 ≡ true) = and_parts _ _ h in
    rw (none_of arm_plain arm_yields arms parts.0, b.1 parts.1) refl
at_level (level.While e b) h = b.1 (and_parts (expr_plain e) (block_plain b.0) h).1
at_level (level.For n e b) h = b.1 (and_parts (expr_plain e) (block_plain b.0) h).1
at_level (level.Yield e) h = absurd (false≢true h)
at_level (level.Return e) h = refl
at_level (level.Throw e) h = refl
at_level (level.Cleanup e) h = absurd (false≢true h)

arm_calm : (test : Expr) (b : Proved Block BlockCalm) → ArmCalm (record { test = test; body = b.0 })
arm_calm test b h =
    let a : Arm = record { test = test; body = b.0 } in
    arm_yields_is a ∙ b.1 (and_parts (expr_plain test) (block_plain b.0) (sym (arm_plain_is a) ∙ h)).1

block_calm : (sts : List (Proved Stmt StmtCalm)) → BlockCalm (record { stmts = map (λ x. x.0) sts })
block_calm sts h =
    let b : Block = record { stmts = map (λ x. x.0) sts } in
    block_yields_is b ∙ none_of stmt_plain stmt_yields sts (sym (block_plain_is b) ∙ h)

calm : (b : Block) → BlockCalm b
calm = ind-Block StmtCalm ArmCalm BlockCalm
    (λ x y is. subst (λ z. StmtCalm (roll-Stmt z)) is (λ h. yields_roll (bare y) ∙ at_level y (sym (plain_roll (bare y)) ∙ h)))
    (λ x y is. subst (λ z. ArmCalm (roll-Arm z)) is (arm_calm y.test y.body))
    (λ x y is. subst (λ z. BlockCalm (roll-Block z)) is (block_calm y.stmts))

-- a plain cell is no generator
pub plain_yields : (c : Cell) → is_plain c ≡ true → is_generator c ≡ false
plain_yields c h = go c.body h
  where
    go : (b : Body) → body_plain b ≡ true → yields b ≡ false
    go (body.Expr e) h = refl
    go (body.Block b) h = calm b h
