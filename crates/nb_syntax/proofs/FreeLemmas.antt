-- The names of trees with several parts, and names of one list after another.
use Rattle.std.proofs.Common.{◌≡◌, ℕ, zero, suc, ◌+◌, ◌<◌, ◌||◌, List, [], ◌∷◌, ◌++◌, ◌∙◌, refl, sym, ap, map, drop, take, ◌≤◌, length, length-take, get_or, add-one, arith, Some}
use mathlib.Core.Logic.{◌⊎◌, ⊎_elim}
use Rattle.std.proofs.lemmas.List.{take-append-le, drop_all}
use Rattle.nb_syntax.specs.declared.tree.Sign.{Sign}
use Rattle.nb_syntax.specs.declared.tree.Expr.{Expr, roll-Expr, map-Expr, fold-roll-Expr}
use Rattle.nb_syntax.specs.declared.tree.Expr.TheOpen as layer
use Rattle.nb_syntax.specs.declared.tree.Expr.TheViews.{rolls-Path, rolls-Product, rolls-Sum, rolls-Compare, rolls-Choose}
use Rattle.nb_syntax.specs.declared.tree.Expr.TheVariants as expr
use Rattle.nb_syntax.specs.declared.tree.PathStep.{PathStep}
use Rattle.nb_syntax.specs.declared.tree.Member.{Member, fold_out-Member}
use Rattle.nb_syntax.specs.declared.tree.Operand.{Operand, fold_out-Operand}
use Rattle.nb_syntax.specs.declared.tree.Stmt.{Stmt, roll-Stmt, map-Stmt, fold-roll-Stmt}
use Rattle.nb_syntax.specs.declared.tree.Stmt.TheOpen as level
use Rattle.nb_syntax.specs.declared.tree.Stmt.TheViews.{rolls-If, rolls-While, rolls-For}
use Rattle.nb_syntax.specs.declared.tree.Stmt.TheVariants as stmt
use Rattle.nb_syntax.specs.declared.tree.Arm.{Arm, fold_out-Arm}
use Rattle.nb_syntax.specs.declared.tree.Block.{Block, fold_out-Block}
use Rattle.nb_syntax.specs.FreeNames.{Name, has_name, noted, without, first_occurrences, joined, Uses, in_order, occurrences, step_occurrences, member_occurrences, operand_occurrences, expr_step, path_step, member_step, operand_step, stmt_uses, arm_uses, block_uses, stmt_step, arm_step, block_step}

-- ---- names of one list after another, and outside one scope inside another

first_occurrences_append : (found ns ms : List Name) → first_occurrences found (ns ++ ms) ≡ first_occurrences (first_occurrences found ns) ms
first_occurrences_append found [] ms = refl
first_occurrences_append found (n ∷ ns) ms = first_occurrences_append (noted found n) ns ms

without_append : (scope ns ms : List Name) → without scope (ns ++ ms) ≡ without scope ns ++ without scope ms
without_append scope [] ms = refl
without_append scope (n ∷ ns) ms = grind (arith, without_append scope ns ms)

has_name_append : (n : Name) (ns ms : List Name) → has_name n (ns ++ ms) ≡ (has_name n ns || has_name n ms)
has_name_append n [] ms = refl
has_name_append n (m ∷ ns) ms = grind (arith, has_name_append n ns ms)

-- outside the inner scope, and then outside the outer one
pub without_inner : (outer inner ns : List Name) → without outer (without inner ns) ≡ without (outer ++ inner) ns
without_inner outer inner [] = refl
without_inner outer inner (n ∷ ns) = grind (arith, has_name_append n outer inner, without_inner outer inner ns)

pub without_none : (ns : List Name) → without [] ns ≡ ns
without_none [] = refl
without_none (n ∷ ns) = ap (λ ms. n ∷ ms) (without_none ns)

-- what is found in one list, and then in another
pub found_append : (scope found ns ms : List Name) → first_occurrences found (without scope (ns ++ ms)) ≡ first_occurrences (first_occurrences found (without scope ns)) (without scope ms)
found_append scope found ns ms = rw (without_append scope ns ms, first_occurrences_append found (without scope ns) (without scope ms)) refl

-- ---- expressions of several parts

is_step : (x : layer.Expr-F Expr PathStep Member Operand) → occurrences (roll-Expr x) ≡ expr_step (map-Expr Expr PathStep Member Operand (List Name) (List Name) (List Name) (List Name) occurrences step_occurrences member_occurrences operand_occurrences x)
is_step = fold-roll-Expr (List Name) (List Name) (List Name) (List Name) expr_step path_step member_step operand_step

pub of_path : (e : Expr) (steps : List PathStep) → occurrences (expr.Path e steps) ≡ occurrences e ++ joined (map step_occurrences steps)
of_path e steps = ap occurrences (sym (rolls-Path e steps)) ∙ is_step (layer.Path e steps)

of_product : (e : Expr) (os : List Operand) → occurrences (expr.Product e os) ≡ occurrences e ++ joined (map operand_occurrences os)
of_product e os = ap occurrences (sym (rolls-Product e os)) ∙ is_step (layer.Product e os)

of_sum : (e : Expr) (os : List Operand) → occurrences (expr.Sum e os) ≡ occurrences e ++ joined (map operand_occurrences os)
of_sum e os = ap occurrences (sym (rolls-Sum e os)) ∙ is_step (layer.Sum e os)

pub of_operator : (x e : Expr) (os : List Operand) → (x ≡ expr.Product e os) ⊎ (x ≡ expr.Sum e os) → occurrences x ≡ occurrences e ++ joined (map operand_occurrences os)
of_operator x e os h = ⊎_elim (λ is. ap occurrences is ∙ of_product e os) (λ is. ap occurrences is ∙ of_sum e os) h

pub of_compare : (s : Sign) (a b : Expr) → occurrences (expr.Compare s a b) ≡ occurrences a ++ occurrences b
of_compare s a b = ap occurrences (sym (rolls-Compare s a b)) ∙ is_step (layer.Compare s a b)

pub of_choose : (a b c : Expr) → occurrences (expr.Choose a b c) ≡ occurrences a ++ (occurrences b ++ occurrences c)
of_choose a b c = ap occurrences (sym (rolls-Choose a b c)) ∙ is_step (layer.Choose a b c)

pub of_member : (m : Member) → member_occurrences m ≡ occurrences m.value
of_member m = fold_out-Member (List Name) (List Name) (List Name) (List Name) expr_step path_step member_step operand_step m

pub of_operand : (o : Operand) → operand_occurrences o ≡ occurrences o.expr
of_operand o = fold_out-Operand (List Name) (List Name) (List Name) (List Name) expr_step path_step member_step operand_step o

-- ---- one part of a list, and those after it

module _ {X : Type 0} (names : X → List Name) (scope : List Name) where
  next_suc : (found : List Name) (xs : List X) (i : ℕ) (d : X) → i < length xs →
      first_occurrences found (without scope (joined (map names (drop i xs)))) ≡ first_occurrences (first_occurrences found (without scope (names (get_or xs i d)))) (without scope (joined (map names (drop (suc i) xs))))
  next_suc found [] i d h = absurd (omega arith)
  next_suc found (x ∷ xs) zero d h = found_append scope found (names x) (joined (map names xs))
  next_suc found (x ∷ xs) (suc i) d h = next_suc found xs i d (omega arith)

  -- x is the part at i
  pub next_part : (found : List Name) (xs : List X) (i : ℕ) (x : X) → i < length xs → x ≡ get_or xs i x →
      first_occurrences found (without scope (joined (map names (drop i xs)))) ≡ first_occurrences (first_occurrences found (without scope (names x))) (without scope (joined (map names (drop (i + 1) xs))))
  next_part found xs i x h e = rw (add-one) (next_suc found xs i x h ∙ ap (λ y. first_occurrences (first_occurrences found (without scope (names y))) (without scope (joined (map names (drop (suc i) xs))))) (sym e))

-- ---- statements

is_stmt_step : (x : level.Stmt-F Stmt Arm Block) → stmt_uses (roll-Stmt x) ≡ stmt_step (map-Stmt Stmt Arm Block Uses (List Name) (List Name) stmt_uses arm_uses block_uses x)
is_stmt_step = fold-roll-Stmt Uses (List Name) (List Name) stmt_step arm_step block_step

pub of_else : (arms : List Arm) (b : Block) → (stmt_uses (stmt.If arms (Some b))).names ≡ joined (map arm_uses arms) ++ block_uses b
of_else arms b = ap (λ s. (stmt_uses s).names) (sym (rolls-If arms (Some b))) ∙ ap (λ u. u.names) (is_stmt_step (level.If arms (Some b)))

pub of_while : (e : Expr) (b : Block) → (stmt_uses (stmt.While e b)).names ≡ occurrences e ++ block_uses b
of_while e b = ap (λ s. (stmt_uses s).names) (sym (rolls-While e b)) ∙ ap (λ u. u.names) (is_stmt_step (level.While e b))

pub of_for : (n : Name) (e : Expr) (b : Block) → (stmt_uses (stmt.For n e b)).names ≡ occurrences e ++ without (n ∷ []) (block_uses b)
of_for n e b = ap (λ s. (stmt_uses s).names) (sym (rolls-For n e b)) ∙ ap (λ u. u.names) (is_stmt_step (level.For n e b))

pub of_arm : (a : Arm) → arm_uses a ≡ occurrences a.test ++ block_uses a.body
of_arm a = fold_out-Arm Uses (List Name) (List Name) stmt_step arm_step block_step a

pub of_block : (b : Block) → block_uses b ≡ in_order (map stmt_uses b.stmts)
of_block b = fold_out-Block Uses (List Name) (List Name) stmt_step arm_step block_step b

-- what the first statement uses, and the others in its scope
in_order_first : (scope found : List Name) (u : Uses) (us : List Uses) →
    first_occurrences found (without scope (in_order (u ∷ us))) ≡ first_occurrences (first_occurrences found (without scope u.names)) (without (scope ++ u.makes) (in_order us))
in_order_first scope found u us = found_append scope found u.names (without u.makes (in_order us)) ∙ ap (λ ns. first_occurrences (first_occurrences found (without scope u.names)) ns) (without_inner scope u.makes (in_order us))

next_stmt_suc : (scope found : List Name) (ss : List Stmt) (i : ℕ) (d : Stmt) → i < length ss →
    first_occurrences found (without scope (in_order (map stmt_uses (drop i ss))))
    ≡ first_occurrences (first_occurrences found (without scope (stmt_uses (get_or ss i d)).names)) (without (scope ++ (stmt_uses (get_or ss i d)).makes) (in_order (map stmt_uses (drop (suc i) ss))))
next_stmt_suc scope found [] i d h = absurd (omega arith)
next_stmt_suc scope found (s ∷ ss) zero d h = in_order_first scope found (stmt_uses s) (map stmt_uses ss)
next_stmt_suc scope found (s ∷ ss) (suc i) d h = next_stmt_suc scope found ss i d (omega arith)

-- s is the statement at i
pub next_stmt : (scope found : List Name) (ss : List Stmt) (i : ℕ) (s : Stmt) → i < length ss → s ≡ get_or ss i s →
    first_occurrences found (without scope (in_order (map stmt_uses (drop i ss))))
    ≡ first_occurrences (first_occurrences found (without scope (stmt_uses s).names)) (without (scope ++ (stmt_uses s).makes) (in_order (map stmt_uses (drop (i + 1) ss))))
next_stmt scope found ss i s h e =
    rw (add-one) (next_stmt_suc scope found ss i s h ∙ ap (λ x. first_occurrences (first_occurrences found (without scope (stmt_uses x).names)) (without (scope ++ (stmt_uses x).makes) (in_order (map stmt_uses (drop (suc i) ss))))) (sym e))

pub no_more_stmts : (scope found : List Name) (ss : List Stmt) (i : ℕ) → length ss ≤ i → first_occurrences found (without scope (in_order (map stmt_uses (drop i ss)))) ≡ found
no_more_stmts scope found ss i h = rw (drop_all {X = Stmt} i ss h) refl

-- a scope still begins with the outer one after more names
pub still_begins : (outer scope more : List Name) → take (length outer) scope ≡ outer → take (length outer) (scope ++ more) ≡ outer
still_begins outer scope more e =
    let h : length outer ≤ length scope = omega (arith, ap length e, length-take {A = Name}) in
    take-append-le {A = Name} (length outer) scope more h ∙ e
