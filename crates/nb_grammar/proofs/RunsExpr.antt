-- The machine goes as reading an expression does.
use Rattle.std.proofs.Common.{◌≡◌, ℕ, zero, suc, refl, sym, ap, ◌∙◌, List, [], ◌∷◌, Option, Some, Ok}
use Rattle.nb_lexer.specs.declared.word.Word.{Word}
use Rattle.nb_lexer.specs.declared.word.Word.TheVariants as word
use Rattle.nb_syntax.specs.declared.tree.Sign.TheVariants as sign
use Rattle.nb_syntax.specs.declared.tree.Expr.{Expr}
use Rattle.nb_syntax.specs.declared.tree.Expr.TheVariants as tree
use Rattle.nb_syntax.specs.declared.tree.PathStep.{PathStep}
use Rattle.nb_syntax.specs.declared.tree.PathStep.TheVariants as path
use Rattle.nb_syntax.specs.declared.tree.Operand.{Operand}
use Rattle.nb_grammar.specs.declared.fault.Fault.{Fault}
use Rattle.nb_grammar.specs.Words.{product_sign, sum_sign, called}
use Rattle.nb_grammar.specs.Reading as r
use Rattle.nb_grammar.specs.Reading.{Read, ◌>>=◌, rounds, onward, inside_of}
use Rattle.nb_grammar.specs.Machine as m
use Rattle.nb_grammar.specs.Machine.{Sym, run, want, more_steps, more_factors, more_summands, more_compare, more_and, more_or, more_choice, need_colon, need_close_square, tails}
use Rattle.nb_grammar.proofs.SoundPrimary.{Within}
use Rattle.nb_grammar.proofs.Loops.{factor_falls, summand_falls, step_falls, and_part_falls, or_part_falls}
use Rattle.nb_grammar.proofs.Runs.{ends, ends_then, Runs, rounds_goes, RunsExpr, RunsInner, close_square_runs, colon_runs, name_runs}
use Rattle.nb_grammar.proofs.RunsPrimary.{behind_append, primary_runs}

-- A loop of steps into a value.
step_loops : (room : ℕ) → Within RunsInner room → (ws : List Word) (ss : List Sym)
    → run ws room (more_steps ∷ ss) ≡ ends (r.step (inside_of room) ws) (λ x. onward x.0 (run x.1 room ss) (λ a. run x.1 room (more_steps ∷ ss)))
step_loops room within (word.Dot ∷ ws) ss =
    name_runs room ws (more_steps ∷ ss)
    ∙ ends_then (r.name ws) (λ x. Ok (Some (path.Field x.0), x.1)) (λ x. run x.1 room (more_steps ∷ ss))
    (λ x. onward x.0 (run x.1 room ss) (λ a. run x.1 room (more_steps ∷ ss))) (λ e is. refl)
step_loops zero within (word.OpenSquare ∷ ws) ss = refl
step_loops (suc room) within (word.OpenSquare ∷ ws) ss =
    let k : Option PathStep × List Word → Option Fault = λ x. onward x.0 (run x.1 (suc room) ss) (λ a. run x.1 (suc room) (more_steps ∷ ss)) in
    within.0 ws (need_close_square ∷ more_steps ∷ ss)
    ∙ ends_then (r.expr (inside_of room) ws) (λ e. r.close_square e.1 >>= (λ rest. Ok (Some (path.At e.0), rest))) (λ x. run x.1 room (need_close_square ∷ more_steps ∷ ss)) k
    (λ e is. close_square_runs room e.1 (more_steps ∷ ss)
    ∙ ends_then (r.close_square e.1) (λ rest. Ok (Some (path.At e.0), rest)) (λ rest. run rest (suc room) (more_steps ∷ ss)) k (λ rest g. refl))
step_loops room within [] ss = refl
step_loops room within (w ∷ ws) ss = refl

-- A level's operand is one of the level within, and what may follow it.
postfix_split : (room : ℕ) (ws : List Word) (ss : List Sym) → run ws room (want m.postfix ∷ ss) ≡ run ws room (want m.primary ∷ more_steps ∷ ss)
postfix_split room (word.Name x ∷ ws) ss = ap (λ z. run ws room z) (behind_append (called x) (tails m.postfix) ss ∙ sym (behind_append (called x) (tails m.primary) (more_steps ∷ ss)))
postfix_split room [] ss = refl
postfix_split room (w ∷ ws) ss = refl

product_split : (room : ℕ) (ws : List Word) (ss : List Sym) → run ws room (want m.product ∷ ss) ≡ run ws room (want m.unary ∷ more_factors ∷ ss)
product_split room (word.Name x ∷ ws) ss = ap (λ z. run ws room z) (behind_append (called x) (tails m.product) ss ∙ sym (behind_append (called x) (tails m.unary) (more_factors ∷ ss)))
product_split room [] ss = refl
product_split room (w ∷ ws) ss = refl

sum_split : (room : ℕ) (ws : List Word) (ss : List Sym) → run ws room (want m.sum ∷ ss) ≡ run ws room (want m.product ∷ more_summands ∷ ss)
sum_split room (word.Name x ∷ ws) ss = ap (λ z. run ws room z) (behind_append (called x) (tails m.sum) ss ∙ sym (behind_append (called x) (tails m.product) (more_summands ∷ ss)))
sum_split room [] ss = refl
sum_split room (w ∷ ws) ss = refl

compare_split : (room : ℕ) (ws : List Word) (ss : List Sym) → run ws room (want m.compare ∷ ss) ≡ run ws room (want m.sum ∷ more_compare ∷ ss)
compare_split room (word.Name x ∷ ws) ss = ap (λ z. run ws room z) (behind_append (called x) (tails m.compare) ss ∙ sym (behind_append (called x) (tails m.sum) (more_compare ∷ ss)))
compare_split room [] ss = refl
compare_split room (w ∷ ws) ss = refl

and_split : (room : ℕ) (ws : List Word) (ss : List Sym) → run ws room (want m.and ∷ ss) ≡ run ws room (want m.compare ∷ more_and ∷ ss)
and_split room (word.Name x ∷ ws) ss = ap (λ z. run ws room z) (behind_append (called x) (tails m.and) ss ∙ sym (behind_append (called x) (tails m.compare) (more_and ∷ ss)))
and_split room [] ss = refl
and_split room (w ∷ ws) ss = refl

or_split : (room : ℕ) (ws : List Word) (ss : List Sym) → run ws room (want m.or ∷ ss) ≡ run ws room (want m.and ∷ more_or ∷ ss)
or_split room (word.Name x ∷ ws) ss = ap (λ z. run ws room z) (behind_append (called x) (tails m.or) ss ∙ sym (behind_append (called x) (tails m.and) (more_or ∷ ss)))
or_split room [] ss = refl
or_split room (w ∷ ws) ss = refl

expr_split : (room : ℕ) (ws : List Word) (ss : List Sym) → run ws room (want m.expr ∷ ss) ≡ run ws room (want m.or ∷ more_choice ∷ ss)
expr_split room (word.Name x ∷ ws) ss = ap (λ z. run ws room z) (behind_append (called x) (tails m.expr) ss ∙ sym (behind_append (called x) (tails m.or) (more_choice ∷ ss)))
expr_split room [] ss = refl
expr_split room (w ∷ ws) ss = refl

pub postfix_runs : (room : ℕ) → Within RunsInner room → Runs room (want m.postfix) (r.postfix (inside_of room))
postfix_runs room within ws ss =
    let k : Expr × List Word → Option Fault = λ x. run x.1 room ss in
    let f : Expr → List PathStep × List Word → Read Expr = λ e more. Ok (r.path_of e more.0, more.1) in
    postfix_split room ws ss
    ∙ primary_runs room within ws (more_steps ∷ ss)
    ∙ ends_then (r.primary (inside_of room) ws) (λ e. rounds (r.step (inside_of room)) [] e.1 >>= f e.0) (λ x. run x.1 room (more_steps ∷ ss)) k
    (λ e is. rounds_goes room more_steps ss (r.step (inside_of room)) (λ ws. run ws room ss) (step_falls room) (λ ws. step_loops room within ws ss) [] e.1
    ∙ ends_then (rounds (r.step (inside_of room)) [] e.1) (f e.0) (λ x. run x.1 room ss) k (λ more is. refl))

pub unary_runs : (room : ℕ) → Within RunsInner room → Runs room (want m.unary) (r.unary (inside_of room))
unary_runs room within (word.Minus ∷ ws) ss =
    postfix_runs room within ws ss
    ∙ ends_then (r.postfix (inside_of room) ws) (λ e. Ok (tree.Unary sign.Minus e.0, e.1)) (λ x. run x.1 room ss) (λ x. run x.1 room ss) (λ e is. refl)
unary_runs room within (word.Not ∷ ws) ss =
    postfix_runs room within ws ss
    ∙ ends_then (r.postfix (inside_of room) ws) (λ e. Ok (tree.Unary sign.Not e.0, e.1)) (λ x. run x.1 room ss) (λ x. run x.1 room ss) (λ e is. refl)
unary_runs room within [] ss = postfix_runs room within [] ss
unary_runs room within (w ∷ ws) ss = postfix_runs room within (w ∷ ws) ss

factor_loops : (room : ℕ) → Within RunsInner room → (ws : List Word) (ss : List Sym)
    → run ws room (more_factors ∷ ss) ≡ ends (r.operand product_sign (r.unary (inside_of room)) ws) (λ x. onward x.0 (run x.1 room ss) (λ a. run x.1 room (more_factors ∷ ss)))
factor_loops room within (word.Times ∷ ws) ss =
    unary_runs room within ws (more_factors ∷ ss)
    ∙ ends_then (r.unary (inside_of room) ws) _ (λ x. run x.1 room (more_factors ∷ ss)) (λ x. onward x.0 (run x.1 room ss) (λ a. run x.1 room (more_factors ∷ ss))) (λ e is. refl)
factor_loops room within (word.Divide ∷ ws) ss =
    unary_runs room within ws (more_factors ∷ ss)
    ∙ ends_then (r.unary (inside_of room) ws) _ (λ x. run x.1 room (more_factors ∷ ss)) (λ x. onward x.0 (run x.1 room ss) (λ a. run x.1 room (more_factors ∷ ss))) (λ e is. refl)
factor_loops room within (word.Remainder ∷ ws) ss =
    unary_runs room within ws (more_factors ∷ ss)
    ∙ ends_then (r.unary (inside_of room) ws) _ (λ x. run x.1 room (more_factors ∷ ss)) (λ x. onward x.0 (run x.1 room ss) (λ a. run x.1 room (more_factors ∷ ss))) (λ e is. refl)
factor_loops room within [] ss = refl
factor_loops room within (w ∷ ws) ss = refl

pub product_runs : (room : ℕ) → Within RunsInner room → Runs room (want m.product) (r.product (inside_of room))
product_runs room within ws ss =
    let k : Expr × List Word → Option Fault = λ x. run x.1 room ss in
    let next : List Word → Read (Option Operand) = r.operand product_sign (r.unary (inside_of room)) in
    let f : Expr → List Operand × List Word → Read Expr = λ e more. Ok (r.product_of e more.0, more.1) in
    product_split room ws ss
    ∙ unary_runs room within ws (more_factors ∷ ss)
    ∙ ends_then (r.unary (inside_of room) ws) (λ e. rounds next [] e.1 >>= f e.0) (λ x. run x.1 room (more_factors ∷ ss)) k
    (λ e is. rounds_goes room more_factors ss next (λ ws. run ws room ss) (factor_falls room) (λ ws. factor_loops room within ws ss) [] e.1
    ∙ ends_then (rounds next [] e.1) (f e.0) (λ x. run x.1 room ss) k (λ more is. refl))

summand_loops : (room : ℕ) → Within RunsInner room → (ws : List Word) (ss : List Sym)
    → run ws room (more_summands ∷ ss) ≡ ends (r.operand sum_sign (r.product (inside_of room)) ws) (λ x. onward x.0 (run x.1 room ss) (λ a. run x.1 room (more_summands ∷ ss)))
summand_loops room within (word.Plus ∷ ws) ss =
    product_runs room within ws (more_summands ∷ ss)
    ∙ ends_then (r.product (inside_of room) ws) _ (λ x. run x.1 room (more_summands ∷ ss)) (λ x. onward x.0 (run x.1 room ss) (λ a. run x.1 room (more_summands ∷ ss))) (λ e is. refl)
summand_loops room within (word.Minus ∷ ws) ss =
    product_runs room within ws (more_summands ∷ ss)
    ∙ ends_then (r.product (inside_of room) ws) _ (λ x. run x.1 room (more_summands ∷ ss)) (λ x. onward x.0 (run x.1 room ss) (λ a. run x.1 room (more_summands ∷ ss))) (λ e is. refl)
summand_loops room within [] ss = refl
summand_loops room within (w ∷ ws) ss = refl

pub sum_runs : (room : ℕ) → Within RunsInner room → Runs room (want m.sum) (r.sum (inside_of room))
sum_runs room within ws ss =
    let k : Expr × List Word → Option Fault = λ x. run x.1 room ss in
    let next : List Word → Read (Option Operand) = r.operand sum_sign (r.product (inside_of room)) in
    let f : Expr → List Operand × List Word → Read Expr = λ e more. Ok (r.sum_of e more.0, more.1) in
    sum_split room ws ss
    ∙ product_runs room within ws (more_summands ∷ ss)
    ∙ ends_then (r.product (inside_of room) ws) (λ e. rounds next [] e.1 >>= f e.0) (λ x. run x.1 room (more_summands ∷ ss)) k
    (λ e is. rounds_goes room more_summands ss next (λ ws. run ws room ss) (summand_falls room) (λ ws. summand_loops room within ws ss) [] e.1
    ∙ ends_then (rounds next [] e.1) (f e.0) (λ x. run x.1 room ss) k (λ more is. refl))

compare_at_runs : (room : ℕ) → Within RunsInner room → (left : Expr) (ws : List Word) (ss : List Sym)
    → run ws room (more_compare ∷ ss) ≡ ends (r.compare_at (inside_of room) left ws) (λ x. run x.1 room ss)
compare_at_runs room within left (word.Equal ∷ ws) ss =
    sum_runs room within ws ss ∙ ends_then (r.sum (inside_of room) ws) (λ right. Ok (tree.Compare sign.Equal left right.0, right.1)) (λ x. run x.1 room ss) (λ x. run x.1 room ss) (λ e is. refl)
compare_at_runs room within left (word.NotEqual ∷ ws) ss =
    sum_runs room within ws ss ∙ ends_then (r.sum (inside_of room) ws) (λ right. Ok (tree.Compare sign.NotEqual left right.0, right.1)) (λ x. run x.1 room ss) (λ x. run x.1 room ss) (λ e is. refl)
compare_at_runs room within left (word.Less ∷ ws) ss =
    sum_runs room within ws ss ∙ ends_then (r.sum (inside_of room) ws) (λ right. Ok (tree.Compare sign.Less left right.0, right.1)) (λ x. run x.1 room ss) (λ x. run x.1 room ss) (λ e is. refl)
compare_at_runs room within left (word.LessOrEqual ∷ ws) ss =
    sum_runs room within ws ss ∙ ends_then (r.sum (inside_of room) ws) (λ right. Ok (tree.Compare sign.LessOrEqual left right.0, right.1)) (λ x. run x.1 room ss) (λ x. run x.1 room ss) (λ e is. refl)
compare_at_runs room within left (word.Greater ∷ ws) ss =
    sum_runs room within ws ss ∙ ends_then (r.sum (inside_of room) ws) (λ right. Ok (tree.Compare sign.Greater left right.0, right.1)) (λ x. run x.1 room ss) (λ x. run x.1 room ss) (λ e is. refl)
compare_at_runs room within left (word.GreaterOrEqual ∷ ws) ss =
    sum_runs room within ws ss ∙ ends_then (r.sum (inside_of room) ws) (λ right. Ok (tree.Compare sign.GreaterOrEqual left right.0, right.1)) (λ x. run x.1 room ss) (λ x. run x.1 room ss) (λ e is. refl)
compare_at_runs room within left [] ss = refl
compare_at_runs room within left (w ∷ ws) ss = refl

pub compare_runs : (room : ℕ) → Within RunsInner room → Runs room (want m.compare) (r.compare (inside_of room))
compare_runs room within ws ss =
    compare_split room ws ss
    ∙ sum_runs room within ws (more_compare ∷ ss)
    ∙ ends_then (r.sum (inside_of room) ws) (λ e. r.compare_at (inside_of room) e.0 e.1) (λ x. run x.1 room (more_compare ∷ ss)) (λ x. run x.1 room ss)
    (λ e is. compare_at_runs room within e.0 e.1 ss)

and_loops : (room : ℕ) → Within RunsInner room → (ws : List Word) (ss : List Sym)
    → run ws room (more_and ∷ ss) ≡ ends (r.and_part (inside_of room) ws) (λ x. onward x.0 (run x.1 room ss) (λ a. run x.1 room (more_and ∷ ss)))
and_loops room within (word.And ∷ ws) ss =
    compare_runs room within ws (more_and ∷ ss)
    ∙ ends_then (r.compare (inside_of room) ws) (λ e. Ok (Some e.0, e.1)) (λ x. run x.1 room (more_and ∷ ss)) (λ x. onward x.0 (run x.1 room ss) (λ a. run x.1 room (more_and ∷ ss))) (λ e is. refl)
and_loops room within [] ss = refl
and_loops room within (w ∷ ws) ss = refl

pub and_runs : (room : ℕ) → Within RunsInner room → Runs room (want m.and) (r.and (inside_of room))
and_runs room within ws ss =
    let k : Expr × List Word → Option Fault = λ x. run x.1 room ss in
    let next : List Word → Read (Option Expr) = r.and_part (inside_of room) in
    let f : Expr → List Expr × List Word → Read Expr = λ e more. Ok (r.and_of e more.0, more.1) in
    and_split room ws ss
    ∙ compare_runs room within ws (more_and ∷ ss)
    ∙ ends_then (r.compare (inside_of room) ws) (λ e. rounds next [] e.1 >>= f e.0) (λ x. run x.1 room (more_and ∷ ss)) k
    (λ e is. rounds_goes room more_and ss next (λ ws. run ws room ss) (and_part_falls room) (λ ws. and_loops room within ws ss) [] e.1
    ∙ ends_then (rounds next [] e.1) (f e.0) (λ x. run x.1 room ss) k (λ more is. refl))

or_loops : (room : ℕ) → Within RunsInner room → (ws : List Word) (ss : List Sym)
    → run ws room (more_or ∷ ss) ≡ ends (r.or_part (inside_of room) ws) (λ x. onward x.0 (run x.1 room ss) (λ a. run x.1 room (more_or ∷ ss)))
or_loops room within (word.Or ∷ ws) ss =
    and_runs room within ws (more_or ∷ ss)
    ∙ ends_then (r.and (inside_of room) ws) (λ e. Ok (Some e.0, e.1)) (λ x. run x.1 room (more_or ∷ ss)) (λ x. onward x.0 (run x.1 room ss) (λ a. run x.1 room (more_or ∷ ss))) (λ e is. refl)
or_loops room within [] ss = refl
or_loops room within (w ∷ ws) ss = refl

pub or_runs : (room : ℕ) → Within RunsInner room → Runs room (want m.or) (r.or (inside_of room))
or_runs room within ws ss =
    let k : Expr × List Word → Option Fault = λ x. run x.1 room ss in
    let next : List Word → Read (Option Expr) = r.or_part (inside_of room) in
    let f : Expr → List Expr × List Word → Read Expr = λ e more. Ok (r.or_of e more.0, more.1) in
    or_split room ws ss
    ∙ and_runs room within ws (more_or ∷ ss)
    ∙ ends_then (r.and (inside_of room) ws) (λ e. rounds next [] e.1 >>= f e.0) (λ x. run x.1 room (more_or ∷ ss)) k
    (λ e is. rounds_goes room more_or ss next (λ ws. run ws room ss) (or_part_falls room) (λ ws. or_loops room within ws ss) [] e.1
    ∙ ends_then (rounds next [] e.1) (f e.0) (λ x. run x.1 room ss) k (λ more is. refl))

choice_runs : (room : ℕ) → Within RunsInner room → (test : Expr) (ws : List Word) (ss : List Sym)
    → run ws room (more_choice ∷ ss) ≡ ends (r.choice (inside_of room) test ws) (λ x. run x.1 room ss)
choice_runs room within test (word.Question ∷ ws) ss =
    let k : Expr × List Word → Option Fault = λ x. run x.1 room ss in
    let o : List Word → Read Expr = r.or (inside_of room) in
    or_runs room within ws (need_colon ∷ want m.or ∷ ss)
    ∙ ends_then (o ws) (λ a. r.colon a.1 >>= (λ rest. o rest >>= (λ b. Ok (tree.Choose test a.0 b.0, b.1)))) (λ x. run x.1 room (need_colon ∷ want m.or ∷ ss)) k
    (λ a is. colon_runs room a.1 (want m.or ∷ ss)
    ∙ ends_then (r.colon a.1) (λ rest. o rest >>= (λ b. Ok (tree.Choose test a.0 b.0, b.1))) (λ rest. run rest room (want m.or ∷ ss)) k
    (λ rest g. or_runs room within rest ss ∙ ends_then (o rest) (λ b. Ok (tree.Choose test a.0 b.0, b.1)) k k (λ b h. refl)))
choice_runs room within test [] ss = refl
choice_runs room within test (w ∷ ws) ss = refl

pub expr_runs : (room : ℕ) → Within RunsInner room → RunsExpr room
expr_runs room within ws ss =
    expr_split room ws ss
    ∙ or_runs room within ws (more_choice ∷ ss)
    ∙ ends_then (r.or (inside_of room) ws) (λ e. r.choice (inside_of room) e.0 e.1) (λ x. run x.1 room (more_choice ∷ ss)) (λ x. run x.1 room ss) (λ e is. choice_runs room within e.0 e.1 ss)
