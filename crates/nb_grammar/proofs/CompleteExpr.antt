-- An expression that is spelled so is read.
use Rattle.std.proofs.Common.{◌≡◌, ◌≤◌, ℕ, zero, suc, refl, ap, ◌∙◌, List, [], ◌∷◌, ◌++◌, length, Option, Some, None, Ok, arith, lit<}
use Rattle.nb_lexer.specs.declared.word.Word.{Word}
use Rattle.nb_lexer.specs.declared.word.Word.TheVariants as word
use Rattle.nb_syntax.specs.declared.tree.Sign.{Sign}
use Rattle.nb_syntax.specs.declared.tree.Sign.TheVariants as sign
use Rattle.nb_syntax.specs.declared.tree.Expr.{Expr}
use Rattle.nb_syntax.specs.declared.tree.Expr.TheVariants as tree
use Rattle.nb_syntax.specs.declared.tree.PathStep.{PathStep}
use Rattle.nb_syntax.specs.declared.tree.PathStep.TheVariants as path
use Rattle.nb_syntax.specs.declared.tree.Operand.{Operand}
use Rattle.nb_grammar.specs.Words.{product_sign, sum_sign, compare_sign}
use Rattle.nb_grammar.specs.Reading as r
use Rattle.nb_grammar.specs.Reading.{Read, ◌>>=◌, many, rounds, inside_of, Inside}
use Rattle.nb_grammar.specs.Grammar as g
use Rattle.nb_grammar.specs.Trees as trees
use Rattle.nb_grammar.specs.Grammar.{ExprWay, OrParts, AndParts, Summands, Factors, Steps, CompareSign, SumSign, ProductSign}
use Rattle.nb_grammar.proofs.SoundPrimary.{Within}
use Rattle.nb_grammar.proofs.Grows.{expr_grows, and_grows, compare_grows, product_grows, unary_grows}
use Rattle.nb_grammar.proofs.Begins.{Stops, stops_more, unary_begun, Complete, CompleteExpr, CompleteInner, none_again, turn_again}
use Rattle.nb_grammar.proofs.CompletePrimary.{primary_again}

-- steps
step_stop : (inside : Inside) (ws : List Word) → Stops 7 ws → r.step inside ws ≡ Ok (None, ws)
step_stop inside (word.Dot ∷ ws) s = absurd (omega arith)
step_stop inside (word.OpenSquare ∷ ws) s = absurd (omega arith)
step_stop inside [] s = refl
step_stop inside (w ∷ ws) s = refl

steps_stop : (d : Steps) (ws : List Word) → Stops 7 ws → Stops 8 (g.steps_words d ws)
steps_stop g.no_step ws s = stops_more 7 8 (omega arith) ws s
steps_stop (g.field x more) ws s = lit< tt
steps_stop (g.at e more) ws s = lit< tt

at_again : (room : ℕ) → Within CompleteInner room → (e : ExprWay) (ws : List Word) → suc (trees.expr_depth e) ≤ room
    → r.step (inside_of room) (word.OpenSquare ∷ g.expr_words e (word.CloseSquare ∷ ws)) ≡ Ok (Some (path.At (trees.expr_tree e)), ws)
at_again zero within e ws deep = absurd (omega arith)
at_again (suc room) within e ws deep =
    let less : trees.expr_depth e ≤ room = omega arith in
    ap (λ m. m >>= (λ x. r.close_square x.1 >>= (λ rest. Ok (Some (path.At x.0), rest)))) (within.0 e (word.CloseSquare ∷ ws) less (lit< tt))

steps_again : (room : ℕ) → Within CompleteInner room → (d : Steps) (n : ℕ) (done : List PathStep) (rest : List Word) → trees.steps_depth d ≤ room → Stops 7 rest
    → length (g.steps_words d rest) ≤ n → many (r.step (inside_of room)) n done (g.steps_words d rest) ≡ Ok (done ++ trees.steps_tree d, rest)
steps_again room within g.no_step n done rest deep stops enough = none_again (r.step (inside_of room)) n done rest (step_stop (inside_of room) rest stops)
steps_again room within (g.field x more) zero done rest deep stops enough = absurd (omega arith)
steps_again room within (g.field x more) (suc n) done rest deep stops enough =
    let ws : List Word = g.steps_words more rest in
    let fuel : length ws ≤ n = omega arith in
    turn_again (r.step (inside_of room)) n done (word.Dot ∷ word.Name x ∷ ws) ws rest (path.Field x) (trees.steps_tree more) refl
    (steps_again room within more n (done ++ path.Field x ∷ []) rest deep stops fuel)
steps_again room within (g.at e more) zero done rest deep stops enough = absurd (omega arith)
steps_again room within (g.at e more) (suc n) done rest deep stops enough =
    let ws : List Word = g.steps_words more rest in
    let fuel : length ws ≤ n = omega (arith, expr_grows e (word.CloseSquare ∷ ws)) in
    let d1 : suc (trees.expr_depth e) ≤ room = omega arith in
    let d2 : trees.steps_depth more ≤ room = omega arith in
    turn_again (r.step (inside_of room)) n done (word.OpenSquare ∷ g.expr_words e (word.CloseSquare ∷ ws)) ws rest (path.At (trees.expr_tree e)) (trees.steps_tree more)
    (at_again room within e ws d1)
    (steps_again room within more n (done ++ path.At (trees.expr_tree e) ∷ []) rest d2 stops fuel)

pub postfix_again : (room : ℕ) → Within CompleteInner room → Complete (r.postfix (inside_of room)) g.postfix_words trees.postfix_tree trees.postfix_depth room 7
postfix_again room within (g.postfix p more) rest deep stops =
    let ws : List Word = g.steps_words more rest in
    let d1 : trees.primary_depth p ≤ room = omega arith in
    let d2 : trees.steps_depth more ≤ room = omega arith in
    ap (λ m. m >>= (λ e. rounds (r.step (inside_of room)) [] e.1 >>= (λ more. Ok (r.path_of e.0 more.0, more.1)))) (primary_again room within p ws d1 (steps_stop more rest stops))
    ∙ ap (λ m. m >>= (λ more. Ok (r.path_of (trees.primary_tree p) more.0, more.1))) (steps_again room within more (suc (length ws)) [] rest d2 stops (omega arith))

pub unary_again : (room : ℕ) → Within CompleteInner room → Complete (r.unary (inside_of room)) g.unary_words trees.unary_tree trees.unary_depth room 7
unary_again room within (g.unsigned (g.postfix p more)) rest deep stops =
    unary_begun (inside_of room) p (g.steps_words more rest) ∙ postfix_again room within (g.postfix p more) rest deep stops
unary_again room within (g.signed g.negative p) rest deep stops =
    ap (λ m. m >>= (λ e. Ok (tree.Unary sign.Minus e.0, e.1))) (postfix_again room within p rest deep stops)
unary_again room within (g.signed g.not p) rest deep stops =
    ap (λ m. m >>= (λ e. Ok (tree.Unary sign.Not e.0, e.1))) (postfix_again room within p rest deep stops)

-- operators
operand_go : (sign : Word → Option Sign) (part : List Word → Read Expr) (w : Word) (s : Sign) (ws mid : List Word) (e : Expr)
    → sign w ≡ Some s → part ws ≡ Ok (e, mid) → r.operand sign part (w ∷ ws) ≡ Ok (Some (record { sign = s; expr = e }), mid)
operand_go sign part w s ws mid e is h =
    ap (λ o. r.signed part o w ws) is ∙ ap (λ m. m >>= (λ x. (let y : Read (Option Operand) = Ok (Some (record { sign = s; expr = x.0 }), x.1) in y))) h

factor_stop : (part : List Word → Read Expr) (ws : List Word) → Stops 6 ws → r.operand product_sign part ws ≡ Ok (None, ws)
factor_stop part [] s = refl
factor_stop part (word.Times ∷ ws) s = absurd (omega arith)
factor_stop part (word.Divide ∷ ws) s = absurd (omega arith)
factor_stop part (word.Remainder ∷ ws) s = absurd (omega arith)
factor_stop part (w ∷ ws) s = refl

summand_stop : (part : List Word → Read Expr) (ws : List Word) → Stops 5 ws → r.operand sum_sign part ws ≡ Ok (None, ws)
summand_stop part [] s = refl
summand_stop part (word.Plus ∷ ws) s = absurd (omega arith)
summand_stop part (word.Minus ∷ ws) s = absurd (omega arith)
summand_stop part (w ∷ ws) s = refl

product_word_is : (s : ProductSign) → product_sign (g.product_word s) ≡ Some (trees.product_operator s)
product_word_is g.times = refl
product_word_is g.divide = refl
product_word_is g.remainder = refl

sum_word_is : (s : SumSign) → sum_sign (g.sum_word s) ≡ Some (trees.sum_operator s)
sum_word_is g.plus = refl
sum_word_is g.minus = refl

compare_word_is : (s : CompareSign) → compare_sign (g.compare_word s) ≡ Some (trees.compare_operator s)
compare_word_is g.equal = refl
compare_word_is g.not_equal = refl
compare_word_is g.less = refl
compare_word_is g.less_or_equal = refl
compare_word_is g.greater = refl
compare_word_is g.greater_or_equal = refl

factors_stop : (d : Factors) (ws : List Word) → Stops 6 ws → Stops 7 (g.factors_words d ws)
factors_stop g.no_factor ws s = stops_more 6 7 (omega arith) ws s
factors_stop (g.factor g.times u more) ws s = lit< tt
factors_stop (g.factor g.divide u more) ws s = lit< tt
factors_stop (g.factor g.remainder u more) ws s = lit< tt

summands_stop : (d : Summands) (ws : List Word) → Stops 5 ws → Stops 6 (g.summands_words d ws)
summands_stop g.no_summand ws s = stops_more 5 6 (omega arith) ws s
summands_stop (g.summand g.plus u more) ws s = lit< tt
summands_stop (g.summand g.minus u more) ws s = lit< tt

factors_again : (room : ℕ) → Within CompleteInner room → (d : Factors) (n : ℕ) (done : List Operand) (rest : List Word) → trees.factors_depth d ≤ room → Stops 6 rest
    → length (g.factors_words d rest) ≤ n → many (r.operand product_sign (r.unary (inside_of room))) n done (g.factors_words d rest) ≡ Ok (done ++ trees.factors_tree d, rest)
factors_again room within g.no_factor n done rest deep stops enough =
    none_again (r.operand product_sign (r.unary (inside_of room))) n done rest (factor_stop (r.unary (inside_of room)) rest stops)
factors_again room within (g.factor s u more) zero done rest deep stops enough = absurd (omega arith)
factors_again room within (g.factor s u more) (suc n) done rest deep stops enough =
    let ws : List Word = g.factors_words more rest in
    let p : List Word → Read Expr = r.unary (inside_of room) in
    let o : Operand = record { sign = trees.product_operator s; expr = trees.unary_tree u } in
    let fuel : length ws ≤ n = omega (arith, unary_grows u ws) in
    let d1 : trees.unary_depth u ≤ room = omega arith in
    let d2 : trees.factors_depth more ≤ room = omega arith in
    turn_again (r.operand product_sign p) n done (g.product_word s ∷ g.unary_words u ws) ws rest o (trees.factors_tree more)
    (operand_go product_sign p (g.product_word s) (trees.product_operator s) (g.unary_words u ws) ws (trees.unary_tree u) (product_word_is s) (unary_again room within u ws d1 (factors_stop more rest stops)))
    (factors_again room within more n (done ++ o ∷ []) rest d2 stops fuel)

pub product_again : (room : ℕ) → Within CompleteInner room → Complete (r.product (inside_of room)) g.product_words trees.product_tree trees.product_depth room 6
product_again room within (g.product u more) rest deep stops =
    let ws : List Word = g.factors_words more rest in
    let d1 : trees.unary_depth u ≤ room = omega arith in
    let d2 : trees.factors_depth more ≤ room = omega arith in
    ap (λ m. m >>= (λ e. rounds (r.operand product_sign (r.unary (inside_of room))) [] e.1 >>= (λ more. Ok (r.product_of e.0 more.0, more.1)))) (unary_again room within u ws d1 (factors_stop more rest stops))
    ∙ ap (λ m. m >>= (λ more. Ok (r.product_of (trees.unary_tree u) more.0, more.1))) (factors_again room within more (suc (length ws)) [] rest d2 stops (omega arith))

summands_again : (room : ℕ) → Within CompleteInner room → (d : Summands) (n : ℕ) (done : List Operand) (rest : List Word) → trees.summands_depth d ≤ room → Stops 5 rest
    → length (g.summands_words d rest) ≤ n → many (r.operand sum_sign (r.product (inside_of room))) n done (g.summands_words d rest) ≡ Ok (done ++ trees.summands_tree d, rest)
summands_again room within g.no_summand n done rest deep stops enough =
    none_again (r.operand sum_sign (r.product (inside_of room))) n done rest (summand_stop (r.product (inside_of room)) rest stops)
summands_again room within (g.summand s u more) zero done rest deep stops enough = absurd (omega arith)
summands_again room within (g.summand s u more) (suc n) done rest deep stops enough =
    let ws : List Word = g.summands_words more rest in
    let p : List Word → Read Expr = r.product (inside_of room) in
    let o : Operand = record { sign = trees.sum_operator s; expr = trees.product_tree u } in
    let fuel : length ws ≤ n = omega (arith, product_grows u ws) in
    let d1 : trees.product_depth u ≤ room = omega arith in
    let d2 : trees.summands_depth more ≤ room = omega arith in
    turn_again (r.operand sum_sign p) n done (g.sum_word s ∷ g.product_words u ws) ws rest o (trees.summands_tree more)
    (operand_go sum_sign p (g.sum_word s) (trees.sum_operator s) (g.product_words u ws) ws (trees.product_tree u) (sum_word_is s) (product_again room within u ws d1 (summands_stop more rest stops)))
    (summands_again room within more n (done ++ o ∷ []) rest d2 stops fuel)

pub sum_again : (room : ℕ) → Within CompleteInner room → Complete (r.sum (inside_of room)) g.sum_words trees.sum_tree trees.sum_depth room 5
sum_again room within (g.sum u more) rest deep stops =
    let ws : List Word = g.summands_words more rest in
    let d1 : trees.product_depth u ≤ room = omega arith in
    let d2 : trees.summands_depth more ≤ room = omega arith in
    ap (λ m. m >>= (λ e. rounds (r.operand sum_sign (r.product (inside_of room))) [] e.1 >>= (λ more. Ok (r.sum_of e.0 more.0, more.1)))) (product_again room within u ws d1 (summands_stop more rest stops))
    ∙ ap (λ m. m >>= (λ more. Ok (r.sum_of (trees.product_tree u) more.0, more.1))) (summands_again room within more (suc (length ws)) [] rest d2 stops (omega arith))

-- a comparison
compare_stop : (inside : Inside) (left : Expr) (ws : List Word) → Stops 4 ws → r.compare_at inside left ws ≡ Ok (left, ws)
compare_stop inside left [] s = refl
compare_stop inside left (word.Equal ∷ ws) s = absurd (omega arith)
compare_stop inside left (word.NotEqual ∷ ws) s = absurd (omega arith)
compare_stop inside left (word.Less ∷ ws) s = absurd (omega arith)
compare_stop inside left (word.LessOrEqual ∷ ws) s = absurd (omega arith)
compare_stop inside left (word.Greater ∷ ws) s = absurd (omega arith)
compare_stop inside left (word.GreaterOrEqual ∷ ws) s = absurd (omega arith)
compare_stop inside left (w ∷ ws) s = refl

compare_word_stop : (c : CompareSign) (ws : List Word) → Stops 5 (g.compare_word c ∷ ws)
compare_word_stop g.equal ws = lit< tt
compare_word_stop g.not_equal ws = lit< tt
compare_word_stop g.less ws = lit< tt
compare_word_stop g.less_or_equal ws = lit< tt
compare_word_stop g.greater ws = lit< tt
compare_word_stop g.greater_or_equal ws = lit< tt

pub compare_again : (room : ℕ) → Within CompleteInner room → Complete (r.compare (inside_of room)) g.compare_words trees.compare_tree trees.compare_depth room 4
compare_again room within (g.single s) rest deep stops =
    ap (λ m. m >>= (λ e. r.compare_at (inside_of room) e.0 e.1)) (sum_again room within s rest deep (stops_more 4 5 (omega arith) rest stops))
    ∙ compare_stop (inside_of room) (trees.sum_tree s) rest stops
compare_again room within (g.compare c s t) rest deep stops =
    let ws : List Word = g.sum_words t rest in
    let d1 : trees.sum_depth s ≤ room = omega arith in
    let d2 : trees.sum_depth t ≤ room = omega arith in
    ap (λ m. m >>= (λ e. r.compare_at (inside_of room) e.0 e.1)) (sum_again room within s (g.compare_word c ∷ ws) d1 (compare_word_stop c ws))
    ∙ ap (λ o. r.compared (inside_of room) (trees.sum_tree s) o (g.compare_word c) ws) (compare_word_is c)
    ∙ ap (λ m. m >>= (λ right. Ok (tree.Compare (trees.compare_operator c) (trees.sum_tree s) right.0, right.1))) (sum_again room within t rest d2 (stops_more 4 5 (omega arith) rest stops))

-- chains
and_stop : (inside : Inside) (ws : List Word) → Stops 3 ws → r.and_part inside ws ≡ Ok (None, ws)
and_stop inside (word.And ∷ ws) s = absurd (omega arith)
and_stop inside [] s = refl
and_stop inside (w ∷ ws) s = refl

and_parts_stop : (d : AndParts) (ws : List Word) → Stops 3 ws → Stops 4 (g.and_parts_words d ws)
and_parts_stop g.no_and_part ws s = stops_more 3 4 (omega arith) ws s
and_parts_stop (g.and_part a more) ws s = lit< tt

and_parts_again : (room : ℕ) → Within CompleteInner room → (d : AndParts) (n : ℕ) (done : List Expr) (rest : List Word) → trees.and_parts_depth d ≤ room → Stops 3 rest
    → length (g.and_parts_words d rest) ≤ n → many (r.and_part (inside_of room)) n done (g.and_parts_words d rest) ≡ Ok (done ++ trees.and_parts_tree d, rest)
and_parts_again room within g.no_and_part n done rest deep stops enough = none_again (r.and_part (inside_of room)) n done rest (and_stop (inside_of room) rest stops)
and_parts_again room within (g.and_part a more) zero done rest deep stops enough = absurd (omega arith)
and_parts_again room within (g.and_part a more) (suc n) done rest deep stops enough =
    let ws : List Word = g.and_parts_words more rest in
    let fuel : length ws ≤ n = omega (arith, compare_grows a ws) in
    let d1 : trees.compare_depth a ≤ room = omega arith in
    let d2 : trees.and_parts_depth more ≤ room = omega arith in
    turn_again (r.and_part (inside_of room)) n done (word.And ∷ g.compare_words a ws) ws rest (trees.compare_tree a) (trees.and_parts_tree more)
    (ap (λ m. m >>= (λ x. Ok (Some x.0, x.1))) (compare_again room within a ws d1 (and_parts_stop more rest stops)))
    (and_parts_again room within more n (done ++ trees.compare_tree a ∷ []) rest d2 stops fuel)

pub and_again : (room : ℕ) → Within CompleteInner room → Complete (r.and (inside_of room)) g.and_words trees.and_tree trees.and_depth room 3
and_again room within (g.and u more) rest deep stops =
    let ws : List Word = g.and_parts_words more rest in
    let d1 : trees.compare_depth u ≤ room = omega arith in
    let d2 : trees.and_parts_depth more ≤ room = omega arith in
    ap (λ m. m >>= (λ e. rounds (r.and_part (inside_of room)) [] e.1 >>= (λ more. Ok (r.and_of e.0 more.0, more.1)))) (compare_again room within u ws d1 (and_parts_stop more rest stops))
    ∙ ap (λ m. m >>= (λ more. Ok (r.and_of (trees.compare_tree u) more.0, more.1))) (and_parts_again room within more (suc (length ws)) [] rest d2 stops (omega arith))

or_stop : (inside : Inside) (ws : List Word) → Stops 2 ws → r.or_part inside ws ≡ Ok (None, ws)
or_stop inside (word.Or ∷ ws) s = absurd (omega arith)
or_stop inside [] s = refl
or_stop inside (w ∷ ws) s = refl

or_parts_stop : (d : OrParts) (ws : List Word) → Stops 2 ws → Stops 3 (g.or_parts_words d ws)
or_parts_stop g.no_or_part ws s = stops_more 2 3 (omega arith) ws s
or_parts_stop (g.or_part a more) ws s = lit< tt

or_parts_again : (room : ℕ) → Within CompleteInner room → (d : OrParts) (n : ℕ) (done : List Expr) (rest : List Word) → trees.or_parts_depth d ≤ room → Stops 2 rest
    → length (g.or_parts_words d rest) ≤ n → many (r.or_part (inside_of room)) n done (g.or_parts_words d rest) ≡ Ok (done ++ trees.or_parts_tree d, rest)
or_parts_again room within g.no_or_part n done rest deep stops enough = none_again (r.or_part (inside_of room)) n done rest (or_stop (inside_of room) rest stops)
or_parts_again room within (g.or_part a more) zero done rest deep stops enough = absurd (omega arith)
or_parts_again room within (g.or_part a more) (suc n) done rest deep stops enough =
    let ws : List Word = g.or_parts_words more rest in
    let fuel : length ws ≤ n = omega (arith, and_grows a ws) in
    let d1 : trees.and_depth a ≤ room = omega arith in
    let d2 : trees.or_parts_depth more ≤ room = omega arith in
    turn_again (r.or_part (inside_of room)) n done (word.Or ∷ g.and_words a ws) ws rest (trees.and_tree a) (trees.or_parts_tree more)
    (ap (λ m. m >>= (λ x. Ok (Some x.0, x.1))) (and_again room within a ws d1 (or_parts_stop more rest stops)))
    (or_parts_again room within more n (done ++ trees.and_tree a ∷ []) rest d2 stops fuel)

pub or_again : (room : ℕ) → Within CompleteInner room → Complete (r.or (inside_of room)) g.or_words trees.or_tree trees.or_depth room 2
or_again room within (g.or u more) rest deep stops =
    let ws : List Word = g.or_parts_words more rest in
    let d1 : trees.and_depth u ≤ room = omega arith in
    let d2 : trees.or_parts_depth more ≤ room = omega arith in
    ap (λ m. m >>= (λ e. rounds (r.or_part (inside_of room)) [] e.1 >>= (λ more. Ok (r.or_of e.0 more.0, more.1)))) (and_again room within u ws d1 (or_parts_stop more rest stops))
    ∙ ap (λ m. m >>= (λ more. Ok (r.or_of (trees.and_tree u) more.0, more.1))) (or_parts_again room within more (suc (length ws)) [] rest d2 stops (omega arith))

-- a choice
choice_stop : (inside : Inside) (test : Expr) (ws : List Word) → Stops 1 ws → r.choice inside test ws ≡ Ok (test, ws)
choice_stop inside test (word.Question ∷ ws) s = absurd (omega arith)
choice_stop inside test [] s = refl
choice_stop inside test (w ∷ ws) s = refl

pub expr_again : (room : ℕ) → Within CompleteInner room → CompleteExpr room
expr_again room within (g.plain o) rest deep stops =
    ap (λ m. m >>= (λ e. r.choice (inside_of room) e.0 e.1)) (or_again room within o rest deep (stops_more 1 2 (omega arith) rest stops))
    ∙ choice_stop (inside_of room) (trees.or_tree o) rest stops
expr_again room within (g.choose c a b) rest deep stops =
    let w1 : List Word = g.or_words b rest in
    let w2 : List Word = g.or_words a (word.Colon ∷ w1) in
    let d1 : trees.or_depth c ≤ room = omega arith in
    let d2 : trees.or_depth a ≤ room = omega arith in
    let d3 : trees.or_depth b ≤ room = omega arith in
    ap (λ m. m >>= (λ e. r.choice (inside_of room) e.0 e.1)) (or_again room within c (word.Question ∷ w2) d1 (lit< tt))
    ∙ ap (λ m. m >>= (λ x. r.colon x.1 >>= (λ rest. r.or (inside_of room) rest >>= (λ y. Ok (tree.Choose (trees.or_tree c) x.0 y.0, y.1))))) (or_again room within a (word.Colon ∷ w1) d2 (lit< tt))
    ∙ ap (λ m. m >>= (λ y. Ok (tree.Choose (trees.or_tree c) (trees.or_tree a) y.0, y.1))) (or_again room within b rest d3 (stops_more 1 2 (omega arith) rest stops))
