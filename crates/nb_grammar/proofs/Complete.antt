-- A cell that is spelled so is read.
use Rattle.std.proofs.Common.{◌≡◌, ◌≤◌, ℕ, refl, ap, ◌∙◌, List, [], ◌∷◌, Some, None, Ok}
use Rattle.nb_lexer.specs.declared.word.Word.{Word}
use Rattle.nb_lexer.specs.declared.word.Word.TheVariants as word
use Rattle.nb_syntax.specs.declared.tree.Body.TheVariants as body
use Rattle.nb_syntax.specs.declared.tree.Cell.{Cell}
use Rattle.nb_grammar.specs.Reading as r
use Rattle.nb_grammar.specs.Reading.{Read, ◌>>=◌, inside_of, Inside}
use Rattle.nb_grammar.specs.Grammar as g
use Rattle.nb_grammar.specs.Trees as trees
use Rattle.nb_grammar.specs.Grammar.{ExprWay, OrWay, OrParts, AndParts, CompareWay, SumWay, Summands, Factors, UnaryWay, Steps, PrimaryWay, StmtWay, BodyWay, CellWay, CompareSign}
use Rattle.nb_grammar.proofs.CompleteStmts.{block_again, complete, complete_within}

-- What begins as an expression is read as one.
body_primary : (inside : Inside) (p : PrimaryWay) (ws : List Word) → r.body_at inside (g.primary_words p ws) ≡ r.body_expr inside (g.primary_words p ws)
body_primary inside (g.number n) ws = refl
body_primary inside (g.quoted x) ws = refl
body_primary inside g.true_word ws = refl
body_primary inside g.false_word ws = refl
body_primary inside g.null_word ws = refl
body_primary inside (g.name x) ws = refl
body_primary inside (g.call1 f is a) ws = refl
body_primary inside (g.call2 f is a b) ws = refl
body_primary inside (g.call3 f is a b c) ws = refl
body_primary inside (g.fetch e) ws = refl
body_primary inside (g.round e) ws = refl
body_primary inside g.no_items ws = refl
body_primary inside (g.items e more) ws = refl
body_primary inside g.no_pairs ws = refl
body_primary inside (g.pairs (g.pair (g.name_key x) e) more) ws = refl
body_primary inside (g.pairs (g.pair (g.quoted_key x) e) more) ws = refl

body_unary : (inside : Inside) (u : UnaryWay) (ws : List Word) → r.body_at inside (g.unary_words u ws) ≡ r.body_expr inside (g.unary_words u ws)
body_unary inside (g.unsigned (g.postfix p s)) ws = body_primary inside p (g.steps_words s ws)
body_unary inside (g.signed g.negative p) ws = refl
body_unary inside (g.signed g.not p) ws = refl

body_sum : (inside : Inside) (s : SumWay) (ws : List Word) → r.body_at inside (g.sum_words s ws) ≡ r.body_expr inside (g.sum_words s ws)
body_sum inside (g.sum (g.product u f) m) ws = body_unary inside u (g.factors_words f (g.summands_words m ws))

body_compare : (inside : Inside) (c : CompareWay) (ws : List Word) → r.body_at inside (g.compare_words c ws) ≡ r.body_expr inside (g.compare_words c ws)
body_compare inside (g.single s) ws = body_sum inside s ws
body_compare inside (g.compare c s t) ws = body_sum inside s (g.compare_word c ∷ g.sum_words t ws)

body_or : (inside : Inside) (o : OrWay) (ws : List Word) → r.body_at inside (g.or_words o ws) ≡ r.body_expr inside (g.or_words o ws)
body_or inside (g.or (g.and c f) m) ws = body_compare inside c (g.and_parts_words f (g.or_parts_words m ws))

body_value : (inside : Inside) (e : ExprWay) (ws : List Word) → r.body_at inside (g.expr_words e ws) ≡ r.body_expr inside (g.expr_words e ws)
body_value inside (g.plain o) ws = body_or inside o ws
body_value inside (g.choose c a b) ws = body_or inside c (word.Question ∷ g.or_words a (word.Colon ∷ g.or_words b ws))

-- What begins as a statement is read as a block.
body_stmt : (inside : Inside) (s : StmtWay) (ws : List Word) → r.body_at inside (word.OpenCurly ∷ g.stmt_words s ws) ≡ r.body_block inside (word.OpenCurly ∷ g.stmt_words s ws)
body_stmt inside (g.let_stmt x e) ws = refl
body_stmt inside (g.assign_stmt x e) ws = refl
body_stmt inside (g.if_stmt e b more other) ws = refl
body_stmt inside (g.while_stmt e b) ws = refl
body_stmt inside (g.for_stmt x e b) ws = refl
body_stmt inside (g.yield_stmt e) ws = refl
body_stmt inside (g.return_stmt e) ws = refl
body_stmt inside (g.throw_stmt e) ws = refl
body_stmt inside (g.cleanup_stmt e) ws = refl

pub body_again : (room : ℕ) (b : BodyWay) → trees.body_depth b ≤ room → r.body_at (inside_of room) (g.body_words b []) ≡ Ok (trees.body_tree b, [])
body_again room (g.block_body s more) deep =
    body_stmt (inside_of room) s (g.stmts_words more (word.CloseCurly ∷ []))
    ∙ ap (λ m. m >>= (λ b. Ok (body.Block b.0, b.1))) (block_again room (complete_within room) (g.block (g.next_stmt s more)) [] deep)
body_again room (g.expr_body e) deep =
    body_value (inside_of room) e [] ∙ ap (λ m. m >>= (λ x. Ok (body.Expr x.0, x.1))) ((complete room).0 e [] deep tt)

-- The next word isn't =.
abbrev NotAssign : List Word → Type 0
NotAssign (word.Assign ∷ ws) = ⊥
NotAssign ws = Unit {0}

cell_primary : (inside : Inside) (p : PrimaryWay) (ws : List Word) → NotAssign ws → r.cell inside (g.primary_words p ws) ≡ r.cell_of None inside (g.primary_words p ws)
cell_primary inside (g.number n) ws h = refl
cell_primary inside (g.quoted x) ws h = refl
cell_primary inside g.true_word ws h = refl
cell_primary inside g.false_word ws h = refl
cell_primary inside g.null_word ws h = refl
cell_primary inside (g.name x) (word.Assign ∷ ws) h = absurd h
cell_primary inside (g.name x) [] h = refl
cell_primary inside (g.name x) (w ∷ ws) h = refl
cell_primary inside (g.call1 f is a) ws h = refl
cell_primary inside (g.call2 f is a b) ws h = refl
cell_primary inside (g.call3 f is a b c) ws h = refl
cell_primary inside (g.fetch e) ws h = refl
cell_primary inside (g.round e) ws h = refl
cell_primary inside g.no_items ws h = refl
cell_primary inside (g.items e more) ws h = refl
cell_primary inside g.no_pairs ws h = refl
cell_primary inside (g.pairs p more) ws h = refl

steps_na : (d : Steps) (ws : List Word) → NotAssign ws → NotAssign (g.steps_words d ws)
steps_na g.no_step ws h = h
steps_na (g.field x more) ws h = tt
steps_na (g.at e more) ws h = tt

factors_na : (d : Factors) (ws : List Word) → NotAssign ws → NotAssign (g.factors_words d ws)
factors_na g.no_factor ws h = h
factors_na (g.factor g.times u more) ws h = tt
factors_na (g.factor g.divide u more) ws h = tt
factors_na (g.factor g.remainder u more) ws h = tt

summands_na : (d : Summands) (ws : List Word) → NotAssign ws → NotAssign (g.summands_words d ws)
summands_na g.no_summand ws h = h
summands_na (g.summand g.plus u more) ws h = tt
summands_na (g.summand g.minus u more) ws h = tt

and_parts_na : (d : AndParts) (ws : List Word) → NotAssign ws → NotAssign (g.and_parts_words d ws)
and_parts_na g.no_and_part ws h = h
and_parts_na (g.and_part c more) ws h = tt

or_parts_na : (d : OrParts) (ws : List Word) → NotAssign ws → NotAssign (g.or_parts_words d ws)
or_parts_na g.no_or_part ws h = h
or_parts_na (g.or_part a more) ws h = tt

compare_word_na : (c : CompareSign) (ws : List Word) → NotAssign (g.compare_word c ∷ ws)
compare_word_na g.equal ws = tt
compare_word_na g.not_equal ws = tt
compare_word_na g.less ws = tt
compare_word_na g.less_or_equal ws = tt
compare_word_na g.greater ws = tt
compare_word_na g.greater_or_equal ws = tt

cell_unary : (inside : Inside) (u : UnaryWay) (ws : List Word) → NotAssign ws → r.cell inside (g.unary_words u ws) ≡ r.cell_of None inside (g.unary_words u ws)
cell_unary inside (g.unsigned (g.postfix p s)) ws h = cell_primary inside p (g.steps_words s ws) (steps_na s ws h)
cell_unary inside (g.signed g.negative p) ws h = refl
cell_unary inside (g.signed g.not p) ws h = refl

cell_sum : (inside : Inside) (s : SumWay) (ws : List Word) → NotAssign ws → r.cell inside (g.sum_words s ws) ≡ r.cell_of None inside (g.sum_words s ws)
cell_sum inside (g.sum (g.product u f) m) ws h = cell_unary inside u (g.factors_words f (g.summands_words m ws)) (factors_na f (g.summands_words m ws) (summands_na m ws h))

cell_compare : (inside : Inside) (c : CompareWay) (ws : List Word) → NotAssign ws → r.cell inside (g.compare_words c ws) ≡ r.cell_of None inside (g.compare_words c ws)
cell_compare inside (g.single s) ws h = cell_sum inside s ws h
cell_compare inside (g.compare c s t) ws h = cell_sum inside s (g.compare_word c ∷ g.sum_words t ws) (compare_word_na c (g.sum_words t ws))

cell_or : (inside : Inside) (o : OrWay) (ws : List Word) → NotAssign ws → r.cell inside (g.or_words o ws) ≡ r.cell_of None inside (g.or_words o ws)
cell_or inside (g.or (g.and c f) m) ws h =
    cell_compare inside c (g.and_parts_words f (g.or_parts_words m ws)) (and_parts_na f (g.or_parts_words m ws) (or_parts_na m ws h))

cell_body : (inside : Inside) (b : BodyWay) → r.cell inside (g.body_words b []) ≡ r.cell_of None inside (g.body_words b [])
cell_body inside (g.block_body s more) = refl
cell_body inside (g.expr_body (g.plain o)) = cell_or inside o [] tt
cell_body inside (g.expr_body (g.choose c a b)) = cell_or inside c (word.Question ∷ g.or_words a (word.Colon ∷ g.or_words b [])) tt

pub cell_again : (room : ℕ) (c : CellWay) → trees.cell_depth c ≤ room → r.cell (inside_of room) (g.cell_words c []) ≡ Ok (trees.cell_tree c, [])
cell_again room (g.unnamed b) deep =
    cell_body (inside_of room) b ∙ ap (λ m. m >>= (λ y. (let z : Read Cell = Ok (record { name = None; body = y.0 }, y.1) in z))) (body_again room b deep)
cell_again room (g.named x b) deep = ap (λ m. m >>= (λ y. (let z : Read Cell = Ok (record { name = Some x; body = y.0 }, y.1) in z))) (body_again room b deep)
