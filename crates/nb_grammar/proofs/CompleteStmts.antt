-- A statement that is spelled so is read.
use Rattle.std.proofs.Common.{◌≡◌, ◌≤◌, ◌<◌, ℕ, zero, suc, max, refl, ap, ◌∙◌, List, [], ◌∷◌, ◌++◌, length, Some, None, Ok, arith, lit<}
use Rattle.nb_lexer.specs.declared.word.Word.{Word}
use Rattle.nb_lexer.specs.declared.word.Word.TheVariants as word
use Rattle.nb_syntax.specs.declared.tree.Expr.{Expr}
use Rattle.nb_syntax.specs.declared.tree.Block.{Block}
use Rattle.nb_syntax.specs.declared.tree.Arm.{Arm}
use Rattle.nb_syntax.specs.declared.tree.Stmt.{Stmt}
use Rattle.nb_syntax.specs.declared.tree.Stmt.TheVariants as stmt
use Rattle.nb_grammar.specs.Reading as r
use Rattle.nb_grammar.specs.Reading.{Read, ◌>>=◌, many, rounds, inside_of, Inside}
use Rattle.nb_grammar.specs.Grammar as g
use Rattle.nb_grammar.specs.Trees as trees
use Rattle.nb_grammar.specs.Grammar.{ExprWay, BlockWay, Stmts, StmtWay, ElseIfs, ElseWay}
use Rattle.nb_grammar.proofs.SoundPrimary.{Within}
use Rattle.nb_grammar.proofs.Grows.{expr_grows, block_grows, else_ifs_grows, else_grows}
use Rattle.nb_grammar.proofs.Begins.{CompleteExpr, CompleteStmts, CompleteInner, none_again, turn_again}
use Rattle.nb_grammar.proofs.CompletePrimary.{in_round_again}
use Rattle.nb_grammar.proofs.CompleteExpr.{expr_again}

-- The next word isn't else.
abbrev pub NotElse : List Word → Type 0
NotElse (word.Else ∷ ws) = ⊥
NotElse ws = Unit {0}

block_not_else : (b : BlockWay) (ws : List Word) → NotElse (g.block_words b ws)
block_not_else (g.block more) ws = tt

stmt_not_else : (s : StmtWay) (ws : List Word) → NotElse (g.stmt_words s ws)
stmt_not_else (g.let_stmt x e) ws = tt
stmt_not_else (g.assign_stmt x e) ws = tt
stmt_not_else (g.if_stmt e b more other) ws = tt
stmt_not_else (g.while_stmt e b) ws = tt
stmt_not_else (g.for_stmt x e b) ws = tt
stmt_not_else (g.yield_stmt e) ws = tt
stmt_not_else (g.return_stmt e) ws = tt
stmt_not_else (g.throw_stmt e) ws = tt
stmt_not_else (g.cleanup_stmt e) ws = tt

stmts_not_else : (d : Stmts) (ws : List Word) → NotElse (g.stmts_words d (word.CloseCurly ∷ ws))
stmts_not_else g.no_stmt ws = tt
stmts_not_else (g.next_stmt s more) ws = stmt_not_else s (g.stmts_words more (word.CloseCurly ∷ ws))

pub block_again : (room : ℕ) → Within CompleteInner room → (b : BlockWay) (rest : List Word) → trees.block_depth b ≤ room
    → r.block (inside_of room) (g.block_words b rest) ≡ Ok (trees.block_tree b, rest)
block_again zero within (g.block more) rest deep = absurd (omega arith)
block_again (suc room) within (g.block more) rest deep =
    let d : trees.stmts_depth more ≤ room = omega arith in
    ap (λ m. m >>= (λ s. (let z : Read Block = Ok (record { stmts = s.0 }, s.1) in z))) (within.1 more rest d)

bracketed_again : (room : ℕ) → Within CompleteInner room → (e : ExprWay) (rest : List Word) → suc (trees.expr_depth e) ≤ room
    → r.bracketed (inside_of room) (word.OpenRound ∷ g.expr_words e (word.CloseRound ∷ rest)) ≡ Ok (trees.expr_tree e, rest)
bracketed_again room within e rest deep = in_round_again room within e rest deep

pub ended_again : (room : ℕ) → CompleteExpr room → (e : ExprWay) (rest : List Word) → trees.expr_depth e ≤ room
    → r.ended (inside_of room) (g.expr_words e (word.Semicolon ∷ rest)) ≡ Ok (trees.expr_tree e, rest)
ended_again room whole e rest deep = ap (λ m. m >>= (λ x. r.semicolon x.1 >>= (λ s. Ok (x.0, s)))) (whole e (word.Semicolon ∷ rest) deep (lit< tt))

abbrev arm_tree : ExprWay → BlockWay → Arm
arm_tree e b = record { test = trees.expr_tree e; body = trees.block_tree b }

arm_again : (room : ℕ) → Within CompleteInner room → (e : ExprWay) (b : BlockWay) (rest : List Word) → max (suc (trees.expr_depth e)) (trees.block_depth b) ≤ room
    → r.arm (inside_of room) (word.OpenRound ∷ g.expr_words e (word.CloseRound ∷ g.block_words b rest)) ≡ Ok (arm_tree e b, rest)
arm_again room within e b rest deep =
    let d1 : suc (trees.expr_depth e) ≤ room = omega arith in
    let d2 : trees.block_depth b ≤ room = omega arith in
    ap (λ m. m >>= (λ test. r.block (inside_of room) test.1 >>= (λ b. (let z : Read Arm = Ok (record { test = test.0; body = b.0 }, b.1) in z)))) (bracketed_again room within e (g.block_words b rest) d1)
    ∙ ap (λ m. m >>= (λ b. (let z : Read Arm = Ok (record { test = trees.expr_tree e; body = b.0 }, b.1) in z))) (block_again room within b rest d2)

-- what may follow the arms of an if
else_stop : (inside : Inside) (other : ElseWay) (rest : List Word) → NotElse rest → r.else_if inside (g.else_words other rest) ≡ Ok (None, g.else_words other rest)
else_stop inside g.no_else [] no_else = refl
else_stop inside g.no_else (word.Else ∷ ws) no_else = absurd no_else
else_stop inside g.no_else (w ∷ ws) no_else = refl
else_stop inside (g.else_block (g.block more)) rest no_else = refl

otherwise_again : (room : ℕ) → Within CompleteInner room → (other : ElseWay) (rest : List Word) → trees.else_depth other ≤ room → NotElse rest
    → r.otherwise (inside_of room) (g.else_words other rest) ≡ Ok (trees.else_tree other, rest)
otherwise_again room within g.no_else [] deep no_else = refl
otherwise_again room within g.no_else (word.Else ∷ ws) deep no_else = absurd no_else
otherwise_again room within g.no_else (w ∷ ws) deep no_else = refl
otherwise_again room within (g.else_block b) rest deep no_else = ap (λ m. m >>= (λ b. Ok (Some b.0, b.1))) (block_again room within b rest deep)

else_ifs_again : (room : ℕ) → Within CompleteInner room → (d : ElseIfs) (other : ElseWay) (n : ℕ) (done : List Arm) (rest : List Word) → trees.else_ifs_depth d ≤ room → NotElse rest
    → length (g.else_ifs_words d (g.else_words other rest)) ≤ n
    → many (r.else_if (inside_of room)) n done (g.else_ifs_words d (g.else_words other rest)) ≡ Ok (done ++ trees.else_ifs_tree d, g.else_words other rest)
else_ifs_again room within g.no_else_if other n done rest deep no_else enough =
    none_again (r.else_if (inside_of room)) n done (g.else_words other rest) (else_stop (inside_of room) other rest no_else)
else_ifs_again room within (g.else_if e b more) other zero done rest deep no_else enough = absurd (omega arith)
else_ifs_again room within (g.else_if e b more) other (suc n) done rest deep no_else enough =
    let end : List Word = g.else_words other rest in
    let ws : List Word = g.else_ifs_words more end in
    let fuel : length ws ≤ n = omega (arith, expr_grows e (word.CloseRound ∷ g.block_words b ws), block_grows b ws) in
    let d1 : max (suc (trees.expr_depth e)) (trees.block_depth b) ≤ room = omega arith in
    let d2 : trees.else_ifs_depth more ≤ room = omega arith in
    turn_again (r.else_if (inside_of room)) n done (word.Else ∷ word.If ∷ word.OpenRound ∷ g.expr_words e (word.CloseRound ∷ g.block_words b ws)) ws end (arm_tree e b) (trees.else_ifs_tree more)
    (ap (λ m. m >>= (λ a. Ok (Some a.0, a.1))) (arm_again room within e b ws d1))
    (else_ifs_again room within more other n (done ++ arm_tree e b ∷ []) rest d2 no_else fuel)

if_again : (room : ℕ) → Within CompleteInner room → (e : ExprWay) (b : BlockWay) (more : ElseIfs) (other : ElseWay) (rest : List Word)
    → max (max (suc (trees.expr_depth e)) (trees.block_depth b)) (max (trees.else_ifs_depth more) (trees.else_depth other)) ≤ room → NotElse rest
    → r.if_stmt (inside_of room) (word.OpenRound ∷ g.expr_words e (word.CloseRound ∷ g.block_words b (g.else_ifs_words more (g.else_words other rest))))
    ≡ Ok (trees.stmt_tree (g.if_stmt e b more other), rest)
if_again room within e b more other rest deep no_else =
    let end : List Word = g.else_words other rest in
    let ws : List Word = g.else_ifs_words more end in
    let d1 : max (suc (trees.expr_depth e)) (trees.block_depth b) ≤ room = omega arith in
    let d2 : trees.else_ifs_depth more ≤ room = omega arith in
    let d3 : trees.else_depth other ≤ room = omega arith in
    ap (λ m. m >>= (λ first. rounds (r.else_if (inside_of room)) (first.0 ∷ []) first.1 >>= (λ arms. r.otherwise (inside_of room) arms.1 >>= (λ other. Ok (stmt.If arms.0 other.0, other.1)))))
    (arm_again room within e b ws d1)
    ∙ ap (λ m. m >>= (λ arms. r.otherwise (inside_of room) arms.1 >>= (λ other. Ok (stmt.If arms.0 other.0, other.1))))
    (else_ifs_again room within more other (suc (length ws)) (arm_tree e b ∷ []) rest d2 no_else (omega arith))
    ∙ ap (λ m. m >>= (λ other. Ok (stmt.If (arm_tree e b ∷ trees.else_ifs_tree more) other.0, other.1))) (otherwise_again room within other rest d3 no_else)

each_again : (room : ℕ) → Within CompleteInner room → (x : List ℕ) (e : ExprWay) (rest : List Word) → suc (trees.expr_depth e) ≤ room
    → r.each (inside_of room) (word.OpenRound ∷ word.Let ∷ word.Name x ∷ word.Of ∷ g.expr_words e (word.CloseRound ∷ rest)) ≡ Ok ((x, trees.expr_tree e), rest)
each_again zero within x e rest deep = absurd (omega arith)
each_again (suc room) within x e rest deep =
    let less : trees.expr_depth e ≤ room = omega arith in
    ap (λ m. m >>= (λ list. r.close_round list.1 >>= (λ rest. (let z : Read (List ℕ × Expr) = Ok ((x, list.0), rest) in z)))) (within.0 e (word.CloseRound ∷ rest) less (lit< tt))

for_again : (room : ℕ) → Within CompleteInner room → (x : List ℕ) (e : ExprWay) (b : BlockWay) (rest : List Word) → max (suc (trees.expr_depth e)) (trees.block_depth b) ≤ room
    → r.for_stmt (inside_of room) (word.OpenRound ∷ word.Let ∷ word.Name x ∷ word.Of ∷ g.expr_words e (word.CloseRound ∷ g.block_words b rest))
    ≡ Ok (stmt.For x (trees.expr_tree e) (trees.block_tree b), rest)
for_again room within x e b rest deep =
    let d1 : suc (trees.expr_depth e) ≤ room = omega arith in
    let d2 : trees.block_depth b ≤ room = omega arith in
    ap (λ m. m >>= (λ (h : (List ℕ × Expr) × List Word). r.block (inside_of room) h.1 >>= (λ b. Ok (stmt.For h.0.0 h.0.1 b.0, b.1)))) (each_again room within x e (g.block_words b rest) d1)
    ∙ ap (λ m. m >>= (λ b. Ok (stmt.For x (trees.expr_tree e) b.0, b.1))) (block_again room within b rest d2)

pub stmt_again : (room : ℕ) → Within CompleteInner room → CompleteExpr room → (s : StmtWay) (rest : List Word) → trees.stmt_depth s ≤ room → NotElse rest
    → r.next_stmt (inside_of room) (g.stmt_words s rest) ≡ Ok (Some (trees.stmt_tree s), rest)
stmt_again room within whole (g.let_stmt x e) rest deep no_else = ap (λ m. m >>= (λ e. let y : Read Stmt = Ok (stmt.Let x e.0, e.1) in y) >>= (λ s. Ok (Some s.0, s.1))) (ended_again room whole e rest deep)
stmt_again room within whole (g.assign_stmt x e) rest deep no_else = ap (λ m. m >>= (λ e. let y : Read Stmt = Ok (stmt.Assign x e.0, e.1) in y) >>= (λ s. Ok (Some s.0, s.1))) (ended_again room whole e rest deep)
stmt_again room within whole (g.if_stmt e b more other) rest deep no_else =
    ap (λ m. m >>= (λ s. Ok (Some s.0, s.1))) (if_again room within e b more other rest deep no_else)
stmt_again room within whole (g.while_stmt e b) rest deep no_else =
    ap (λ m. m >>= (λ (a : Arm × List Word). let y : Read Stmt = Ok (stmt.While a.0.test a.0.body, a.1) in y) >>= (λ s. Ok (Some s.0, s.1))) (arm_again room within e b rest deep)
stmt_again room within whole (g.for_stmt x e b) rest deep no_else = ap (λ m. m >>= (λ s. Ok (Some s.0, s.1))) (for_again room within x e b rest deep)
stmt_again room within whole (g.yield_stmt e) rest deep no_else = ap (λ m. m >>= (λ e. Ok (Some (stmt.Yield e.0), e.1))) (ended_again room whole e rest deep)
stmt_again room within whole (g.return_stmt e) rest deep no_else = ap (λ m. m >>= (λ e. Ok (Some (stmt.Return e.0), e.1))) (ended_again room whole e rest deep)
stmt_again room within whole (g.throw_stmt e) rest deep no_else = ap (λ m. m >>= (λ e. Ok (Some (stmt.Throw e.0), e.1))) (ended_again room whole e rest deep)
stmt_again room within whole (g.cleanup_stmt e) rest deep no_else = ap (λ m. m >>= (λ e. Ok (Some (stmt.Cleanup e.0), e.1))) (ended_again room whole e rest deep)

pub stmt_longer : (s : StmtWay) (ws : List Word) → length ws < length (g.stmt_words s ws)
stmt_longer (g.let_stmt x e) ws = omega (arith, expr_grows e (word.Semicolon ∷ ws))
stmt_longer (g.assign_stmt x e) ws = omega (arith, expr_grows e (word.Semicolon ∷ ws))
stmt_longer (g.if_stmt e b more other) ws = omega (arith, expr_grows e (word.CloseRound ∷ g.block_words b (g.else_ifs_words more (g.else_words other ws))), block_grows b (g.else_ifs_words more (g.else_words other ws)), else_ifs_grows more (g.else_words other ws), else_grows other ws)
stmt_longer (g.while_stmt e b) ws = omega (arith, expr_grows e (word.CloseRound ∷ g.block_words b ws), block_grows b ws)
stmt_longer (g.for_stmt x e b) ws = omega (arith, expr_grows e (word.CloseRound ∷ g.block_words b ws), block_grows b ws)
stmt_longer (g.yield_stmt e) ws = omega (arith, expr_grows e (word.Semicolon ∷ ws))
stmt_longer (g.return_stmt e) ws = omega (arith, expr_grows e (word.Semicolon ∷ ws))
stmt_longer (g.throw_stmt e) ws = omega (arith, expr_grows e (word.Semicolon ∷ ws))
stmt_longer (g.cleanup_stmt e) ws = omega (arith, expr_grows e (word.Semicolon ∷ ws))

stmts_loop : (room : ℕ) → Within CompleteInner room → CompleteExpr room → (d : Stmts) (n : ℕ) (done : List Stmt) (rest : List Word) → trees.stmts_depth d ≤ room
    → length (g.stmts_words d (word.CloseCurly ∷ rest)) ≤ n
    → many (r.next_stmt (inside_of room)) n done (g.stmts_words d (word.CloseCurly ∷ rest)) ≡ Ok (done ++ trees.stmts_tree d, word.CloseCurly ∷ rest)
stmts_loop room within whole g.no_stmt n done rest deep enough = none_again (r.next_stmt (inside_of room)) n done (word.CloseCurly ∷ rest) refl
stmts_loop room within whole (g.next_stmt s more) zero done rest deep enough = absurd (omega (arith, stmt_longer s (g.stmts_words more (word.CloseCurly ∷ rest))))
stmts_loop room within whole (g.next_stmt s more) (suc n) done rest deep enough =
    let ws : List Word = g.stmts_words more (word.CloseCurly ∷ rest) in
    let fuel : length ws ≤ n = omega (arith, stmt_longer s ws) in
    let d1 : trees.stmt_depth s ≤ room = omega arith in
    let d2 : trees.stmts_depth more ≤ room = omega arith in
    turn_again (r.next_stmt (inside_of room)) n done (g.stmt_words s ws) ws (word.CloseCurly ∷ rest) (trees.stmt_tree s) (trees.stmts_tree more)
    (stmt_again room within whole s ws d1 (stmts_not_else more rest))
    (stmts_loop room within whole more n (done ++ trees.stmt_tree s ∷ []) rest d2 fuel)

pub stmts_again : (room : ℕ) → Within CompleteInner room → CompleteExpr room → CompleteStmts room
stmts_again room within whole d rest deep =
    let ws : List Word = g.stmts_words d (word.CloseCurly ∷ rest) in
    ap (λ m. m >>= (λ all. r.close_curly all.1 >>= (λ rest. Ok (all.0, rest)))) (stmts_loop room within whole d (suc (length ws)) [] rest deep (omega arith))

complete_by : (room : ℕ) → Within CompleteInner room → CompleteInner room
complete_by room within = (expr_again room within, stmts_again room within (expr_again room within))

-- What is spelled so is read.
pub complete : (room : ℕ) → CompleteInner room
complete zero = complete_by zero tt
complete (suc room) = complete_by (suc room) (complete room)

pub complete_within : (room : ℕ) → Within CompleteInner room
complete_within zero = tt
complete_within (suc room) = complete room
