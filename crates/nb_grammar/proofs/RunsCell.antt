-- The machine goes as reading statements and cells does.
use Rattle.std.proofs.Common.{◌≡◌, ℕ, zero, suc, Bool, true, false, refl, ◌∙◌, List, [], ◌∷◌, Option, Some, None, Ok}
use Rattle.nb_lexer.specs.declared.word.Word.{Word}
use Rattle.nb_lexer.specs.declared.word.Word.TheVariants as word
use Rattle.nb_syntax.specs.declared.tree.Expr.{Expr}
use Rattle.nb_syntax.specs.declared.tree.Block.{Block}
use Rattle.nb_syntax.specs.declared.tree.Arm.{Arm}
use Rattle.nb_syntax.specs.declared.tree.Stmt.{Stmt}
use Rattle.nb_syntax.specs.declared.tree.Stmt.TheVariants as stmt
use Rattle.nb_syntax.specs.declared.tree.Body.TheVariants as body
use Rattle.nb_syntax.specs.declared.tree.Cell.{Cell}
use Rattle.nb_grammar.specs.declared.fault.Fault.{Fault}
use Rattle.nb_grammar.specs.Reading as r
use Rattle.nb_grammar.specs.Reading.{Read, ◌>>=◌, rounds, onward, inside_of}
use Rattle.nb_grammar.specs.Machine as m
use Rattle.nb_grammar.specs.Machine.{Sym, run, want, need_name, need_let, need_of, need_open_round, need_close_round, need_semicolon, need_assign, more_stmts, more_else}
use Rattle.nb_grammar.proofs.SoundPrimary.{Within}
use Rattle.nb_grammar.proofs.Loops.{else_if_falls, stmt_falls}
use Rattle.nb_grammar.proofs.Runs.{ends, ends_then, Loops, rounds_goes, RunsExpr, RunsStmts, RunsInner, close_round_runs, semicolon_runs, assign_runs, let_word_runs, of_word_runs, name_runs}
use Rattle.nb_grammar.proofs.RunsPrimary.{bracketed_runs, curly_closed}
use Rattle.nb_grammar.proofs.RunsExpr.{expr_runs}

block_runs : (room : ℕ) → Within RunsInner room → (ws : List Word) (ss : List Sym) → run ws room (m.block ∷ ss) ≡ ends (r.block (inside_of room) ws) (λ x. run x.1 room ss)
block_runs zero within (word.OpenCurly ∷ ws) ss = refl
block_runs (suc room) within (word.OpenCurly ∷ ws) ss =
    within.1 ws ss
    ∙ ends_then (r.stmts (inside_of room) ws) (λ s. (let z : Read Block = Ok (record { stmts = s.0 }, s.1) in z)) (λ x. run x.1 (suc room) ss) (λ x. run x.1 (suc room) ss) (λ e is. refl)
block_runs room within [] ss = refl
block_runs room within (w ∷ ws) ss = refl

ended_runs : (room : ℕ) → RunsExpr room → (ws : List Word) (ss : List Sym)
    → run ws room (want m.expr ∷ need_semicolon ∷ ss) ≡ ends (r.ended (inside_of room) ws) (λ x. run x.1 room ss)
ended_runs room whole ws ss =
    let k : Expr × List Word → Option Fault = λ x. run x.1 room ss in
    whole ws (need_semicolon ∷ ss)
    ∙ ends_then (r.expr (inside_of room) ws) (λ e. r.semicolon e.1 >>= (λ rest. Ok (e.0, rest))) (λ x. run x.1 room (need_semicolon ∷ ss)) k
    (λ e is. semicolon_runs room e.1 ss ∙ ends_then (r.semicolon e.1) (λ rest. Ok (e.0, rest)) (λ rest. run rest room ss) k (λ rest g. refl))

assignment_runs : (room : ℕ) → RunsExpr room → (n : List ℕ) (ws : List Word) (ss : List Sym)
    → run ws room (need_assign ∷ want m.expr ∷ need_semicolon ∷ ss) ≡ ends (r.assignment (inside_of room) n ws) (λ x. run x.1 room ss)
assignment_runs room whole n ws ss =
    let k : Stmt × List Word → Option Fault = λ x. run x.1 room ss in
    let f : Expr × List Word → Read Stmt = λ e. Ok (stmt.Assign n e.0, e.1) in
    assign_runs room ws (want m.expr ∷ need_semicolon ∷ ss)
    ∙ ends_then (r.assign ws) (λ rest. r.ended (inside_of room) rest >>= f) (λ rest. run rest room (want m.expr ∷ need_semicolon ∷ ss)) k
    (λ rest g. ended_runs room whole rest ss ∙ ends_then (r.ended (inside_of room) rest) f (λ x. run x.1 room ss) k (λ e h. refl))

let_runs : (room : ℕ) → RunsExpr room → (ws : List Word) (ss : List Sym)
    → run ws room (need_name ∷ need_assign ∷ want m.expr ∷ need_semicolon ∷ ss) ≡ ends (r.let_stmt (inside_of room) ws) (λ x. run x.1 room ss)
let_runs room whole ws ss =
    let k : Stmt × List Word → Option Fault = λ x. run x.1 room ss in
    let f : List ℕ → Expr × List Word → Read Stmt = λ n e. Ok (stmt.Let n e.0, e.1) in
    name_runs room ws (need_assign ∷ want m.expr ∷ need_semicolon ∷ ss)
    ∙ ends_then (r.name ws) (λ x. r.assign x.1 >>= (λ rest. r.ended (inside_of room) rest >>= f x.0)) (λ x. run x.1 room (need_assign ∷ want m.expr ∷ need_semicolon ∷ ss)) k
    (λ x is. assign_runs room x.1 (want m.expr ∷ need_semicolon ∷ ss)
    ∙ ends_then (r.assign x.1) (λ rest. r.ended (inside_of room) rest >>= f x.0) (λ rest. run rest room (want m.expr ∷ need_semicolon ∷ ss)) k
    (λ rest g. ended_runs room whole rest ss ∙ ends_then (r.ended (inside_of room) rest) (f x.0) (λ x. run x.1 room ss) k (λ e h. refl)))

arm_runs : (room : ℕ) → Within RunsInner room → (ws : List Word) (ss : List Sym)
    → run ws room (need_open_round ∷ want m.expr ∷ need_close_round ∷ m.block ∷ ss) ≡ ends (r.arm (inside_of room) ws) (λ x. run x.1 room ss)
arm_runs room within ws ss =
    let k : Arm × List Word → Option Fault = λ x. run x.1 room ss in
    let f : Expr → Block × List Word → Read Arm = λ e b. Ok (record { test = e; body = b.0 }, b.1) in
    bracketed_runs room within ws (m.block ∷ ss)
    ∙ ends_then (r.bracketed (inside_of room) ws) (λ e. r.block (inside_of room) e.1 >>= f e.0) (λ x. run x.1 room (m.block ∷ ss)) k
    (λ e is. block_runs room within e.1 ss ∙ ends_then (r.block (inside_of room) e.1) (f e.0) (λ x. run x.1 room ss) k (λ b g. refl))

-- behind the arms of an if
abbrev else_run : ℕ → List Sym → List Word → Option Fault
else_run room ss ws = ends (r.otherwise (inside_of room) ws) (λ x. run x.1 room ss)

else_block_runs : (room : ℕ) → Within RunsInner room → (ws : List Word) (ss : List Sym) → run ws room (m.block ∷ ss) ≡ else_run room ss (word.Else ∷ ws)
else_block_runs room within ws ss =
    block_runs room within ws ss
    ∙ ends_then (r.block (inside_of room) ws) (λ b. Ok (Some b.0, b.1)) (λ x. run x.1 room ss) (λ x. run x.1 room ss) (λ b is. refl)

else_if_loops : (room : ℕ) → Within RunsInner room → (ss : List Sym) → Loops room more_else ss (r.else_if (inside_of room)) (else_run room ss)
else_if_loops room within ss (word.Else ∷ word.If ∷ ws) =
    arm_runs room within ws (more_else ∷ ss)
    ∙ ends_then (r.arm (inside_of room) ws) (λ a. Ok (Some a.0, a.1)) (λ x. run x.1 room (more_else ∷ ss))
    (λ x. onward x.0 (else_run room ss x.1) (λ a. run x.1 room (more_else ∷ ss))) (λ a is. refl)
else_if_loops room within ss (word.Else ∷ word.OpenCurly ∷ ws) = else_block_runs room within (word.OpenCurly ∷ ws) ss
else_if_loops room within ss (word.Else ∷ []) = refl
else_if_loops room within ss (word.Else ∷ w ∷ ws) = refl
else_if_loops room within ss [] = refl
else_if_loops room within ss (w ∷ ws) = refl

if_runs : (room : ℕ) → Within RunsInner room → (ws : List Word) (ss : List Sym)
    → run ws room (need_open_round ∷ want m.expr ∷ need_close_round ∷ m.block ∷ more_else ∷ ss) ≡ ends (r.if_stmt (inside_of room) ws) (λ x. run x.1 room ss)
if_runs room within ws ss =
    let k : Stmt × List Word → Option Fault = λ x. run x.1 room ss in
    let next : List Word → Read (Option Arm) = r.else_if (inside_of room) in
    let g : List Arm → Option Block × List Word → Read Stmt = λ arms other. Ok (stmt.If arms other.0, other.1) in
    let f : List Arm × List Word → Read Stmt = λ arms. r.otherwise (inside_of room) arms.1 >>= g arms.0 in
    arm_runs room within ws (more_else ∷ ss)
    ∙ ends_then (r.arm (inside_of room) ws) (λ first. rounds next (first.0 ∷ []) first.1 >>= f) (λ x. run x.1 room (more_else ∷ ss)) k
    (λ first is. rounds_goes room more_else ss next (else_run room ss) (else_if_falls room) (else_if_loops room within ss) (first.0 ∷ []) first.1
    ∙ ends_then (rounds next (first.0 ∷ []) first.1) f (λ x. else_run room ss x.1) k
    (λ arms i. ends_then (r.otherwise (inside_of room) arms.1) (g arms.0) (λ x. run x.1 room ss) k (λ other j. refl)))

while_runs : (room : ℕ) → Within RunsInner room → (ws : List Word) (ss : List Sym)
    → run ws room (need_open_round ∷ want m.expr ∷ need_close_round ∷ m.block ∷ ss) ≡ ends (r.while_stmt (inside_of room) ws) (λ x. run x.1 room ss)
while_runs room within ws ss =
    arm_runs room within ws ss
    ∙ ends_then (r.arm (inside_of room) ws) (λ (a : Arm × List Word). Ok (stmt.While a.0.test a.0.body, a.1)) (λ x. run x.1 room ss) (λ x. run x.1 room ss) (λ a is. refl)

each_of_runs : (room : ℕ) → RunsExpr room → (ws : List Word) (ss : List Sym)
    → run ws room (need_let ∷ need_name ∷ need_of ∷ want m.expr ∷ need_close_round ∷ ss) ≡ ends (r.each_of (r.expr (inside_of room)) ws) (λ x. run x.1 (suc room) ss)
each_of_runs room whole ws ss =
    let p : List Word → Read Expr = r.expr (inside_of room) in
    let k : (List ℕ × Expr) × List Word → Option Fault = λ x. run x.1 (suc room) ss in
    let h : List ℕ → Expr → List Word → Read (List ℕ × Expr) = λ n e rest. Ok ((n, e), rest) in
    let f : List ℕ → Expr × List Word → Read (List ℕ × Expr) = λ n e. r.close_round e.1 >>= h n e.0 in
    let_word_runs room ws (need_name ∷ need_of ∷ want m.expr ∷ need_close_round ∷ ss)
    ∙ ends_then (r.let_word ws) (λ begun. r.name begun >>= (λ x. r.of_word x.1 >>= (λ from. p from >>= f x.0)))
    (λ rest. run rest room (need_name ∷ need_of ∷ want m.expr ∷ need_close_round ∷ ss)) k
    (λ begun i. name_runs room begun (need_of ∷ want m.expr ∷ need_close_round ∷ ss)
    ∙ ends_then (r.name begun) (λ x. r.of_word x.1 >>= (λ from. p from >>= f x.0)) (λ x. run x.1 room (need_of ∷ want m.expr ∷ need_close_round ∷ ss)) k
    (λ x j. of_word_runs room x.1 (want m.expr ∷ need_close_round ∷ ss)
    ∙ ends_then (r.of_word x.1) (λ from. p from >>= f x.0) (λ rest. run rest room (want m.expr ∷ need_close_round ∷ ss)) k
    (λ from l. whole from (need_close_round ∷ ss)
    ∙ ends_then (p from) (f x.0) (λ e. run e.1 room (need_close_round ∷ ss)) k
    (λ e q. close_round_runs room e.1 ss ∙ ends_then (r.close_round e.1) (h x.0 e.0) (λ rest. run rest (suc room) ss) k (λ rest v. refl)))))

each_runs : (room : ℕ) → Within RunsInner room → (ws : List Word) (ss : List Sym)
    → run ws room (need_open_round ∷ need_let ∷ need_name ∷ need_of ∷ want m.expr ∷ need_close_round ∷ ss) ≡ ends (r.each (inside_of room) ws) (λ x. run x.1 room ss)
each_runs zero within (word.OpenRound ∷ ws) ss = refl
each_runs (suc room) within (word.OpenRound ∷ ws) ss = each_of_runs room within.0 ws ss
each_runs room within [] ss = refl
each_runs room within (w ∷ ws) ss = refl

for_runs : (room : ℕ) → Within RunsInner room → (ws : List Word) (ss : List Sym)
    → run ws room (need_open_round ∷ need_let ∷ need_name ∷ need_of ∷ want m.expr ∷ need_close_round ∷ m.block ∷ ss) ≡ ends (r.for_stmt (inside_of room) ws) (λ x. run x.1 room ss)
for_runs room within ws ss =
    let k : Stmt × List Word → Option Fault = λ x. run x.1 room ss in
    let f : List ℕ × Expr → Block × List Word → Read Stmt = λ h b. Ok (stmt.For h.0 h.1 b.0, b.1) in
    each_runs room within ws (m.block ∷ ss)
    ∙ ends_then (r.each (inside_of room) ws) (λ h. r.block (inside_of room) h.1 >>= f h.0) (λ x. run x.1 room (m.block ∷ ss)) k
    (λ h is. block_runs room within h.1 ss ∙ ends_then (r.block (inside_of room) h.1) (f h.0) (λ x. run x.1 room ss) k (λ b g. refl))

-- a statement of a block, and the next
some_runs : {A : Type 0} (room : ℕ) (ss : List Sym) (read : Read A) (make : A → Stmt)
    → ends read (λ x. run x.1 room (more_stmts ∷ ss))
    ≡ ends (read >>= (λ s. (let y : Read (Option Stmt) = Ok (Some (make s.0), s.1) in y))) (λ x. onward x.0 (curly_closed room ss x.1) (λ a. run x.1 room (more_stmts ∷ ss)))
some_runs room ss read make =
    ends_then read (λ s. (let y : Read (Option Stmt) = Ok (Some (make s.0), s.1) in y)) (λ x. run x.1 room (more_stmts ∷ ss))
    (λ x. onward x.0 (curly_closed room ss x.1) (λ a. run x.1 room (more_stmts ∷ ss))) (λ e is. refl)

stmt_loops : (room : ℕ) → Within RunsInner room → RunsExpr room → (ss : List Sym) → Loops room more_stmts ss (r.next_stmt (inside_of room)) (curly_closed room ss)
stmt_loops room within whole ss (word.Name n ∷ ws) = assignment_runs room whole n ws (more_stmts ∷ ss) ∙ some_runs room ss (r.assignment (inside_of room) n ws) (λ s. s)
stmt_loops room within whole ss (word.Let ∷ ws) = let_runs room whole ws (more_stmts ∷ ss) ∙ some_runs room ss (r.let_stmt (inside_of room) ws) (λ s. s)
stmt_loops room within whole ss (word.If ∷ ws) = if_runs room within ws (more_stmts ∷ ss) ∙ some_runs room ss (r.if_stmt (inside_of room) ws) (λ s. s)
stmt_loops room within whole ss (word.While ∷ ws) = while_runs room within ws (more_stmts ∷ ss) ∙ some_runs room ss (r.while_stmt (inside_of room) ws) (λ s. s)
stmt_loops room within whole ss (word.For ∷ ws) = for_runs room within ws (more_stmts ∷ ss) ∙ some_runs room ss (r.for_stmt (inside_of room) ws) (λ s. s)
stmt_loops room within whole ss (word.Yield ∷ ws) = ended_runs room whole ws (more_stmts ∷ ss) ∙ some_runs room ss (r.ended (inside_of room) ws) (λ z. stmt.Yield z)
stmt_loops room within whole ss (word.Return ∷ ws) = ended_runs room whole ws (more_stmts ∷ ss) ∙ some_runs room ss (r.ended (inside_of room) ws) (λ z. stmt.Return z)
stmt_loops room within whole ss (word.Throw ∷ ws) = ended_runs room whole ws (more_stmts ∷ ss) ∙ some_runs room ss (r.ended (inside_of room) ws) (λ z. stmt.Throw z)
stmt_loops room within whole ss (word.Cleanup ∷ ws) = ended_runs room whole ws (more_stmts ∷ ss) ∙ some_runs room ss (r.ended (inside_of room) ws) (λ z. stmt.Cleanup z)
stmt_loops room within whole ss (word.CloseCurly ∷ ws) = refl
stmt_loops room within whole ss [] = refl
stmt_loops room within whole ss (w ∷ ws) = refl

pub stmts_run : (room : ℕ) → Within RunsInner room → RunsExpr room → RunsStmts room
stmts_run room within whole ws ss =
    let next : List Word → Read (Option Stmt) = r.next_stmt (inside_of room) in
    let k : List Stmt × List Word → Option Fault = λ x. run x.1 (suc room) ss in
    rounds_goes room more_stmts ss next (curly_closed room ss) (stmt_falls room) (stmt_loops room within whole ss) [] ws
    ∙ ends_then (rounds next [] ws) (λ all. r.close_curly all.1 >>= (λ rest. Ok (all.0, rest))) (λ x. curly_closed room ss x.1) k
    (λ all is. ends_then (r.close_curly all.1) (λ rest. Ok (all.0, rest)) (λ rest. run rest (suc room) ss) k (λ rest g. refl))

runs_by : (room : ℕ) → Within RunsInner room → RunsInner room
runs_by room within = (expr_runs room within, stmts_run room within (expr_runs room within))

pub runs : (room : ℕ) → RunsInner room
runs zero = runs_by zero tt
runs (suc room) = runs_by (suc room) (runs room)

runs_within : (room : ℕ) → Within RunsInner room
runs_within zero = tt
runs_within (suc room) = runs room

-- bodies
body_expr_runs : (room : ℕ) (ws : List Word) → run ws room (want m.expr ∷ []) ≡ ends (r.body_expr (inside_of room) ws) (λ x. run x.1 room [])
body_expr_runs room ws = (runs room).0 ws [] ∙ ends_then (r.expr (inside_of room) ws) (λ e. Ok (body.Expr e.0, e.1)) (λ x. run x.1 room []) (λ x. run x.1 room []) (λ e is. refl)

body_block_runs : (room : ℕ) (ws : List Word) → run ws room (m.block ∷ []) ≡ ends (r.body_block (inside_of room) ws) (λ x. run x.1 room [])
body_block_runs room ws =
    block_runs room (runs_within room) ws [] ∙ ends_then (r.block (inside_of room) ws) (λ b. Ok (body.Block b.0, b.1)) (λ x. run x.1 room []) (λ x. run x.1 room []) (λ e is. refl)

record_split : (room : ℕ) (ws : List Word) → r.is_record ws ≡ true → run (word.OpenCurly ∷ ws) room (m.body ∷ []) ≡ run (word.OpenCurly ∷ ws) room (want m.expr ∷ [])
record_split zero ws yes_record = refl
record_split (suc room) (word.CloseCurly ∷ ws) yes_record = refl
record_split (suc room) (word.Name n ∷ word.Colon ∷ ws) yes_record = refl
record_split (suc room) (word.Name n ∷ []) yes_record = cc
record_split (suc room) (word.Name n ∷ w ∷ ws) yes_record = cc
record_split (suc room) (word.Quoted n ∷ ws) yes_record = refl
record_split (suc room) [] yes_record = cc
record_split (suc room) (w ∷ ws) yes_record = cc

block_split : (room : ℕ) (ws : List Word) → r.is_record ws ≡ false → run (word.OpenCurly ∷ ws) room (m.body ∷ []) ≡ run (word.OpenCurly ∷ ws) room (m.block ∷ [])
block_split zero ws no_record = refl
block_split (suc room) (word.CloseCurly ∷ ws) no_record = cc
block_split (suc room) (word.Name n ∷ word.Colon ∷ ws) no_record = cc
block_split (suc room) (word.Name n ∷ word.Assign ∷ ws) no_record = refl
block_split (suc room) (word.Name n ∷ []) no_record = refl
block_split (suc room) (word.Name n ∷ w ∷ ws) no_record = refl
block_split (suc room) (word.Quoted n ∷ ws) no_record = cc
block_split (suc room) [] no_record = refl
block_split (suc room) (w ∷ ws) no_record = refl

braced_runs : (room : ℕ) (b : Bool) (ws : List Word) → r.is_record ws ≡ b
    → run (word.OpenCurly ∷ ws) room (m.body ∷ []) ≡ ends (r.braced b (inside_of room) (word.OpenCurly ∷ ws)) (λ x. run x.1 room [])
braced_runs room true ws is = record_split room ws is ∙ body_expr_runs room (word.OpenCurly ∷ ws)
braced_runs room false ws is = block_split room ws is ∙ body_block_runs room (word.OpenCurly ∷ ws)

body_runs : (room : ℕ) (ws : List Word) → run ws room (m.body ∷ []) ≡ ends (r.body_at (inside_of room) ws) (λ x. run x.1 room [])
body_runs room (word.OpenCurly ∷ ws) = braced_runs room (r.is_record ws) ws refl
body_runs room [] = body_expr_runs room []
body_runs room (w ∷ ws) = body_expr_runs room (w ∷ ws)

cell_of_runs : (room : ℕ) (name : Option (List ℕ)) (ws : List Word) → run ws room (m.body ∷ []) ≡ ends (r.cell_of name (inside_of room) ws) (λ x. run x.1 room [])
cell_of_runs room name ws =
    body_runs room ws
    ∙ ends_then (r.body_at (inside_of room) ws) (λ b. (let z : Read Cell = Ok (record { name = name; body = b.0 }, b.1) in z)) (λ x. run x.1 room []) (λ x. run x.1 room []) (λ b h. refl)

-- The machine goes as reading a cell does.
pub cell_runs : (room : ℕ) (ws : List Word) → run ws room (m.cell ∷ []) ≡ ends (r.cell (inside_of room) ws) (λ x. run x.1 room [])
cell_runs room (word.Name n ∷ word.Assign ∷ ws) = cell_of_runs room (Some n) ws
cell_runs room (word.Name n ∷ []) = cell_of_runs room None (word.Name n ∷ [])
cell_runs room (word.Name n ∷ w ∷ ws) = cell_of_runs room None (word.Name n ∷ w ∷ ws)
cell_runs room [] = cell_of_runs room None []
cell_runs room (w ∷ ws) = cell_of_runs room None (w ∷ ws)
