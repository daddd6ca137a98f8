-- The text of a way has the way's words: those of statements and cells.
use Rattle.std.proofs.Common.{ℕ, List, [], ◌∷◌, ◌++◌, refl}
use Rattle.nb_lexer.specs.declared.word.Word.{Word}
use Rattle.nb_lexer.specs.declared.word.Word.TheVariants as word
use Rattle.nb_lexer.specs.Written.{IsWritable}
use Rattle.nb_grammar.specs.Grammar as g
use Rattle.nb_grammar.specs.Grammar.{ExprWay, BlockWay, Stmts, StmtWay, ElseIfs, ElseWay, BodyWay, CellWay}
use Rattle.nb_grammar.proofs.EachWord.{expr_each, block_each, stmts_each, stmt_each, else_ifs_each, else_each, body_each, cell_each}
use Rattle.nb_parser.proofs.Tight.{Loose, Tight, first, close, spaced, Stops, ends_free}
use Rattle.nb_parser.proofs.WayTexts as text
use Rattle.nb_parser.proofs.WayWords.{expr_words, operator, round, unround, uncurly}

else_stop : (d : ElseWay) (t : List ℕ) → Stops t → Stops (text.else_text d t)
else_stop g.no_else t s = s
else_stop (g.else_block b) t s = refl

else_ifs_stop : (d : ElseIfs) (t : List ℕ) → Stops t → Stops (text.else_ifs_text d t)
else_ifs_stop g.no_else_if t s = s
else_ifs_stop (g.else_if e b more) t s = refl

stmts_stop : (d : Stmts) (t : List ℕ) → Stops t → Stops (text.stmts_text d t)
stmts_stop g.no_stmt t s = s
stmts_stop (g.next_stmt s more) t z = refl

block_end_stop : (d : Stmts) (t : List ℕ) → Stops (text.block_end d t)
block_end_stop g.no_stmt t = refl
block_end_stop (g.next_stmt s more) t = refl

block_end_words : (d : Stmts) (ws : List Word) (t : List ℕ) → Loose ws t → Loose (word.CloseCurly ∷ ws) (text.block_end d t)
block_end_words g.no_stmt ws t h = uncurly ws t h
block_end_words (g.next_stmt s more) ws t h = spaced (word.CloseCurly ∷ ws) (125 ∷ t) (first word.CloseCurly ws t (ends_free word.CloseCurly (λ b. refl) t) h)

-- a bracket before words that may have a space before them
braced : (ws : List Word) (t : List ℕ) → Loose ws t → Tight (word.OpenCurly ∷ ws) (123 ∷ t)
braced ws t h = first word.OpenCurly ws t (ends_free word.OpenCurly (λ b. refl) t) h

-- an expression and a semicolon
ended : (e : ExprWay) (ws : List Word) (t : List ℕ) → expr_each IsWritable e → Loose ws t → Tight (g.expr_words e (word.Semicolon ∷ ws)) (text.expr_text e (59 ∷ t))
ended e ws t p h =
    expr_words e (word.Semicolon ∷ ws) (59 ∷ t) p refl (close (word.Semicolon ∷ ws) (59 ∷ t) (first word.Semicolon ws t (ends_free word.Semicolon (λ b. refl) t) h))

-- an expression, a closing bracket and a space before what follows
tested : (e : ExprWay) (ws : List Word) (t : List ℕ) → expr_each IsWritable e → Tight ws t → Tight (g.expr_words e (word.CloseRound ∷ ws)) (text.expr_text e (41 ∷ 32 ∷ t))
tested e ws t p h = expr_words e (word.CloseRound ∷ ws) (41 ∷ 32 ∷ t) p refl (unround ws (32 ∷ t) (spaced ws t h))

-- the bracket and the expression after a keyword
test_after : (w : Word) (e : ExprWay) (ws : List Word) (t : List ℕ) → expr_each IsWritable e → Tight ws t → Loose (word.OpenRound ∷ g.expr_words e (word.CloseRound ∷ ws)) (32 ∷ 40 ∷ text.expr_text e (41 ∷ 32 ∷ t))
test_after w e ws t p h =
    let vs : List Word = g.expr_words e (word.CloseRound ∷ ws) in
    let u : List ℕ = text.expr_text e (41 ∷ 32 ∷ t) in
    spaced (word.OpenRound ∷ vs) (40 ∷ u) (round vs u (tested e ws t p h))

-- a name, "=", an expression and a semicolon
assigned : (x : List ℕ) (e : ExprWay) (ws : List Word) (t : List ℕ) → expr_each IsWritable e → Loose ws t
    → Tight (word.Name x ∷ word.Assign ∷ g.expr_words e (word.Semicolon ∷ ws)) (x ++ (32 ∷ 61 ∷ 32 ∷ text.expr_text e (59 ∷ t)))
assigned x e ws t p h =
    let vs : List Word = g.expr_words e (word.Semicolon ∷ ws) in
    let u : List ℕ = text.expr_text e (59 ∷ t) in
    first (word.Name x) (word.Assign ∷ vs) (32 ∷ 61 ∷ 32 ∷ u) refl (operator word.Assign vs u refl (ended e ws t p h))

mutual
  pub block_words : (d : BlockWay) (ws : List Word) (t : List ℕ) → block_each IsWritable d → Loose ws t → Tight (g.block_words d ws) (text.block_text d t)
  block_words (g.block more) ws t p h =
      let vs : List Word = word.CloseCurly ∷ ws in
      let u : List ℕ = text.block_end more t in
      braced (g.stmts_words more vs) (text.stmts_text more u) (stmts_words more vs u p.1 (block_end_stop more t) (block_end_words more ws t h))

  pub stmts_words : (d : Stmts) (ws : List Word) (t : List ℕ) → stmts_each IsWritable d → Stops t → Loose ws t → Loose (g.stmts_words d ws) (text.stmts_text d t)
  stmts_words g.no_stmt ws t p z h = h
  stmts_words (g.next_stmt s more) ws t p z h =
      let vs : List Word = g.stmts_words more ws in
      let u : List ℕ = text.stmts_text more t in
      spaced (g.stmt_words s vs) (text.stmt_text s u) (stmt_words s vs u p.0 (stmts_words more ws t p.1 z h))

  pub stmt_words : (d : StmtWay) (ws : List Word) (t : List ℕ) → stmt_each IsWritable d → Loose ws t → Tight (g.stmt_words d ws) (text.stmt_text d t)
  stmt_words (g.let_stmt x e) ws t p h =
      let vs : List Word = word.Name x ∷ word.Assign ∷ g.expr_words e (word.Semicolon ∷ ws) in
      let u : List ℕ = x ++ (32 ∷ 61 ∷ 32 ∷ text.expr_text e (59 ∷ t)) in
      first word.Let vs (32 ∷ u) refl (spaced vs u (assigned x e ws t p.3 h))
  stmt_words (g.assign_stmt x e) ws t p h = assigned x e ws t p.2 h
  stmt_words (g.if_stmt e b more other) ws t p h =
      let vs : List Word = g.else_words other ws in
      let u : List ℕ = text.else_text other t in
      let rest : Loose (g.else_ifs_words more vs) (text.else_ifs_text more u) = else_ifs_words more vs u p.5 (else_words other ws t p.6 h) in
      let ms : List Word = g.block_words b (g.else_ifs_words more vs) in
      let m : List ℕ = text.block_text b (text.else_ifs_text more u) in
      first word.If (word.OpenRound ∷ g.expr_words e (word.CloseRound ∷ ms)) (32 ∷ 40 ∷ text.expr_text e (41 ∷ 32 ∷ m)) refl
      (test_after word.If e ms m p.2 (block_words b (g.else_ifs_words more vs) (text.else_ifs_text more u) p.4 rest))
  stmt_words (g.while_stmt e b) ws t p h =
      let ms : List Word = g.block_words b ws in
      let m : List ℕ = text.block_text b t in
      first word.While (word.OpenRound ∷ g.expr_words e (word.CloseRound ∷ ms)) (32 ∷ 40 ∷ text.expr_text e (41 ∷ 32 ∷ m)) refl
      (test_after word.While e ms m p.2 (block_words b ws t p.4 h))
  stmt_words (g.for_stmt x e b) ws t p h =
      let ms : List Word = g.block_words b ws in
      let m : List ℕ = text.block_text b t in
      let es : List Word = g.expr_words e (word.CloseRound ∷ ms) in
      let u : List ℕ = text.expr_text e (41 ∷ 32 ∷ m) in
      let of : Loose (word.Of ∷ es) (32 ∷ 111 ∷ 102 ∷ 32 ∷ u) = operator word.Of es u refl (tested e ms m p.5 (block_words b ws t p.7 h)) in
      let ns : List Word = word.Name x ∷ word.Of ∷ es in
      let n : List ℕ = x ++ (32 ∷ 111 ∷ 102 ∷ 32 ∷ u) in
      let named : Tight ns n = first (word.Name x) (word.Of ∷ es) (32 ∷ 111 ∷ 102 ∷ 32 ∷ u) refl of in
      let lets : Tight (word.Let ∷ ns) (108 ∷ 101 ∷ 116 ∷ 32 ∷ n) = first word.Let ns (32 ∷ n) refl (spaced ns n named) in
      let opened : Tight (word.OpenRound ∷ word.Let ∷ ns) (40 ∷ 108 ∷ 101 ∷ 116 ∷ 32 ∷ n) = round (word.Let ∷ ns) (108 ∷ 101 ∷ 116 ∷ 32 ∷ n) lets in
      first word.For (word.OpenRound ∷ word.Let ∷ ns) (32 ∷ 40 ∷ 108 ∷ 101 ∷ 116 ∷ 32 ∷ n) refl (spaced (word.OpenRound ∷ word.Let ∷ ns) (40 ∷ 108 ∷ 101 ∷ 116 ∷ 32 ∷ n) opened)
  stmt_words (g.yield_stmt e) ws t p h =
      let vs : List Word = g.expr_words e (word.Semicolon ∷ ws) in
      let u : List ℕ = text.expr_text e (59 ∷ t) in
      first word.Yield vs (32 ∷ u) refl (spaced vs u (ended e ws t p.1 h))
  stmt_words (g.return_stmt e) ws t p h =
      let vs : List Word = g.expr_words e (word.Semicolon ∷ ws) in
      let u : List ℕ = text.expr_text e (59 ∷ t) in
      first word.Return vs (32 ∷ u) refl (spaced vs u (ended e ws t p.1 h))
  stmt_words (g.throw_stmt e) ws t p h =
      let vs : List Word = g.expr_words e (word.Semicolon ∷ ws) in
      let u : List ℕ = text.expr_text e (59 ∷ t) in
      first word.Throw vs (32 ∷ u) refl (spaced vs u (ended e ws t p.1 h))
  stmt_words (g.cleanup_stmt e) ws t p h =
      let vs : List Word = g.expr_words e (word.Semicolon ∷ ws) in
      let u : List ℕ = text.expr_text e (59 ∷ t) in
      first word.Cleanup vs (32 ∷ u) refl (spaced vs u (ended e ws t p.1 h))

  pub else_ifs_words : (d : ElseIfs) (ws : List Word) (t : List ℕ) → else_ifs_each IsWritable d → Loose ws t → Loose (g.else_ifs_words d ws) (text.else_ifs_text d t)
  else_ifs_words g.no_else_if ws t p h = h
  else_ifs_words (g.else_if e b more) ws t p h =
      let vs : List Word = g.else_ifs_words more ws in
      let u : List ℕ = text.else_ifs_text more t in
      let ms : List Word = g.block_words b vs in
      let m : List ℕ = text.block_text b u in
      let ts : List Word = word.OpenRound ∷ g.expr_words e (word.CloseRound ∷ ms) in
      let n : List ℕ = 40 ∷ text.expr_text e (41 ∷ 32 ∷ m) in
      let ifs : Tight (word.If ∷ ts) (105 ∷ 102 ∷ 32 ∷ n) = first word.If ts (32 ∷ n) refl (test_after word.If e ms m p.3 (block_words b vs u p.5 (else_ifs_words more ws t p.6 h))) in
      operator word.Else (word.If ∷ ts) (105 ∷ 102 ∷ 32 ∷ n) refl ifs

  pub else_words : (d : ElseWay) (ws : List Word) (t : List ℕ) → else_each IsWritable d → Loose ws t → Loose (g.else_words d ws) (text.else_text d t)
  else_words g.no_else ws t p h = h
  else_words (g.else_block b) ws t p h = operator word.Else (g.block_words b ws) (text.block_text b t) refl (block_words b ws t p.1 h)

pub body_words : (d : BodyWay) (ws : List Word) (t : List ℕ) → body_each IsWritable d → Stops t → Loose ws t → Tight (g.body_words d ws) (text.body_text d t)
body_words (g.block_body s more) ws t p z h = block_words (g.block (g.next_stmt s more)) ws t (p.0, (p.1, p.2), p.3) h
body_words (g.expr_body e) ws t p z h = expr_words e ws t p z h

-- The text of a cell's way has its words.
pub cell_words : (d : CellWay) → cell_each IsWritable d → Loose (g.cell_words d []) (text.way_text d [])
cell_words (g.unnamed b) p = close (g.body_words b []) (text.body_text b []) (body_words b [] [] p refl refl)
cell_words (g.named x b) p =
    let vs : List Word = g.body_words b [] in
    let u : List ℕ = text.body_text b [] in
    close (word.Name x ∷ word.Assign ∷ vs) (x ++ (32 ∷ 61 ∷ 32 ∷ u))
    (first (word.Name x) (word.Assign ∷ vs) (32 ∷ 61 ∷ 32 ∷ u) refl (operator word.Assign vs u refl (body_words b [] [] p.2 refl refl)))
