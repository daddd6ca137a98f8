-- A statement that is read is spelled so.
use Rattle.std.proofs.Common.{◌≡◌, ◌≤◌, ℕ, zero, suc, max, refl, sym, ap, ◌∙◌, List, [], ◌∷◌, Option, Some, None, Ok, arith}
use Rattle.nb_lexer.specs.declared.word.Word.{Word}
use Rattle.nb_lexer.specs.declared.word.Word.TheVariants as word
use Rattle.nb_syntax.specs.declared.tree.Expr.{Expr}
use Rattle.nb_syntax.specs.declared.tree.Block.{Block}
use Rattle.nb_syntax.specs.declared.tree.Arm.{Arm}
use Rattle.nb_syntax.specs.declared.tree.Stmt.{Stmt}
use Rattle.nb_syntax.specs.declared.tree.Stmt.TheVariants as stmt
use Rattle.nb_grammar.specs.Reading as r
use Rattle.nb_grammar.specs.Reading.{Read, ◌>>=◌, rounds, inside_of}
use Rattle.nb_grammar.specs.Grammar as g
use Rattle.nb_grammar.specs.Trees as trees
use Rattle.nb_grammar.specs.Grammar.{ExprWay, BlockWay}
use Rattle.nb_grammar.proofs.Turns.{Spelled, bind_ok, Sound, first_is, second_is, Turns, Stays, rounds_ok, close_round_ok, close_curly_ok, semicolon_ok, assign_ok, let_word_ok, of_word_ok, name_ok}
use Rattle.nb_grammar.proofs.SoundPrimary.{SoundExpr, SoundStmts, SoundInner, Within, opened_ok, bracketed_ok}
use Rattle.nb_grammar.proofs.SoundExpr.{expr_ok}

-- blocks
pub block_ok : (room : ℕ) → Within SoundInner room → Sound (r.block (inside_of room)) g.block_words trees.block_tree trees.block_depth room
block_ok room within (word.OpenCurly ∷ ws) x e =
    let o = opened_ok SoundInner room within ws _ x e in
    let a = bind_ok (r.stmts (inside_of o.0) ws) _ x o.3 in
    let v = o.2.1 ws a.0 a.1 in
    let b : Block = record { stmts = a.0.0 } in
    let t = first_is (b, a.0.1) x a.2 in
    let u = second_is (b, a.0.1) x a.2 in
    record { way = g.block v.way; words_are = cc (v.words_are, u); tree_is = ap (λ h. let z : Block = record { stmts = h } in z) v.tree_is ∙ t; deep = omega (arith, v.deep, o.1) }
block_ok room within [] x e = cc
block_ok room within (w ∷ ws) x e = cc

-- expr ";"
pub ended_ok : (room : ℕ) → SoundExpr room → Sound (r.ended (inside_of room)) (λ d ws. g.expr_words d (word.Semicolon ∷ ws)) trees.expr_tree trees.expr_depth room
ended_ok room sound ws x e =
    let a = bind_ok (r.expr (inside_of room) ws) _ x e in
    let b = bind_ok (r.semicolon a.0.1) _ x a.2 in
    let v = sound ws a.0 a.1 in
    let k = semicolon_ok a.0.1 b.0 b.1 in
    let t = first_is (a.0.0, b.0) x b.2 in
    let u = second_is (a.0.0, b.0) x b.2 in
    record { way = v.way; words_are = cc (v.words_are, k, u); tree_is = v.tree_is ∙ t; deep = v.deep }

-- "(" expr ")" block
pub record Armed (room : ℕ) (ws : List Word) (a : Arm) (rest : List Word) : Type 0 where
  pub test : ExprWay
  pub block : BlockWay
  pub words_are : word.OpenRound ∷ g.expr_words test (word.CloseRound ∷ g.block_words block rest) ≡ ws
  pub tree_is : (let z : Arm = record { test = trees.expr_tree test; body = trees.block_tree block } in z ≡ a)
  pub deep : max (suc (trees.expr_depth test)) (trees.block_depth block) ≤ room

pub arm_ok : (room : ℕ) → Within SoundInner room → (ws : List Word) (x : Arm × List Word) → r.arm (inside_of room) ws ≡ Ok x → Armed room ws x.0 x.1
arm_ok room within ws x e =
    let a = bind_ok (r.bracketed (inside_of room) ws) _ x e in
    let b = bind_ok (r.block (inside_of room) a.0.1) _ x a.2 in
    let v = bracketed_ok room within ws a.0 a.1 in
    let s = block_ok room within a.0.1 b.0 b.1 in
    let m : Arm = record { test = a.0.0; body = b.0.0 } in
    let t = first_is (m, b.0.1) x b.2 in
    let u = second_is (m, b.0.1) x b.2 in
    let w : g.block_words s.way x.1 ≡ a.0.1 = cc (s.words_are, u) in
    record {
      test = v.way;
      block = s.way;
      words_are = ap (λ h. word.OpenRound ∷ g.expr_words v.way (word.CloseRound ∷ h)) w ∙ v.words_are;
      tree_is = ap (λ h. let z : Arm = record { test = h; body = trees.block_tree s.way } in z) v.tree_is ∙ ap (λ h. let z : Arm = record { test = a.0.0; body = h } in z) s.tree_is ∙ t;
      deep = omega (arith, v.deep, s.deep);
    }

pub else_if_ok : (room : ℕ) → Within SoundInner room → (ws mid rest : List Word) (a : Arm) (found : List Arm)
    → r.else_if (inside_of room) ws ≡ Ok (Some a, mid)
    → Spelled g.else_ifs_words trees.else_ifs_tree trees.else_ifs_depth room mid found rest
    → Spelled g.else_ifs_words trees.else_ifs_tree trees.else_ifs_depth room ws (a ∷ found) rest
else_if_ok room within (word.Else ∷ word.If ∷ ws) mid rest a found e s =
    let b = bind_ok (r.arm (inside_of room) ws) _ (Some a, mid) e in
    let v = arm_ok room within ws b.0 b.1 in
    let t = first_is (Some b.0.0, b.0.1) (Some a, mid) b.2 in
    let u = second_is (Some b.0.0, b.0.1) (Some a, mid) b.2 in
    let k : b.0.0 ≡ a = cc in
    let w : g.else_ifs_words s.way rest ≡ b.0.1 = s.words_are ∙ sym u in
    record {
      way = g.else_if v.test v.block s.way;
      words_are = ap (λ h. word.Else ∷ word.If ∷ word.OpenRound ∷ g.expr_words v.test (word.CloseRound ∷ g.block_words v.block h)) w ∙ ap (λ h. word.Else ∷ word.If ∷ h) v.words_are;
      tree_is = ap (λ h. h ∷ trees.else_ifs_tree s.way) (v.tree_is ∙ k) ∙ ap (λ h. a ∷ h) s.tree_is;
      deep = omega (arith, v.deep, s.deep);
    }
else_if_ok room within (word.Else ∷ []) mid rest a found e s = cc (first_is (None, word.Else ∷ []) (Some a, mid) e)
else_if_ok room within (word.Else ∷ w ∷ ws) mid rest a found e s = cc (first_is (None, word.Else ∷ w ∷ ws) (Some a, mid) e)
else_if_ok room within [] mid rest a found e s = cc (first_is (None, []) (Some a, mid) e)
else_if_ok room within (w ∷ ws) mid rest a found e s = cc (first_is (None, w ∷ ws) (Some a, mid) e)

pub else_if_stays : (room : ℕ) → Stays (r.else_if (inside_of room))
else_if_stays room (word.Else ∷ word.If ∷ ws) x e none =
    let b = bind_ok (r.arm (inside_of room) ws) _ x e in
    cc (first_is (Some b.0.0, b.0.1) x b.2, none)
else_if_stays room (word.Else ∷ []) x e none = second_is (None, word.Else ∷ []) x e
else_if_stays room (word.Else ∷ w ∷ ws) x e none = second_is (None, word.Else ∷ w ∷ ws) x e
else_if_stays room [] x e none = second_is (None, []) x e
else_if_stays room (w ∷ ws) x e none = second_is (None, w ∷ ws) x e

pub else_ifs_ok : (room : ℕ) → Within SoundInner room → (found : List Arm) (ws rest : List Word) → Turns (r.else_if (inside_of room)) found ws rest
    → Spelled g.else_ifs_words trees.else_ifs_tree trees.else_ifs_depth room ws found rest
else_ifs_ok room within [] ws rest t = record { way = g.no_else_if; words_are = sym t; tree_is = refl; deep = omega arith }
else_ifs_ok room within (a ∷ found) ws rest t = else_if_ok room within ws t.0 rest a found t.1 (else_ifs_ok room within found t.0 rest t.2)

pub otherwise_ok : (room : ℕ) → Within SoundInner room → Sound (r.otherwise (inside_of room)) g.else_words trees.else_tree trees.else_depth room
otherwise_ok room within (word.Else ∷ ws) x e =
    let a = bind_ok (r.block (inside_of room) ws) _ x e in
    let v = block_ok room within ws a.0 a.1 in
    let t = first_is (Some a.0.0, a.0.1) x a.2 in
    let u = second_is (Some a.0.0, a.0.1) x a.2 in
    record { way = g.else_block v.way; words_are = cc (v.words_are, u); tree_is = ap (λ h. Some h) v.tree_is ∙ t; deep = v.deep }
otherwise_ok room within [] x e = record { way = g.no_else; words_are = sym (second_is (None, []) x e); tree_is = first_is (None, []) x e; deep = omega arith }
otherwise_ok room within (w ∷ ws) x e =
    record { way = g.no_else; words_are = sym (second_is (None, w ∷ ws) x e); tree_is = first_is (None, w ∷ ws) x e; deep = omega arith }

-- statements, behind their first words
pub assignment_ok : (room : ℕ) → SoundExpr room → (n : List ℕ) (ws : List Word) (x : Stmt × List Word) → r.assignment (inside_of room) n ws ≡ Ok x
    → Spelled g.stmt_words trees.stmt_tree trees.stmt_depth room (word.Name n ∷ ws) x.0 x.1
assignment_ok room sound n ws x e =
    let a = bind_ok (r.assign ws) _ x e in
    let b = bind_ok (r.ended (inside_of room) a.0) _ x a.2 in
    let k = assign_ok ws a.0 a.1 in
    let v = ended_ok room sound a.0 b.0 b.1 in
    let t = first_is (stmt.Assign n b.0.0, b.0.1) x b.2 in
    let u = second_is (stmt.Assign n b.0.0, b.0.1) x b.2 in
    record { way = g.assign_stmt n v.way; words_are = cc (v.words_are, k, u); tree_is = ap (λ h. stmt.Assign n h) v.tree_is ∙ t; deep = v.deep }

pub let_ok : (room : ℕ) → SoundExpr room → (ws : List Word) (x : Stmt × List Word) → r.let_stmt (inside_of room) ws ≡ Ok x
    → Spelled g.stmt_words trees.stmt_tree trees.stmt_depth room (word.Let ∷ ws) x.0 x.1
let_ok room sound ws x e =
    let n = bind_ok (r.name ws) _ x e in
    let a = bind_ok (r.assign n.0.1) _ x n.2 in
    let b = bind_ok (r.ended (inside_of room) a.0) _ x a.2 in
    let l = name_ok ws n.0 n.1 in
    let k = assign_ok n.0.1 a.0 a.1 in
    let v = ended_ok room sound a.0 b.0 b.1 in
    let t = first_is (stmt.Let n.0.0 b.0.0, b.0.1) x b.2 in
    let u = second_is (stmt.Let n.0.0 b.0.0, b.0.1) x b.2 in
    record { way = g.let_stmt n.0.0 v.way; words_are = cc (v.words_are, k, l, u); tree_is = ap (λ h. stmt.Let n.0.0 h) v.tree_is ∙ t; deep = v.deep }

pub if_ok : (room : ℕ) → Within SoundInner room → (ws : List Word) (x : Stmt × List Word) → r.if_stmt (inside_of room) ws ≡ Ok x
    → Spelled g.stmt_words trees.stmt_tree trees.stmt_depth room (word.If ∷ ws) x.0 x.1
if_ok room within ws x e =
    let a = bind_ok (r.arm (inside_of room) ws) _ x e in
    let b = bind_ok (rounds (r.else_if (inside_of room)) (a.0.0 ∷ []) a.0.1) _ x a.2 in
    let c = bind_ok (r.otherwise (inside_of room) b.0.1) _ x b.2 in
    let v = arm_ok room within ws a.0 a.1 in
    let m = rounds_ok (r.else_if (inside_of room)) (else_if_stays room) (a.0.0 ∷ []) a.0.1 b.0 b.1 in
    let s = else_ifs_ok room within m.0 a.0.1 b.0.1 m.2 in
    let o = otherwise_ok room within b.0.1 c.0 c.1 in
    let t = first_is (stmt.If b.0.0 c.0.0, c.0.1) x c.2 in
    let u = second_is (stmt.If b.0.0 c.0.0, c.0.1) x c.2 in
    let w : g.else_ifs_words s.way (g.else_words o.way x.1) ≡ a.0.1 = cc (s.words_are, o.words_are, u) in
    let l : (let z : Arm = record { test = trees.expr_tree v.test; body = trees.block_tree v.block } in z ∷ trees.else_ifs_tree s.way ≡ b.0.0) =
    ap (λ h. h ∷ trees.else_ifs_tree s.way) v.tree_is ∙ ap (λ h. a.0.0 ∷ h) s.tree_is ∙ sym m.1 in
    record {
      way = g.if_stmt v.test v.block s.way o.way;
      words_are = ap (λ h. word.If ∷ word.OpenRound ∷ g.expr_words v.test (word.CloseRound ∷ g.block_words v.block h)) w ∙ ap (λ h. word.If ∷ h) v.words_are;
      tree_is = ap (λ h. stmt.If h (trees.else_tree o.way)) l ∙ ap (λ h. stmt.If b.0.0 h) o.tree_is ∙ t;
      deep = omega (arith, v.deep, s.deep, o.deep);
    }

pub while_ok : (room : ℕ) → Within SoundInner room → (ws : List Word) (x : Stmt × List Word) → r.while_stmt (inside_of room) ws ≡ Ok x
    → Spelled g.stmt_words trees.stmt_tree trees.stmt_depth room (word.While ∷ ws) x.0 x.1
while_ok room within ws x e =
    let a = bind_ok (r.arm (inside_of room) ws) _ x e in
    let v = arm_ok room within ws a.0 a.1 in
    let t = first_is (stmt.While a.0.0.test a.0.0.body, a.0.1) x a.2 in
    let u = second_is (stmt.While a.0.0.test a.0.0.body, a.0.1) x a.2 in
    record {
      way = g.while_stmt v.test v.block;
      words_are = ap (λ h. word.While ∷ word.OpenRound ∷ g.expr_words v.test (word.CloseRound ∷ g.block_words v.block h)) (sym u) ∙ ap (λ h. word.While ∷ h) v.words_are;
      tree_is = ap (λ (h : Arm). stmt.While h.test h.body) v.tree_is ∙ t;
      deep = v.deep;
    }

pub record Eached (room : ℕ) (ws : List Word) (x : List ℕ × Expr) (rest : List Word) : Type 0 where
  pub way : ExprWay
  pub words_are : word.Let ∷ word.Name x.0 ∷ word.Of ∷ g.expr_words way (word.CloseRound ∷ rest) ≡ ws
  pub tree_is : trees.expr_tree way ≡ x.1
  pub deep : trees.expr_depth way ≤ room

pub each_of_ok : (room : ℕ) → SoundExpr room → (ws : List Word) (x : (List ℕ × Expr) × List Word) → r.each_of (r.expr (inside_of room)) ws ≡ Ok x → Eached room ws x.0 x.1
each_of_ok room sound ws x e =
    let a = bind_ok (r.let_word ws) _ x e in
    let b = bind_ok (r.name a.0) _ x a.2 in
    let c = bind_ok (r.of_word b.0.1) _ x b.2 in
    let d = bind_ok (r.expr (inside_of room) c.0) _ x c.2 in
    let f = bind_ok (r.close_round d.0.1) _ x d.2 in
    let ka = let_word_ok ws a.0 a.1 in
    let kb = name_ok a.0 b.0 b.1 in
    let kc = of_word_ok b.0.1 c.0 c.1 in
    let v = sound c.0 d.0 d.1 in
    let kf = close_round_ok d.0.1 f.0 f.1 in
    let t = first_is ((b.0.0, d.0.0), f.0) x f.2 in
    let u = second_is ((b.0.0, d.0.0), f.0) x f.2 in
    let tn : b.0.0 ≡ x.0.0 = ap (λ h. h.0) t in
    let te : d.0.0 ≡ x.0.1 = ap (λ h. h.1) t in
    record { way = v.way; words_are = cc (v.words_are, ka, kb, kc, kf, u, tn); tree_is = v.tree_is ∙ te; deep = v.deep }

pub for_ok : (room : ℕ) → Within SoundInner room → (ws : List Word) (x : Stmt × List Word) → r.for_stmt (inside_of room) ws ≡ Ok x
    → Spelled g.stmt_words trees.stmt_tree trees.stmt_depth room (word.For ∷ ws) x.0 x.1
for_ok room within (word.OpenRound ∷ ws) x e =
    let a = bind_ok (r.each (inside_of room) (word.OpenRound ∷ ws)) _ x e in
    let b = bind_ok (r.block (inside_of room) a.0.1) _ x a.2 in
    let o = opened_ok SoundInner room within ws _ a.0 a.1 in
    let v = each_of_ok o.0 o.2.0 ws a.0 o.3 in
    let s = block_ok room within a.0.1 b.0 b.1 in
    let t = first_is (stmt.For a.0.0.0 a.0.0.1 b.0.0, b.0.1) x b.2 in
    let u = second_is (stmt.For a.0.0.0 a.0.0.1 b.0.0, b.0.1) x b.2 in
    let w : g.block_words s.way x.1 ≡ a.0.1 = cc (s.words_are, u) in
    record {
      way = g.for_stmt a.0.0.0 v.way s.way;
      words_are = ap (λ h. word.For ∷ word.OpenRound ∷ word.Let ∷ word.Name a.0.0.0 ∷ word.Of ∷ g.expr_words v.way (word.CloseRound ∷ h)) w ∙ ap (λ h. word.For ∷ word.OpenRound ∷ h) v.words_are;
      tree_is = ap (λ h. stmt.For a.0.0.0 h (trees.block_tree s.way)) v.tree_is ∙ ap (λ h. stmt.For a.0.0.0 a.0.0.1 h) s.tree_is ∙ t;
      deep = omega (arith, v.deep, s.deep, o.1);
    }
for_ok room within [] x e = cc
for_ok room within (w ∷ ws) x e = cc

pub some_stmt_ok : (read : List Word → Read Stmt) (ws mid : List Word) (a : Stmt) → (read ws >>= (λ s. let y : Read (Option Stmt) = Ok (Some s.0, s.1) in y)) ≡ Ok (Some a, mid) → read ws ≡ Ok (a, mid)
some_stmt_ok read ws mid a e =
    let b = bind_ok (read ws) _ (Some a, mid) e in
    let t = first_is (Some b.0.0, b.0.1) (Some a, mid) b.2 in
    let u = second_is (Some b.0.0, b.0.1) (Some a, mid) b.2 in
    let k : b.0.0 ≡ a = cc in
    b.1 ∙ ap (λ h. Ok (h, b.0.1)) k ∙ ap (λ h. Ok (a, h)) u

pub some_ended_ok : (room : ℕ) → SoundExpr room → (make : Expr → Stmt) (ws mid : List Word) (a : Stmt)
    → (r.ended (inside_of room) ws >>= (λ e. let y : Read (Option Stmt) = Ok (Some (make e.0), e.1) in y)) ≡ Ok (Some a, mid)
    → Spelled (λ d ws. g.expr_words d (word.Semicolon ∷ ws)) (λ d. make (trees.expr_tree d)) trees.expr_depth room ws a mid
some_ended_ok room sound make ws mid a e =
    let b = bind_ok (r.ended (inside_of room) ws) _ (Some a, mid) e in
    let v = ended_ok room sound ws b.0 b.1 in
    let t = first_is (Some (make b.0.0), b.0.1) (Some a, mid) b.2 in
    let u = second_is (Some (make b.0.0), b.0.1) (Some a, mid) b.2 in
    let k : make b.0.0 ≡ a = cc in
    record { way = v.way; words_are = cc (v.words_are, u); tree_is = ap make v.tree_is ∙ k; deep = v.deep }

pub next_stmt_ok : (room : ℕ) → Within SoundInner room → (ws mid : List Word) (a : Stmt) → r.next_stmt (inside_of room) ws ≡ Ok (Some a, mid)
    → Spelled g.stmt_words trees.stmt_tree trees.stmt_depth room ws a mid
next_stmt_ok room within (word.Name n ∷ ws) mid a e = assignment_ok room (expr_ok room within) n ws (a, mid) (some_stmt_ok (r.assignment (inside_of room) n) ws mid a e)
next_stmt_ok room within (word.Let ∷ ws) mid a e = let_ok room (expr_ok room within) ws (a, mid) (some_stmt_ok (r.let_stmt (inside_of room)) ws mid a e)
next_stmt_ok room within (word.If ∷ ws) mid a e = if_ok room within ws (a, mid) (some_stmt_ok (r.if_stmt (inside_of room)) ws mid a e)
next_stmt_ok room within (word.While ∷ ws) mid a e = while_ok room within ws (a, mid) (some_stmt_ok (r.while_stmt (inside_of room)) ws mid a e)
next_stmt_ok room within (word.For ∷ ws) mid a e = for_ok room within ws (a, mid) (some_stmt_ok (r.for_stmt (inside_of room)) ws mid a e)
next_stmt_ok room within (word.Yield ∷ ws) mid a e =
    let v = some_ended_ok room (expr_ok room within) (λ z. stmt.Yield z) ws mid a e in
    record { way = g.yield_stmt v.way; words_are = ap (λ h. word.Yield ∷ h) v.words_are; tree_is = v.tree_is; deep = v.deep }
next_stmt_ok room within (word.Return ∷ ws) mid a e =
    let v = some_ended_ok room (expr_ok room within) (λ z. stmt.Return z) ws mid a e in
    record { way = g.return_stmt v.way; words_are = ap (λ h. word.Return ∷ h) v.words_are; tree_is = v.tree_is; deep = v.deep }
next_stmt_ok room within (word.Throw ∷ ws) mid a e =
    let v = some_ended_ok room (expr_ok room within) (λ z. stmt.Throw z) ws mid a e in
    record { way = g.throw_stmt v.way; words_are = ap (λ h. word.Throw ∷ h) v.words_are; tree_is = v.tree_is; deep = v.deep }
next_stmt_ok room within (word.Cleanup ∷ ws) mid a e =
    let v = some_ended_ok room (expr_ok room within) (λ z. stmt.Cleanup z) ws mid a e in
    record { way = g.cleanup_stmt v.way; words_are = ap (λ h. word.Cleanup ∷ h) v.words_are; tree_is = v.tree_is; deep = v.deep }
next_stmt_ok room within [] mid a e = cc (first_is (None, []) (Some a, mid) e)
next_stmt_ok room within (w ∷ ws) mid a e = cc (first_is (None, w ∷ ws) (Some a, mid) e)

pub some_none : {A B : Type 0} (read : List Word → Read A) (make : A → B) (ws : List Word) (x : Option B × List Word)
    → (read ws >>= (λ s. Ok (Some (make s.0), s.1))) ≡ Ok x → x.0 ≡ None → ⊥
some_none read make ws x e none =
    let b = bind_ok (read ws) _ x e in
    cc (first_is (Some (make b.0.0), b.0.1) x b.2, none)

pub next_stmt_stays : (room : ℕ) → Stays (r.next_stmt (inside_of room))
next_stmt_stays room (word.Name n ∷ ws) x e none = absurd (some_none (r.assignment (inside_of room) n) (λ s. s) ws x e none)
next_stmt_stays room (word.Let ∷ ws) x e none = absurd (some_none (r.let_stmt (inside_of room)) (λ s. s) ws x e none)
next_stmt_stays room (word.If ∷ ws) x e none = absurd (some_none (r.if_stmt (inside_of room)) (λ s. s) ws x e none)
next_stmt_stays room (word.While ∷ ws) x e none = absurd (some_none (r.while_stmt (inside_of room)) (λ s. s) ws x e none)
next_stmt_stays room (word.For ∷ ws) x e none = absurd (some_none (r.for_stmt (inside_of room)) (λ s. s) ws x e none)
next_stmt_stays room (word.Yield ∷ ws) x e none = absurd (some_none (r.ended (inside_of room)) (λ z. stmt.Yield z) ws x e none)
next_stmt_stays room (word.Return ∷ ws) x e none = absurd (some_none (r.ended (inside_of room)) (λ z. stmt.Return z) ws x e none)
next_stmt_stays room (word.Throw ∷ ws) x e none = absurd (some_none (r.ended (inside_of room)) (λ z. stmt.Throw z) ws x e none)
next_stmt_stays room (word.Cleanup ∷ ws) x e none = absurd (some_none (r.ended (inside_of room)) (λ z. stmt.Cleanup z) ws x e none)
next_stmt_stays room [] x e none = second_is (None, []) x e
next_stmt_stays room (w ∷ ws) x e none = second_is (None, w ∷ ws) x e

pub next_stmts_ok : (room : ℕ) → Within SoundInner room → (found : List Stmt) (ws rest : List Word) → Turns (r.next_stmt (inside_of room)) found ws rest
    → Spelled g.stmts_words trees.stmts_tree trees.stmts_depth room ws found rest
next_stmts_ok room within [] ws rest t = record { way = g.no_stmt; words_are = sym t; tree_is = refl; deep = omega arith }
next_stmts_ok room within (a ∷ found) ws rest t =
    let v = next_stmt_ok room within ws t.0 a t.1 in
    let s = next_stmts_ok room within found t.0 rest t.2 in
    record {
      way = g.next_stmt v.way s.way;
      words_are = ap (λ h. g.stmt_words v.way h) s.words_are ∙ v.words_are;
      tree_is = ap (λ h. h ∷ trees.stmts_tree s.way) v.tree_is ∙ ap (λ h. a ∷ h) s.tree_is;
      deep = omega (arith, v.deep, s.deep);
    }

pub stmts_ok : (room : ℕ) → Within SoundInner room → SoundStmts room
stmts_ok room within ws x e =
    let a = bind_ok (rounds (r.next_stmt (inside_of room)) [] ws) _ x e in
    let b = bind_ok (r.close_curly a.0.1) _ x a.2 in
    let m = rounds_ok (r.next_stmt (inside_of room)) (next_stmt_stays room) [] ws a.0 a.1 in
    let s = next_stmts_ok room within m.0 ws a.0.1 m.2 in
    let k = close_curly_ok a.0.1 b.0 b.1 in
    let t = first_is (a.0.0, b.0) x b.2 in
    let u = second_is (a.0.0, b.0) x b.2 in
    record { way = s.way; words_are = cc (s.words_are, k, u); tree_is = s.tree_is ∙ sym m.1 ∙ t; deep = s.deep }

-- What is read is spelled so.
pub sound : (room : ℕ) → SoundInner room
sound zero = (expr_ok zero tt, stmts_ok zero tt)
sound (suc room) = (expr_ok (suc room) (sound room), stmts_ok (suc room) (sound room))

pub within : (room : ℕ) → Within SoundInner room
within zero = tt
within (suc room) = sound room
