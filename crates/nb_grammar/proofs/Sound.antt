-- A cell that is read is spelled so.
use Rattle.std.proofs.Common.{◌≡◌, ◌≤◌, ℕ, suc, Bool, true, false, refl, sym, ap, ◌∙◌, List, ◌∷◌, Some, None, Ok, arith}
use Rattle.nb_lexer.specs.declared.word.Word.{Word}
use Rattle.nb_lexer.specs.declared.word.Word.TheVariants as word
use Rattle.nb_syntax.specs.declared.tree.Block.{Block}
use Rattle.nb_syntax.specs.declared.tree.Stmt.{Stmt}
use Rattle.nb_syntax.specs.declared.tree.Body.{Body}
use Rattle.nb_syntax.specs.declared.tree.Body.TheVariants as body
use Rattle.nb_syntax.specs.declared.tree.Cell.{Cell}
use Rattle.nb_grammar.specs.Reading as r
use Rattle.nb_grammar.specs.Reading.{inside_of}
use Rattle.nb_grammar.specs.Grammar as g
use Rattle.nb_grammar.specs.Trees as trees
use Rattle.nb_grammar.specs.Grammar.{Stmts}
use Rattle.nb_grammar.proofs.Turns.{Spelled, bind_ok, Sound, first_is, second_is}
use Rattle.nb_grammar.proofs.SoundPrimary.{SoundExpr, SoundInner, Within, opened_ok}
use Rattle.nb_grammar.proofs.SoundExpr.{expr_ok}
use Rattle.nb_grammar.proofs.SoundStmts.{sound, within}

-- bodies and cells
pub body_expr_ok : (room : ℕ) → SoundExpr room → Sound (r.body_expr (inside_of room)) g.body_words trees.body_tree trees.body_depth room
body_expr_ok room sound ws x e =
    let a = bind_ok (r.expr (inside_of room) ws) _ x e in
    let v = sound ws a.0 a.1 in
    let t = first_is (body.Expr a.0.0, a.0.1) x a.2 in
    let u = second_is (body.Expr a.0.0, a.0.1) x a.2 in
    record { way = g.expr_body v.way; words_are = cc (v.words_are, u); tree_is = ap (λ h. body.Expr h) v.tree_is ∙ t; deep = v.deep }

-- a block that is no record has a statement
pub some_stmts_ok : (room : ℕ) (d : Stmts) (rest ws : List Word) → g.stmts_words d (word.CloseCurly ∷ rest) ≡ ws → r.is_record ws ≡ false → suc (trees.stmts_depth d) ≤ room
    → Spelled g.body_words trees.body_tree trees.body_depth room (word.OpenCurly ∷ ws) (body.Block (record { stmts = trees.stmts_tree d })) rest
some_stmts_ok room g.no_stmt rest ws is no_record deep =
    let a : r.is_record (word.CloseCurly ∷ rest) ≡ false = ap (λ h. r.is_record h) is ∙ no_record in
    cc
some_stmts_ok room (g.next_stmt s more) rest ws is no_record deep =
    record { way = g.block_body s more; words_are = ap (λ h. word.OpenCurly ∷ h) is; tree_is = refl; deep = deep }

pub body_block_ok : (room : ℕ) → Within SoundInner room → (ws : List Word) (x : Body × List Word) → r.body_block (inside_of room) (word.OpenCurly ∷ ws) ≡ Ok x
    → r.is_record ws ≡ false → Spelled g.body_words trees.body_tree trees.body_depth room (word.OpenCurly ∷ ws) x.0 x.1
body_block_ok room within ws x e no_record =
    let a = bind_ok (r.block (inside_of room) (word.OpenCurly ∷ ws)) _ x e in
    let t = first_is (body.Block a.0.0, a.0.1) x a.2 in
    let u = second_is (body.Block a.0.0, a.0.1) x a.2 in
    let o = opened_ok SoundInner room within ws _ a.0 a.1 in
    let b = bind_ok (r.stmts (inside_of o.0) ws) _ a.0 o.3 in
    let v = o.2.1 ws b.0 b.1 in
    let k : Block = record { stmts = b.0.0 } in
    let tb = first_is (k, b.0.1) a.0 b.2 in
    let ub = second_is (k, b.0.1) a.0 b.2 in
    let s = some_stmts_ok room v.way b.0.1 ws v.words_are no_record (omega (arith, v.deep, o.1)) in
    let z = ap (λ (h : List Stmt). body.Block (record { stmts = h })) v.tree_is ∙ ap (λ (h : Block). body.Block h) tb ∙ t in
    record { way = s.way; words_are = ap (λ h. g.body_words s.way h) (sym u ∙ sym ub) ∙ s.words_are; tree_is = s.tree_is ∙ z; deep = s.deep }

pub braced_ok : (room : ℕ) → Within SoundInner room → (b : Bool) (ws : List Word) (x : Body × List Word) → r.is_record ws ≡ b
    → r.braced b (inside_of room) (word.OpenCurly ∷ ws) ≡ Ok x
    → Spelled g.body_words trees.body_tree trees.body_depth room (word.OpenCurly ∷ ws) x.0 x.1
braced_ok room within true ws x is e = body_expr_ok room (expr_ok room within) (word.OpenCurly ∷ ws) x e
braced_ok room within false ws x is e = body_block_ok room within ws x e is

pub body_ok : (room : ℕ) → Within SoundInner room → Sound (r.body_at (inside_of room)) g.body_words trees.body_tree trees.body_depth room
body_ok room within (word.OpenCurly ∷ ws) x e = braced_ok room within (r.is_record ws) ws x refl e
body_ok room within ws x e = body_expr_ok room (expr_ok room within) ws x e

pub unnamed_ok : (room : ℕ) → Within SoundInner room → Sound (r.cell_of None (inside_of room)) g.cell_words trees.cell_tree trees.cell_depth room
unnamed_ok room within ws x e =
    let a = bind_ok (r.body_at (inside_of room) ws) _ x e in
    let v = body_ok room within ws a.0 a.1 in
    let c : Cell = record { name = None; body = a.0.0 } in
    let t = first_is (c, a.0.1) x a.2 in
    let u = second_is (c, a.0.1) x a.2 in
    record { way = g.unnamed v.way; words_are = cc (v.words_are, u); tree_is = ap (λ h. let z : Cell = record { name = None; body = h } in z) v.tree_is ∙ t; deep = v.deep }

pub named_cell_ok : (room : ℕ) → Within SoundInner room → (n : List ℕ) (ws : List Word) (x : Cell × List Word) → r.cell_of (Some n) (inside_of room) ws ≡ Ok x
    → Spelled g.cell_words trees.cell_tree trees.cell_depth room (word.Name n ∷ word.Assign ∷ ws) x.0 x.1
named_cell_ok room within n ws x e =
    let a = bind_ok (r.body_at (inside_of room) ws) _ x e in
    let v = body_ok room within ws a.0 a.1 in
    let c : Cell = record { name = Some n; body = a.0.0 } in
    let t = first_is (c, a.0.1) x a.2 in
    let u = second_is (c, a.0.1) x a.2 in
    record {
      way = g.named n v.way;
      words_are = ap (λ h. word.Name n ∷ word.Assign ∷ g.body_words v.way h) (sym u) ∙ ap (λ h. word.Name n ∷ word.Assign ∷ h) v.words_are;
      tree_is = ap (λ h. let z : Cell = record { name = Some n; body = h } in z) v.tree_is ∙ t;
      deep = v.deep;
    }

pub cell_ok : (room : ℕ) → Within SoundInner room → Sound (r.cell (inside_of room)) g.cell_words trees.cell_tree trees.cell_depth room
cell_ok room within (word.Name n ∷ word.Assign ∷ ws) x e = named_cell_ok room within n ws x e
cell_ok room within ws x e = unnamed_ok room within ws x e
