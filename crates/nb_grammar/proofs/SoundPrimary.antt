-- A primary that is read is spelled so.
use Rattle.std.proofs.Common.{◌≡◌, ◌≤◌, ◌-◌, ℕ, zero, suc, max, true, false, refl, sym, ap, ◌∙◌, List, [], ◌∷◌, ◌++◌, Option, Some, None, Result, Ok, append_assoc, append-nil, arith}
use Rattle.nb_value.specs.Function.{function_name, arity}
use Rattle.nb_value.specs.declared.function.Function.{Function}
use Rattle.nb_lexer.specs.declared.word.Word.{Word}
use Rattle.nb_lexer.specs.declared.word.Word.TheVariants as word
use Rattle.nb_syntax.specs.declared.tree.Expr.{Expr}
use Rattle.nb_syntax.specs.declared.tree.Expr.TheVariants as tree
use Rattle.nb_syntax.specs.declared.tree.Member.{Member}
use Rattle.nb_grammar.specs.declared.fault.Fault.{Fault}
use Rattle.nb_grammar.specs.Words.{called}
use Rattle.nb_grammar.specs.Reading as r
use Rattle.nb_grammar.specs.Reading.{Read, many, rounds, inside_of, Inner}
use Rattle.nb_grammar.specs.Grammar as g
use Rattle.nb_grammar.specs.Trees as trees
use Rattle.nb_grammar.specs.Grammar.{ExprWay, Items}
use Rattle.nb_grammar.proofs.Names.{called_name, some_arguments, few_arguments}
use Rattle.nb_grammar.proofs.Turns.{Spelled, respelled, bind_ok, Sound, first_is, second_is, Turns, Stays, rounds_ok, close_round_ok, close_square_ok, close_curly_ok, comma_ok, colon_ok, key_ok}

abbrev pub SoundExpr : ℕ → Type 0
SoundExpr room = Sound (r.expr (inside_of room)) g.expr_words trees.expr_tree trees.expr_depth room

abbrev pub SoundStmts : ℕ → Type 0
SoundStmts room = Sound (r.stmts (inside_of room)) (λ d ws. g.stmts_words d (word.CloseCurly ∷ ws)) trees.stmts_tree trees.stmts_depth room

abbrev pub SoundInner : ℕ → Type 0
SoundInner room = SoundExpr room × SoundStmts room

-- What is known of what stands behind one more bracket.
abbrev pub Within : (ℕ → Type 0) → ℕ → Type 0
Within P zero = Unit {0}
Within P (suc room) = P room

abbrev pub inner_of : ℕ → Inner
inner_of room = record { expr = r.expr (inside_of room); stmts = r.stmts (inside_of room) }

pub opened_ok : {A : Type 0} (P : ℕ → Type 0) (room : ℕ) (within : Within P room) (ws : List Word) (go : Inner → Result A Fault) (x : A)
    → r.opened (inside_of room) ws go ≡ Ok x → (less : ℕ) × (room ≡ suc less) × P less × (go (inner_of less) ≡ Ok x)
opened_ok P zero within ws go x e = cc
opened_ok P (suc room) within ws go x e = (room, refl, within, e)

pub in_round_ok : (room : ℕ) → Within SoundInner room
    → Sound (r.in_round (inside_of room)) (λ d ws. g.expr_words d (word.CloseRound ∷ ws)) trees.expr_tree (λ d. suc (trees.expr_depth d)) room
in_round_ok room within ws x e =
    let o = opened_ok SoundInner room within ws _ x e in
    let a = bind_ok (r.expr (inside_of o.0) ws) _ x o.3 in
    let b = bind_ok (r.close_round a.0.1) _ x a.2 in
    let s = o.2.0 ws a.0 a.1 in
    let c = close_round_ok a.0.1 b.0 b.1 in
    let t = first_is (a.0.0, b.0) x b.2 in
    let u = second_is (a.0.0, b.0) x b.2 in
    record { way = s.way; words_are = cc (s.words_are, c, u); tree_is = cc (s.tree_is, t); deep = omega (arith, s.deep, o.1) }

pub bracketed_ok : (room : ℕ) → Within SoundInner room
    → Sound (r.bracketed (inside_of room)) (λ d ws. word.OpenRound ∷ g.expr_words d (word.CloseRound ∷ ws)) trees.expr_tree (λ d. suc (trees.expr_depth d)) room
bracketed_ok room within (word.OpenRound ∷ ws) x e =
    let s = in_round_ok room within ws x e in
    record { way = s.way; words_are = ap (λ h. word.OpenRound ∷ h) s.words_are; tree_is = s.tree_is; deep = s.deep }
bracketed_ok room within [] x e = cc
bracketed_ok room within (w ∷ ws) x e = cc

-- calls
abbrev pub count : Items → ℕ
count g.no_item = 0
count (g.item e more) = suc (count more)

pub record Argued (room n : ℕ) (done : List Expr) (ws : List Word) (x : List Expr × List Word) : Type 0 where
  pub way : Items
  pub words_are : g.items_words way x.1 ≡ ws
  pub tree_is : x.0 ≡ done ++ trees.items_tree way
  pub deep : trees.items_depth way ≤ room
  pub many : count way ≡ n

pub arguments_ok : (room : ℕ) → SoundExpr room → (n : ℕ) (done : List Expr) (ws : List Word) (x : List Expr × List Word)
    → r.arguments (r.expr (inside_of room)) n done ws ≡ Ok x → Argued room n done ws x
arguments_ok room sound zero done ws x e =
    record { way = g.no_item; words_are = sym (second_is (done, ws) x e); tree_is = sym (first_is (done, ws) x e) ∙ sym (append-nil done); deep = omega arith; many = refl }
arguments_ok room sound (suc n) done ws x e =
    let a = bind_ok (r.comma ws) _ x e in
    let b = bind_ok (r.expr (inside_of room) a.0) _ x a.2 in
    let v = sound a.0 b.0 b.1 in
    let k = comma_ok ws a.0 a.1 in
    let s = arguments_ok room sound n (done ++ b.0.0 ∷ []) b.0.1 x b.2 in
    record {
      way = g.item v.way s.way;
      words_are = cc (v.words_are, s.words_are, k);
      tree_is = s.tree_is ∙ append_assoc done (b.0.0 ∷ []) (trees.items_tree s.way) ∙ ap (λ h. done ++ h ∷ trees.items_tree s.way) (sym v.tree_is);
      deep = omega (arith, v.deep, s.deep);
      many = ap (λ h. suc h) s.many;
    }

pub call_way : (room : ℕ) (f : Function) (a : ExprWay) (more : Items) (rest : List Word) → suc (count more) ≡ arity f
    → suc (max (trees.expr_depth a) (trees.items_depth more)) ≤ room
    → Spelled g.primary_words trees.primary_tree trees.primary_depth room
    (word.Name (function_name f) ∷ word.OpenRound ∷ g.expr_words a (g.items_words more (word.CloseRound ∷ rest))) (tree.Call f (trees.expr_tree a ∷ trees.items_tree more)) rest
call_way room f a g.no_item rest is deep = record { way = g.call1 f (sym is) a; words_are = refl; tree_is = refl; deep = omega (arith, deep) }
call_way room f a (g.item b g.no_item) rest is deep = record { way = g.call2 f (sym is) a b; words_are = refl; tree_is = refl; deep = omega (arith, deep) }
call_way room f a (g.item b (g.item c g.no_item)) rest is deep =
    record { way = g.call3 f (sym is) a b c; words_are = refl; tree_is = refl; deep = omega (arith, deep) }
call_way room f a (g.item b (g.item c (g.item d more))) rest is deep = absurd (omega (arith, is, few_arguments f))

pub call_ok : (room : ℕ) → SoundExpr room → (f : Function) (ws : List Word) (x : Expr × List Word) → r.call (r.expr (inside_of room)) f ws ≡ Ok x
    → Spelled g.primary_words trees.primary_tree trees.primary_depth (suc room) (word.Name (function_name f) ∷ word.OpenRound ∷ ws) x.0 x.1
call_ok room sound f ws x e =
    let p : List Word → Read Expr = r.expr (inside_of room) in
    let a = bind_ok (p ws) _ x e in
    let b = bind_ok (r.arguments p (arity f - 1) (a.0.0 ∷ []) a.0.1) _ x a.2 in
    let c = bind_ok (r.close_round b.0.1) _ x b.2 in
    let v = sound ws a.0 a.1 in
    let s = arguments_ok room sound (arity f - 1) (a.0.0 ∷ []) a.0.1 b.0 b.1 in
    let k = close_round_ok b.0.1 c.0 c.1 in
    let t = first_is (tree.Call f b.0.0, c.0) x c.2 in
    let u = second_is (tree.Call f b.0.0, c.0) x c.2 in
    let n : suc (count s.way) ≡ arity f = omega (arith, s.many, some_arguments f) in
    let z = call_way (suc room) f v.way s.way x.1 n (omega (arith, v.deep, s.deep)) in
    let w : g.expr_words v.way (g.items_words s.way (word.CloseRound ∷ x.1)) ≡ ws = cc (v.words_are, s.words_are, k, u) in
    let l : trees.expr_tree v.way ∷ trees.items_tree s.way ≡ b.0.0 = ap (λ h. h ∷ trees.items_tree s.way) v.tree_is ∙ sym s.tree_is in
    respelled g.primary_words trees.primary_tree trees.primary_depth (suc room)
    (word.Name (function_name f) ∷ word.OpenRound ∷ g.expr_words v.way (g.items_words s.way (word.CloseRound ∷ x.1))) (word.Name (function_name f) ∷ word.OpenRound ∷ ws)
    (tree.Call f (trees.expr_tree v.way ∷ trees.items_tree s.way)) x.0 x.1 z (ap (λ h. word.Name (function_name f) ∷ word.OpenRound ∷ h) w) (ap (λ h. tree.Call f h) l ∙ t)

pub named_ok : (room : ℕ) → Within SoundInner room → (n : List ℕ) (o : Option Function) → called n ≡ o → (ws : List Word) (x : Expr × List Word)
    → r.named (inside_of room) n o ws ≡ Ok x → Spelled g.primary_words trees.primary_tree trees.primary_depth room (word.Name n ∷ ws) x.0 x.1
named_ok room within n (Some f) is (word.OpenRound ∷ ws) x e =
    let o = opened_ok SoundInner room within ws _ x e in
    let s = call_ok o.0 o.2.0 f ws x o.3 in
    record {
      way = s.way;
      words_are = s.words_are ∙ ap (λ h. word.Name h ∷ word.OpenRound ∷ ws) (sym (called_name n f is));
      tree_is = s.tree_is;
      deep = omega (arith, s.deep, o.1);
    }
named_ok room within n (Some f) is [] x e =
    record { way = g.name n; words_are = ap (λ h. word.Name n ∷ h) (sym (second_is (tree.Name n, []) x e)); tree_is = first_is (tree.Name n, []) x e; deep = omega arith }
named_ok room within n (Some f) is (w ∷ ws) x e =
    record { way = g.name n; words_are = ap (λ h. word.Name n ∷ h) (sym (second_is (tree.Name n, w ∷ ws) x e)); tree_is = first_is (tree.Name n, w ∷ ws) x e; deep = omega arith }
named_ok room within n None is ws x e =
    record { way = g.name n; words_are = ap (λ h. word.Name n ∷ h) (sym (second_is (tree.Name n, ws) x e)); tree_is = first_is (tree.Name n, ws) x e; deep = omega arith }

-- lists
pub item_ok : (room : ℕ) → SoundExpr room → (ws mid rest : List Word) (a : Expr) (found : List Expr)
    → r.item (r.expr (inside_of room)) ws ≡ Ok (Some a, mid)
    → Spelled g.items_words trees.items_tree trees.items_depth room mid found rest
    → Spelled g.items_words trees.items_tree trees.items_depth room ws (a ∷ found) rest
item_ok room sound (word.Comma ∷ ws) mid rest a found e s =
    let b = bind_ok (r.expr (inside_of room) ws) _ (Some a, mid) e in
    let v = sound ws b.0 b.1 in
    let t = first_is (Some b.0.0, b.0.1) (Some a, mid) b.2 in
    let u = second_is (Some b.0.0, b.0.1) (Some a, mid) b.2 in
    record { way = g.item v.way s.way; words_are = cc (v.words_are, s.words_are, u); tree_is = cc (v.tree_is, s.tree_is, t); deep = omega (arith, v.deep, s.deep) }
item_ok room sound [] mid rest a found e s = cc (first_is (None, []) (Some a, mid) e)
item_ok room sound (w ∷ ws) mid rest a found e s = cc (first_is (None, w ∷ ws) (Some a, mid) e)

pub item_stays : (expr : List Word → Read Expr) → Stays (r.item expr)
item_stays expr (word.Comma ∷ ws) x e none =
    let b = bind_ok (expr ws) _ x e in
    cc (first_is (Some b.0.0, b.0.1) x b.2, none)
item_stays expr [] x e none = second_is (None, []) x e
item_stays expr (w ∷ ws) x e none = second_is (None, w ∷ ws) x e

pub items_ok : (room : ℕ) → SoundExpr room → (found : List Expr) (ws rest : List Word) → Turns (r.item (r.expr (inside_of room))) found ws rest
    → Spelled g.items_words trees.items_tree trees.items_depth room ws found rest
items_ok room sound [] ws rest t = record { way = g.no_item; words_are = sym t; tree_is = refl; deep = omega arith }
items_ok room sound (a ∷ found) ws rest t = item_ok room sound ws t.0 rest a found t.1 (items_ok room sound found t.0 rest t.2)

pub some_items_ok : (room : ℕ) → SoundExpr room → (ws : List Word) (x : Expr × List Word) → r.some_items (r.expr (inside_of room)) ws ≡ Ok x
    → Spelled g.primary_words trees.primary_tree trees.primary_depth (suc room) (word.OpenSquare ∷ ws) x.0 x.1
some_items_ok room sound ws x e =
    let p : List Word → Read Expr = r.expr (inside_of room) in
    let a = bind_ok (p ws) _ x e in
    let v = sound ws a.0 a.1 in
    let b = bind_ok (rounds (r.item p) (a.0.0 ∷ []) a.0.1) _ x a.2 in
    let c = bind_ok (r.close_square b.0.1) _ x b.2 in
    let m = rounds_ok (r.item p) (item_stays p) (a.0.0 ∷ []) a.0.1 b.0 b.1 in
    let s = items_ok room sound m.0 a.0.1 b.0.1 m.2 in
    let k = close_square_ok b.0.1 c.0 c.1 in
    let t = first_is (tree.List b.0.0, c.0) x c.2 in
    let u = second_is (tree.List b.0.0, c.0) x c.2 in
    let l : trees.expr_tree v.way ∷ trees.items_tree s.way ≡ b.0.0 = ap (λ h. h ∷ trees.items_tree s.way) v.tree_is ∙ ap (λ h. a.0.0 ∷ h) s.tree_is ∙ sym m.1 in
    record { way = g.items v.way s.way; words_are = cc (v.words_are, s.words_are, k, u); tree_is = ap (λ h. tree.List h) l ∙ t; deep = omega (arith, v.deep, s.deep) }

pub list_ok : (room : ℕ) → SoundExpr room → (ws : List Word) (x : Expr × List Word) → r.items (r.expr (inside_of room)) ws ≡ Ok x
    → Spelled g.primary_words trees.primary_tree trees.primary_depth (suc room) (word.OpenSquare ∷ ws) x.0 x.1
list_ok room sound (word.CloseSquare ∷ ws) x e =
    record {
      way = g.no_items;
      words_are = ap (λ h. word.OpenSquare ∷ word.CloseSquare ∷ h) (sym (second_is (tree.List [], ws) x e));
      tree_is = first_is (tree.List [], ws) x e;
      deep = omega arith;
    }
list_ok room sound ws x e = some_items_ok room sound ws x e

-- records
pub pair_ok : (room : ℕ) → SoundExpr room → Sound (r.pair (r.expr (inside_of room))) g.pair_words trees.pair_tree trees.pair_depth room
pair_ok room sound ws x e =
    let a = bind_ok (r.key ws) _ x e in
    let b = bind_ok (r.colon a.0.1) _ x a.2 in
    let c = bind_ok (r.expr (inside_of room) b.0) _ x b.2 in
    let n = key_ok ws a.0 a.1 in
    let k = colon_ok a.0.1 b.0 b.1 in
    let v = sound b.0 c.0 c.1 in
    let f : Member = record { key = a.0.0; value = c.0.0 } in
    let t = first_is (f, c.0.1) x c.2 in
    let u = second_is (f, c.0.1) x c.2 in
    let tk : (let z : Member = record { key = trees.key_text n.way; value = trees.expr_tree v.way } in z ≡ f) =
    ap (λ h. let z : Member = record { key = h; value = trees.expr_tree v.way } in z) n.text_is ∙ ap (λ h. let z : Member = record { key = a.0.0; value = h } in z) v.tree_is in
    record { way = g.pair n.way v.way; words_are = cc (v.words_are, n.words_are, k, u); tree_is = tk ∙ t; deep = v.deep }

pub next_pair_ok : (room : ℕ) → SoundExpr room → (ws mid rest : List Word) (a : Member) (found : List Member)
    → r.next_pair (r.expr (inside_of room)) ws ≡ Ok (Some a, mid)
    → Spelled g.pairs_words trees.pairs_tree trees.pairs_depth room mid found rest
    → Spelled g.pairs_words trees.pairs_tree trees.pairs_depth room ws (a ∷ found) rest
next_pair_ok room sound (word.Comma ∷ ws) mid rest a found e s =
    let b = bind_ok (r.pair (r.expr (inside_of room)) ws) _ (Some a, mid) e in
    let v = pair_ok room sound ws b.0 b.1 in
    let t = first_is (Some b.0.0, b.0.1) (Some a, mid) b.2 in
    let u = second_is (Some b.0.0, b.0.1) (Some a, mid) b.2 in
    let k : b.0.0 ≡ a = cc in
    record {
      way = g.next_pair v.way s.way;
      words_are = ap (λ h. word.Comma ∷ g.pair_words v.way h) (s.words_are ∙ sym u) ∙ ap (λ h. word.Comma ∷ h) v.words_are;
      tree_is = ap (λ h. trees.pair_tree v.way ∷ h) s.tree_is ∙ ap (λ h. h ∷ found) (v.tree_is ∙ k);
      deep = omega (arith, v.deep, s.deep);
    }
next_pair_ok room sound [] mid rest a found e s = cc (first_is (None, []) (Some a, mid) e)
next_pair_ok room sound (w ∷ ws) mid rest a found e s = cc (first_is (None, w ∷ ws) (Some a, mid) e)

pub next_pair_stays : (expr : List Word → Read Expr) → Stays (r.next_pair expr)
next_pair_stays expr (word.Comma ∷ ws) x e none =
    let b = bind_ok (r.pair expr ws) _ x e in
    cc (first_is (Some b.0.0, b.0.1) x b.2, none)
next_pair_stays expr [] x e none = second_is (None, []) x e
next_pair_stays expr (w ∷ ws) x e none = second_is (None, w ∷ ws) x e

pub pairs_ok : (room : ℕ) → SoundExpr room → (found : List Member) (ws rest : List Word) → Turns (r.next_pair (r.expr (inside_of room))) found ws rest
    → Spelled g.pairs_words trees.pairs_tree trees.pairs_depth room ws found rest
pairs_ok room sound [] ws rest t = record { way = g.no_pair; words_are = sym t; tree_is = refl; deep = omega arith }
pairs_ok room sound (a ∷ found) ws rest t = next_pair_ok room sound ws t.0 rest a found t.1 (pairs_ok room sound found t.0 rest t.2)

pub some_pairs_ok : (room : ℕ) → SoundExpr room → (ws : List Word) (x : Expr × List Word) → r.some_pairs (r.expr (inside_of room)) ws ≡ Ok x
    → Spelled g.primary_words trees.primary_tree trees.primary_depth (suc room) (word.OpenCurly ∷ ws) x.0 x.1
some_pairs_ok room sound ws x e =
    let p : List Word → Read Expr = r.expr (inside_of room) in
    let a = bind_ok (r.pair p ws) _ x e in
    let v = pair_ok room sound ws a.0 a.1 in
    let b = bind_ok (rounds (r.next_pair p) (a.0.0 ∷ []) a.0.1) _ x a.2 in
    let c = bind_ok (r.close_curly b.0.1) _ x b.2 in
    let m = rounds_ok (r.next_pair p) (next_pair_stays p) (a.0.0 ∷ []) a.0.1 b.0 b.1 in
    let s = pairs_ok room sound m.0 a.0.1 b.0.1 m.2 in
    let k = close_curly_ok b.0.1 c.0 c.1 in
    let t = first_is (tree.Rec b.0.0, c.0) x c.2 in
    let u = second_is (tree.Rec b.0.0, c.0) x c.2 in
    let is : g.pairs_words s.way (word.CloseCurly ∷ x.1) ≡ a.0.1 = cc (s.words_are, k, u) in
    let l : trees.pair_tree v.way ∷ trees.pairs_tree s.way ≡ b.0.0 = ap (λ h. h ∷ trees.pairs_tree s.way) v.tree_is ∙ ap (λ h. a.0.0 ∷ h) s.tree_is ∙ sym m.1 in
    record {
      way = g.pairs v.way s.way;
      words_are = ap (λ h. word.OpenCurly ∷ g.pair_words v.way h) is ∙ ap (λ h. word.OpenCurly ∷ h) v.words_are;
      tree_is = ap (λ h. tree.Rec h) l ∙ t;
      deep = omega (arith, v.deep, s.deep);
    }

pub record_ok : (room : ℕ) → SoundExpr room → (ws : List Word) (x : Expr × List Word) → r.pairs (r.expr (inside_of room)) ws ≡ Ok x
    → Spelled g.primary_words trees.primary_tree trees.primary_depth (suc room) (word.OpenCurly ∷ ws) x.0 x.1
record_ok room sound (word.CloseCurly ∷ ws) x e =
    record {
      way = g.no_pairs;
      words_are = ap (λ h. word.OpenCurly ∷ word.CloseCurly ∷ h) (sym (second_is (tree.Rec [], ws) x e));
      tree_is = first_is (tree.Rec [], ws) x e;
      deep = omega arith;
    }
record_ok room sound ws x e = some_pairs_ok room sound ws x e

pub primary_ok : (room : ℕ) → Within SoundInner room → Sound (r.primary (inside_of room)) g.primary_words trees.primary_tree trees.primary_depth room
primary_ok room within (word.Number n ∷ ws) x e =
    record { way = g.number n; words_are = ap (λ h. word.Number n ∷ h) (sym (second_is (tree.Int n, ws) x e)); tree_is = first_is (tree.Int n, ws) x e; deep = omega arith }
primary_ok room within (word.Quoted n ∷ ws) x e =
    record { way = g.quoted n; words_are = ap (λ h. word.Quoted n ∷ h) (sym (second_is (tree.Quoted n, ws) x e)); tree_is = first_is (tree.Quoted n, ws) x e; deep = omega arith }
primary_ok room within (word.True ∷ ws) x e =
    record { way = g.true_word; words_are = ap (λ h. word.True ∷ h) (sym (second_is (tree.Bool true, ws) x e)); tree_is = first_is (tree.Bool true, ws) x e; deep = omega arith }
primary_ok room within (word.False ∷ ws) x e =
    record { way = g.false_word; words_are = ap (λ h. word.False ∷ h) (sym (second_is (tree.Bool false, ws) x e)); tree_is = first_is (tree.Bool false, ws) x e; deep = omega arith }
primary_ok room within (word.Null ∷ ws) x e =
    record { way = g.null_word; words_are = ap (λ h. word.Null ∷ h) (sym (second_is (tree.Null, ws) x e)); tree_is = first_is (tree.Null, ws) x e; deep = omega arith }
primary_ok room within (word.Name n ∷ ws) x e = named_ok room within n (called n) refl ws x e
primary_ok room within (word.Fetch ∷ ws) x e =
    let a = bind_ok (r.bracketed (inside_of room) ws) _ x e in
    let s = bracketed_ok room within ws a.0 a.1 in
    let t = first_is (tree.Fetch a.0.0, a.0.1) x a.2 in
    let u = second_is (tree.Fetch a.0.0, a.0.1) x a.2 in
    record { way = g.fetch s.way; words_are = cc (s.words_are, u); tree_is = ap (λ h. tree.Fetch h) s.tree_is ∙ t; deep = s.deep }
primary_ok room within (word.OpenRound ∷ ws) x e =
    let s = in_round_ok room within ws x e in
    record { way = g.round s.way; words_are = ap (λ h. word.OpenRound ∷ h) s.words_are; tree_is = s.tree_is; deep = s.deep }
primary_ok room within (word.OpenSquare ∷ ws) x e =
    let o = opened_ok SoundInner room within ws _ x e in
    let s = list_ok o.0 o.2.0 ws x o.3 in
    record { way = s.way; words_are = s.words_are; tree_is = s.tree_is; deep = omega (arith, s.deep, o.1) }
primary_ok room within (word.OpenCurly ∷ ws) x e =
    let o = opened_ok SoundInner room within ws _ x e in
    let s = record_ok o.0 o.2.0 ws x o.3 in
    record { way = s.way; words_are = s.words_are; tree_is = s.tree_is; deep = omega (arith, s.deep, o.1) }
primary_ok room within ws x e = cc
