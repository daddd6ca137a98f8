-- Each turn of a loop takes a word, so that the bound on the turns is never met.
use Rattle.std.proofs.Common.{◌≡◌, ◌<◌, ℕ, zero, suc, refl, sym, ap, ◌∙◌, List, [], ◌∷◌, ◌++◌, length, Option, Some, None, Ok, Err, arith}
use Rattle.nb_lexer.specs.declared.word.Word.{Word}
use Rattle.nb_lexer.specs.declared.word.Word.TheVariants as word
use Rattle.nb_syntax.specs.declared.tree.Expr.{Expr}
use Rattle.nb_syntax.specs.declared.tree.PathStep.{PathStep}
use Rattle.nb_syntax.specs.declared.tree.Member.{Member}
use Rattle.nb_syntax.specs.declared.tree.Arm.{Arm}
use Rattle.nb_grammar.specs.Words.{product_sign, sum_sign}
use Rattle.nb_grammar.specs.Reading as r
use Rattle.nb_grammar.specs.Reading.{Read, ◌>>=◌, many, rounds, onward, inside_of}
use Rattle.nb_grammar.specs.Grammar as g
use Rattle.nb_grammar.specs.Trees as trees
use Rattle.nb_grammar.specs.Grammar.{OrParts, AndParts, Steps, Items, Pairs, ElseIfs}
use Rattle.nb_grammar.proofs.SoundPrimary.{item_ok, next_pair_ok}
use Rattle.nb_grammar.proofs.SoundExpr.{step_ok, unary_ok, operand_ok, product_ok, and_part_ok, or_part_ok}
use Rattle.nb_grammar.proofs.SoundStmts.{else_if_ok, next_stmt_ok, sound, within}
use Rattle.nb_grammar.proofs.Grows.{expr_grows, or_parts_grows, and_grows, and_parts_grows, compare_grows, product_grows, unary_grows, steps_grows, items_grows, pairs_grows, pair_grows, block_grows, else_ifs_grows}
use Rattle.nb_grammar.proofs.Begins.{many_go}
use Rattle.nb_grammar.proofs.CompleteStmts.{stmt_longer}

pub record Falls {A : Type 0} (next : List Word → Read (Option A)) : Type 0 where
  pub falls : (ws mid : List Word) (a : A) → next ws ≡ Ok (Some a, mid) → length mid < length ws

pub enough : {A : Type 0} (next : List Word → Read (Option A)) → Falls next → (n m : ℕ) (done : List A) (ws : List Word)
    → length ws < n → length ws < m → many next n done ws ≡ many next m done ws
enough next f zero m done ws h k = absurd (omega arith)
enough next f (suc n) zero done ws h k = absurd (omega arith)
enough {A} next f (suc n) (suc m) done ws h k =
    turn (λ more mid g. let a : length mid < n = omega arith in let b : length mid < m = omega arith in enough next f n m more mid a b) (next ws) refl
  where
    turn : ((more : List A) (mid : List Word) → length mid < length ws → many next n more mid ≡ many next m more mid)
        → (y : Read (Option A)) → next ws ≡ y
        → (y >>= (λ x. onward x.0 (Ok (done, x.1)) (λ b. many next n (done ++ b ∷ []) x.1)))
        ≡ (y >>= (λ x. onward x.0 (Ok (done, x.1)) (λ b. many next m (done ++ b ∷ []) x.1)))
    turn again (Err e) is = refl
    turn again (Ok x) is = again_at x.0 x.1 is
      where
        again_at : (o : Option A) (mid : List Word) → next ws ≡ Ok (o, mid)
            → onward o (Ok (done, mid)) (λ b. many next n (done ++ b ∷ []) mid) ≡ onward o (Ok (done, mid)) (λ b. many next m (done ++ b ∷ []) mid)
        again_at None mid e = refl
        again_at (Some a) mid e = again (done ++ a ∷ []) mid (f.falls ws mid a e)

-- one turn, and then the loop again
pub rounds_go : {A : Type 0} (next : List Word → Read (Option A)) → Falls next → (done : List A) (ws mid : List Word) (a : A)
    → next ws ≡ Ok (Some a, mid) → rounds next (done ++ a ∷ []) mid ≡ rounds next done ws
rounds_go next f done ws mid a e =
    let b : length mid < length ws = f.falls ws mid a e in
    enough next f (suc (length mid)) (length ws) (done ++ a ∷ []) mid (omega arith) b ∙ sym (many_go next (length ws) done ws a mid e)

-- a turn of the code's loop
pub rounds_turn : {A : Type 0} (next : List Word → Read (Option A)) → Falls next → (done pushed : List A) (ws mid : List Word) (o : Option A) (a : A) (total : Read (List A))
    → next ws ≡ Ok (o, mid) → o ≡ Some a → pushed ≡ done ++ a ∷ [] → rounds next done ws ≡ total → rounds next pushed mid ≡ total
rounds_turn {A} next f done pushed ws mid o a total e is push same =
    ap (λ h. rounds next h mid) push ∙ rounds_go next f done ws mid a (e ∙ ap (λ h. Ok (h, mid)) is) ∙ same

pub factor_falls : (room : ℕ) → Falls (r.operand product_sign (r.unary (inside_of room)))
factor_falls room = record {
  falls = λ ws mid a e.
      let o = operand_ok product_sign (r.unary (inside_of room)) ws mid a e in
      let v = unary_ok room (within room) o.tail (a.expr, mid) o.part_is in
      omega (arith, unary_grows v.way mid, ap length v.words_are, ap length o.words_are);
}

pub summand_falls : (room : ℕ) → Falls (r.operand sum_sign (r.product (inside_of room)))
summand_falls room = record {
  falls = λ ws mid a e.
      let o = operand_ok sum_sign (r.product (inside_of room)) ws mid a e in
      let v = product_ok room (within room) o.tail (a.expr, mid) o.part_is in
      omega (arith, product_grows v.way mid, ap length v.words_are, ap length o.words_are);
}

items_longer : (d : Items) (a : Expr) (ws : List Word) → trees.items_tree d ≡ a ∷ [] → length ws < length (g.items_words d ws)
items_longer g.no_item one ws is = cc
items_longer (g.item e more) one ws is = omega (arith, expr_grows e (g.items_words more ws), items_grows more ws)

pub item_falls : (room : ℕ) → Falls (r.item (r.expr (inside_of room)))
item_falls room = record {
  falls = λ ws mid a e.
      let s = item_ok room (sound room).0 ws mid mid a [] e (record { way = g.no_item; words_are = refl; tree_is = refl; deep = omega arith }) in
      omega (arith, items_longer s.way a mid s.tree_is, ap length s.words_are);
}

pairs_longer : (d : Pairs) (a : Member) (ws : List Word) → trees.pairs_tree d ≡ a ∷ [] → length ws < length (g.pairs_words d ws)
pairs_longer g.no_pair one ws is = cc
pairs_longer (g.next_pair p more) one ws is = omega (arith, pair_grows p (g.pairs_words more ws), pairs_grows more ws)

pub pair_falls : (room : ℕ) → Falls (r.next_pair (r.expr (inside_of room)))
pair_falls room = record {
  falls = λ ws mid a e.
      let s = next_pair_ok room (sound room).0 ws mid mid a [] e (record { way = g.no_pair; words_are = refl; tree_is = refl; deep = omega arith }) in
      omega (arith, pairs_longer s.way a mid s.tree_is, ap length s.words_are);
}

steps_longer : (d : Steps) (a : PathStep) (ws : List Word) → trees.steps_tree d ≡ a ∷ [] → length ws < length (g.steps_words d ws)
steps_longer g.no_step one ws is = cc
steps_longer (g.field x more) one ws is = omega (arith, steps_grows more ws)
steps_longer (g.at e more) one ws is = omega (arith, expr_grows e (word.CloseSquare ∷ g.steps_words more ws), steps_grows more ws)

pub step_falls : (room : ℕ) → Falls (r.step (inside_of room))
step_falls room = record {
  falls = λ ws mid a e.
      let s = step_ok room (within room) ws mid mid a [] e (record { way = g.no_step; words_are = refl; tree_is = refl; deep = omega arith }) in
      omega (arith, steps_longer s.way a mid s.tree_is, ap length s.words_are);
}

and_parts_longer : (d : AndParts) (a : Expr) (ws : List Word) → trees.and_parts_tree d ≡ a ∷ [] → length ws < length (g.and_parts_words d ws)
and_parts_longer g.no_and_part one ws is = cc
and_parts_longer (g.and_part c more) one ws is = omega (arith, compare_grows c (g.and_parts_words more ws), and_parts_grows more ws)

pub and_part_falls : (room : ℕ) → Falls (r.and_part (inside_of room))
and_part_falls room = record {
  falls = λ ws mid a e.
      let s = and_part_ok room (within room) ws mid mid a [] e (record { way = g.no_and_part; words_are = refl; tree_is = refl; deep = omega arith }) in
      omega (arith, and_parts_longer s.way a mid s.tree_is, ap length s.words_are);
}

or_parts_longer : (d : OrParts) (a : Expr) (ws : List Word) → trees.or_parts_tree d ≡ a ∷ [] → length ws < length (g.or_parts_words d ws)
or_parts_longer g.no_or_part one ws is = cc
or_parts_longer (g.or_part a more) one ws is = omega (arith, and_grows a (g.or_parts_words more ws), or_parts_grows more ws)

pub or_part_falls : (room : ℕ) → Falls (r.or_part (inside_of room))
or_part_falls room = record {
  falls = λ ws mid a e.
      let s = or_part_ok room (within room) ws mid mid a [] e (record { way = g.no_or_part; words_are = refl; tree_is = refl; deep = omega arith }) in
      omega (arith, or_parts_longer s.way a mid s.tree_is, ap length s.words_are);
}

else_ifs_longer : (d : ElseIfs) (a : Arm) (ws : List Word) → trees.else_ifs_tree d ≡ a ∷ [] → length ws < length (g.else_ifs_words d ws)
else_ifs_longer g.no_else_if one ws is = cc
else_ifs_longer (g.else_if e b more) one ws is = omega (arith, expr_grows e (word.CloseRound ∷ g.block_words b (g.else_ifs_words more ws)), block_grows b (g.else_ifs_words more ws), else_ifs_grows more ws)

pub else_if_falls : (room : ℕ) → Falls (r.else_if (inside_of room))
else_if_falls room = record {
  falls = λ ws mid a e.
      let s = else_if_ok room (within room) ws mid mid a [] e (record { way = g.no_else_if; words_are = refl; tree_is = refl; deep = omega arith }) in
      omega (arith, else_ifs_longer s.way a mid s.tree_is, ap length s.words_are);
}

pub stmt_falls : (room : ℕ) → Falls (r.next_stmt (inside_of room))
stmt_falls room = record {
  falls = λ ws mid a e.
      let s = next_stmt_ok room (within room) ws mid a e in
      omega (arith, stmt_longer s.way mid, ap length s.words_are);
}
