-- An expression that is read is spelled so.
use Rattle.std.proofs.Common.{◌≡◌, ◌≤◌, ℕ, refl, sym, ap, ◌∙◌, List, [], ◌∷◌, Option, Some, None, Ok, arith}
use Rattle.nb_lexer.specs.declared.word.Word.{Word}
use Rattle.nb_lexer.specs.declared.word.Word.TheVariants as word
use Rattle.nb_syntax.specs.declared.tree.Sign.{Sign}
use Rattle.nb_syntax.specs.declared.tree.Expr.{Expr}
use Rattle.nb_syntax.specs.declared.tree.Expr.TheVariants as tree
use Rattle.nb_syntax.specs.declared.tree.PathStep.{PathStep}
use Rattle.nb_syntax.specs.declared.tree.PathStep.TheVariants as path
use Rattle.nb_syntax.specs.declared.tree.Operand.{Operand}
use Rattle.nb_grammar.specs.Words.{product_sign, sum_sign, compare_sign}
use Rattle.nb_grammar.specs.Reading as r
use Rattle.nb_grammar.specs.Reading.{Read, ◌>>=◌, rounds, inside_of}
use Rattle.nb_grammar.specs.Grammar as g
use Rattle.nb_grammar.specs.Trees as trees
use Rattle.nb_grammar.specs.Grammar.{OrWay, SumWay, CompareSign, SumSign, ProductSign}
use Rattle.nb_grammar.proofs.Turns.{Spelled, bind_ok, Sound, first_is, second_is, Turns, Stays, rounds_ok, close_square_ok, colon_ok, name_ok}
use Rattle.nb_grammar.proofs.SoundPrimary.{SoundExpr, SoundInner, Within, opened_ok, primary_ok}

-- steps
pub step_ok : (room : ℕ) → Within SoundInner room → (ws mid rest : List Word) (a : PathStep) (found : List PathStep)
    → r.step (inside_of room) ws ≡ Ok (Some a, mid)
    → Spelled g.steps_words trees.steps_tree trees.steps_depth room mid found rest
    → Spelled g.steps_words trees.steps_tree trees.steps_depth room ws (a ∷ found) rest
step_ok room within (word.Dot ∷ ws) mid rest a found e s =
    let b = bind_ok (r.name ws) _ (Some a, mid) e in
    let k = name_ok ws b.0 b.1 in
    let t = first_is (Some (path.Field b.0.0), b.0.1) (Some a, mid) b.2 in
    let u = second_is (Some (path.Field b.0.0), b.0.1) (Some a, mid) b.2 in
    record { way = g.field b.0.0 s.way; words_are = cc (s.words_are, k, u); tree_is = cc (s.tree_is, t); deep = s.deep }
step_ok room within (word.OpenSquare ∷ ws) mid rest a found e s =
    let o = opened_ok SoundInner room within ws _ (Some a, mid) e in
    let b = bind_ok (r.expr (inside_of o.0) ws) _ (Some a, mid) o.3 in
    let c = bind_ok (r.close_square b.0.1) _ (Some a, mid) b.2 in
    let v = o.2.0 ws b.0 b.1 in
    let k = close_square_ok b.0.1 c.0 c.1 in
    let t = first_is (Some (path.At b.0.0), c.0) (Some a, mid) c.2 in
    let u = second_is (Some (path.At b.0.0), c.0) (Some a, mid) c.2 in
    record { way = g.at v.way s.way; words_are = cc (v.words_are, s.words_are, k, u); tree_is = cc (v.tree_is, s.tree_is, t); deep = omega (arith, v.deep, s.deep, o.1) }
step_ok room within [] mid rest a found e s = cc (first_is (None, []) (Some a, mid) e)
step_ok room within (w ∷ ws) mid rest a found e s = cc (first_is (None, w ∷ ws) (Some a, mid) e)

pub step_stays : (room : ℕ) → Within SoundInner room → Stays (r.step (inside_of room))
step_stays room within (word.Dot ∷ ws) x e none =
    let b = bind_ok (r.name ws) _ x e in
    cc (first_is (Some (path.Field b.0.0), b.0.1) x b.2, none)
step_stays room within (word.OpenSquare ∷ ws) x e none =
    let o = opened_ok SoundInner room within ws _ x e in
    let b = bind_ok (r.expr (inside_of o.0) ws) _ x o.3 in
    let c = bind_ok (r.close_square b.0.1) _ x b.2 in
    cc (first_is (Some (path.At b.0.0), c.0) x c.2, none)
step_stays room within [] x e none = second_is (None, []) x e
step_stays room within (w ∷ ws) x e none = second_is (None, w ∷ ws) x e

pub steps_ok : (room : ℕ) → Within SoundInner room → (found : List PathStep) (ws rest : List Word) → Turns (r.step (inside_of room)) found ws rest
    → Spelled g.steps_words trees.steps_tree trees.steps_depth room ws found rest
steps_ok room within [] ws rest t = record { way = g.no_step; words_are = sym t; tree_is = refl; deep = omega arith }
steps_ok room within (a ∷ found) ws rest t = step_ok room within ws t.0 rest a found t.1 (steps_ok room within found t.0 rest t.2)

pub postfix_ok : (room : ℕ) → Within SoundInner room → Sound (r.postfix (inside_of room)) g.postfix_words trees.postfix_tree trees.postfix_depth room
postfix_ok room within ws x e =
    let a = bind_ok (r.primary (inside_of room) ws) _ x e in
    let b = bind_ok (rounds (r.step (inside_of room)) [] a.0.1) _ x a.2 in
    let v = primary_ok room within ws a.0 a.1 in
    let m = rounds_ok (r.step (inside_of room)) (step_stays room within) [] a.0.1 b.0 b.1 in
    let s = steps_ok room within m.0 a.0.1 b.0.1 m.2 in
    let t = first_is (r.path_of a.0.0 b.0.0, b.0.1) x b.2 in
    let u = second_is (r.path_of a.0.0 b.0.0, b.0.1) x b.2 in
    record { way = g.postfix v.way s.way; words_are = cc (v.words_are, s.words_are, u); tree_is = cc (v.tree_is, s.tree_is, m.1, t); deep = omega (arith, v.deep, s.deep) }

pub unary_at : (room : ℕ) → Within SoundInner room → (s : g.UnarySign) (ws : List Word) (x : Expr × List Word)
    → (r.postfix (inside_of room) ws >>= (λ e. Ok (tree.Unary (trees.unary_operator s) e.0, e.1))) ≡ Ok x
    → Spelled g.unary_words trees.unary_tree trees.unary_depth room (g.unary_word s ∷ ws) x.0 x.1
unary_at room within s ws x e =
    let a = bind_ok (r.postfix (inside_of room) ws) _ x e in
    let v = postfix_ok room within ws a.0 a.1 in
    let t = first_is (tree.Unary (trees.unary_operator s) a.0.0, a.0.1) x a.2 in
    let u = second_is (tree.Unary (trees.unary_operator s) a.0.0, a.0.1) x a.2 in
    record { way = g.signed s v.way; words_are = cc (v.words_are, u); tree_is = ap (λ h. tree.Unary (trees.unary_operator s) h) v.tree_is ∙ t; deep = v.deep }

pub unary_ok : (room : ℕ) → Within SoundInner room → Sound (r.unary (inside_of room)) g.unary_words trees.unary_tree trees.unary_depth room
unary_ok room within (word.Minus ∷ ws) x e = unary_at room within g.negative ws x e
unary_ok room within (word.Not ∷ ws) x e = unary_at room within g.not ws x e
unary_ok room within ws x e =
    let v = postfix_ok room within ws x e in
    record { way = g.unsigned v.way; words_are = v.words_are; tree_is = v.tree_is; deep = v.deep }

-- operators
pub product_sign_ok : (w : Word) (s : Sign) → product_sign w ≡ Some s → (k : ProductSign) × (g.product_word k ≡ w) × (trees.product_operator k ≡ s)
product_sign_ok word.Times s e = (g.times, refl, cc)
product_sign_ok word.Divide s e = (g.divide, refl, cc)
product_sign_ok word.Remainder s e = (g.remainder, refl, cc)
product_sign_ok _ s e = cc

pub sum_sign_ok : (w : Word) (s : Sign) → sum_sign w ≡ Some s → (k : SumSign) × (g.sum_word k ≡ w) × (trees.sum_operator k ≡ s)
sum_sign_ok word.Plus s e = (g.plus, refl, cc)
sum_sign_ok word.Minus s e = (g.minus, refl, cc)
sum_sign_ok _ s e = cc

pub compare_sign_ok : (w : Word) (s : Sign) → compare_sign w ≡ Some s → (k : CompareSign) × (g.compare_word k ≡ w) × (trees.compare_operator k ≡ s)
compare_sign_ok word.Equal s e = (g.equal, refl, cc)
compare_sign_ok word.NotEqual s e = (g.not_equal, refl, cc)
compare_sign_ok word.Less s e = (g.less, refl, cc)
compare_sign_ok word.LessOrEqual s e = (g.less_or_equal, refl, cc)
compare_sign_ok word.Greater s e = (g.greater, refl, cc)
compare_sign_ok word.GreaterOrEqual s e = (g.greater_or_equal, refl, cc)
compare_sign_ok _ s e = cc

-- a word that is a sign, and the part behind it
pub record Operands (sign : Word → Option Sign) (part : List Word → Read Expr) (ws mid : List Word) (a : Operand) : Type 0 where
  pub head : Word
  pub tail : List Word
  pub words_are : ws ≡ head ∷ tail
  pub sign_is : sign head ≡ Some a.sign
  pub part_is : part tail ≡ Ok (a.expr, mid)

pub signed_ok : (sign : Word → Option Sign) (part : List Word → Read Expr) (o : Option Sign) (w : Word) (ws mid : List Word) (a : Operand) → sign w ≡ o
    → r.signed part o w ws ≡ Ok (Some a, mid) → Operands sign part (w ∷ ws) mid a
signed_ok sign part None w ws mid a is e = cc (first_is (None, w ∷ ws) (Some a, mid) e)
signed_ok sign part (Some s) w ws mid a is e =
    let b = bind_ok (part ws) _ (Some a, mid) e in
    let o : Operand = record { sign = s; expr = b.0.0 } in
    let t = first_is (Some o, b.0.1) (Some a, mid) b.2 in
    let u = second_is (Some o, b.0.1) (Some a, mid) b.2 in
    let k : o ≡ a = cc in
    let ks : s ≡ a.sign = ap (λ h. h.sign) k in
    let ke : b.0.0 ≡ a.expr = ap (λ h. h.expr) k in
    record { head = w; tail = ws; words_are = refl; sign_is = is ∙ ap (λ h. Some h) ks; part_is = b.1 ∙ ap (λ h. Ok (h, b.0.1)) ke ∙ ap (λ h. Ok (a.expr, h)) u }

pub operand_ok : (sign : Word → Option Sign) (part : List Word → Read Expr) (ws mid : List Word) (a : Operand)
    → r.operand sign part ws ≡ Ok (Some a, mid) → Operands sign part ws mid a
operand_ok sign part [] mid a e = cc (first_is (None, []) (Some a, mid) e)
operand_ok sign part (w ∷ ws) mid a e = signed_ok sign part (sign w) w ws mid a refl e

pub signed_stays : (part : List Word → Read Expr) (o : Option Sign) (w : Word) (ws : List Word) (x : Option Operand × List Word)
    → r.signed part o w ws ≡ Ok x → x.0 ≡ None → w ∷ ws ≡ x.1
signed_stays part None w ws x e none = second_is (None, w ∷ ws) x e
signed_stays part (Some s) w ws x e none =
    let b = bind_ok (part ws) _ x e in
    let o : Operand = record { sign = s; expr = b.0.0 } in
    cc (first_is (Some o, b.0.1) x b.2, none)

pub operand_stays : (sign : Word → Option Sign) (part : List Word → Read Expr) → Stays (r.operand sign part)
operand_stays sign part [] x e none = second_is (None, []) x e
operand_stays sign part (w ∷ ws) x e none = signed_stays part (sign w) w ws x e none

pub factors_ok : (room : ℕ) → Within SoundInner room → (found : List Operand) (ws rest : List Word) → Turns (r.operand product_sign (r.unary (inside_of room))) found ws rest
    → Spelled g.factors_words trees.factors_tree trees.factors_depth room ws found rest
factors_ok room within [] ws rest t = record { way = g.no_factor; words_are = sym t; tree_is = refl; deep = omega arith }
factors_ok room within (a ∷ found) ws rest t =
    let o = operand_ok product_sign (r.unary (inside_of room)) ws t.0 a t.1 in
    let k = product_sign_ok o.head a.sign o.sign_is in
    let v = unary_ok room within o.tail (a.expr, t.0) o.part_is in
    let s = factors_ok room within found t.0 rest t.2 in
    record { way = g.factor k.0 v.way s.way; words_are = cc (v.words_are, s.words_are, k.1, o.words_are); tree_is = cc (v.tree_is, s.tree_is, k.2); deep = omega (arith, v.deep, s.deep) }

pub product_ok : (room : ℕ) → Within SoundInner room → Sound (r.product (inside_of room)) g.product_words trees.product_tree trees.product_depth room
product_ok room within ws x e =
    let a = bind_ok (r.unary (inside_of room) ws) _ x e in
    let next : List Word → Read (Option Operand) = r.operand product_sign (r.unary (inside_of room)) in
    let b = bind_ok (rounds next [] a.0.1) _ x a.2 in
    let v = unary_ok room within ws a.0 a.1 in
    let m = rounds_ok next (operand_stays product_sign (r.unary (inside_of room))) [] a.0.1 b.0 b.1 in
    let s = factors_ok room within m.0 a.0.1 b.0.1 m.2 in
    let t = first_is (r.product_of a.0.0 b.0.0, b.0.1) x b.2 in
    let u = second_is (r.product_of a.0.0 b.0.0, b.0.1) x b.2 in
    record { way = g.product v.way s.way; words_are = cc (v.words_are, s.words_are, u); tree_is = cc (v.tree_is, s.tree_is, m.1, t); deep = omega (arith, v.deep, s.deep) }

pub summands_ok : (room : ℕ) → Within SoundInner room → (found : List Operand) (ws rest : List Word) → Turns (r.operand sum_sign (r.product (inside_of room))) found ws rest
    → Spelled g.summands_words trees.summands_tree trees.summands_depth room ws found rest
summands_ok room within [] ws rest t = record { way = g.no_summand; words_are = sym t; tree_is = refl; deep = omega arith }
summands_ok room within (a ∷ found) ws rest t =
    let o = operand_ok sum_sign (r.product (inside_of room)) ws t.0 a t.1 in
    let k = sum_sign_ok o.head a.sign o.sign_is in
    let v = product_ok room within o.tail (a.expr, t.0) o.part_is in
    let s = summands_ok room within found t.0 rest t.2 in
    record { way = g.summand k.0 v.way s.way; words_are = cc (v.words_are, s.words_are, k.1, o.words_are); tree_is = cc (v.tree_is, s.tree_is, k.2); deep = omega (arith, v.deep, s.deep) }

pub sum_ok : (room : ℕ) → Within SoundInner room → Sound (r.sum (inside_of room)) g.sum_words trees.sum_tree trees.sum_depth room
sum_ok room within ws x e =
    let a = bind_ok (r.product (inside_of room) ws) _ x e in
    let next : List Word → Read (Option Operand) = r.operand sum_sign (r.product (inside_of room)) in
    let b = bind_ok (rounds next [] a.0.1) _ x a.2 in
    let v = product_ok room within ws a.0 a.1 in
    let m = rounds_ok next (operand_stays sum_sign (r.product (inside_of room))) [] a.0.1 b.0 b.1 in
    let s = summands_ok room within m.0 a.0.1 b.0.1 m.2 in
    let t = first_is (r.sum_of a.0.0 b.0.0, b.0.1) x b.2 in
    let u = second_is (r.sum_of a.0.0 b.0.0, b.0.1) x b.2 in
    record { way = g.sum v.way s.way; words_are = cc (v.words_are, s.words_are, u); tree_is = cc (v.tree_is, s.tree_is, m.1, t); deep = omega (arith, v.deep, s.deep) }

pub compared_ok : (room : ℕ) → Within SoundInner room → (a : SumWay) → trees.sum_depth a ≤ room → (o : Option Sign) (w : Word) → compare_sign w ≡ o
    → (ws : List Word) (x : Expr × List Word) → r.compared (inside_of room) (trees.sum_tree a) o w ws ≡ Ok x
    → Spelled g.compare_words trees.compare_tree trees.compare_depth room (g.sum_words a (w ∷ ws)) x.0 x.1
compared_ok room within a deep None w is ws x e =
    record { way = g.single a; words_are = ap (λ h. g.sum_words a h) (sym (second_is (trees.sum_tree a, w ∷ ws) x e)); tree_is = first_is (trees.sum_tree a, w ∷ ws) x e; deep = deep }
compared_ok room within a deep (Some s) w is ws x e =
    let b = bind_ok (r.sum (inside_of room) ws) _ x e in
    let v = sum_ok room within ws b.0 b.1 in
    let k = compare_sign_ok w s is in
    let t = first_is (tree.Compare s (trees.sum_tree a) b.0.0, b.0.1) x b.2 in
    let u = second_is (tree.Compare s (trees.sum_tree a) b.0.0, b.0.1) x b.2 in
    record {
      way = g.compare k.0 a v.way;
      words_are = cc (v.words_are, k.1, u);
      tree_is = ap (λ h. tree.Compare h (trees.sum_tree a) (trees.sum_tree v.way)) k.2 ∙ ap (λ h. tree.Compare s (trees.sum_tree a) h) v.tree_is ∙ t;
      deep = omega (arith, v.deep, deep);
    }

pub compare_at_ok : (room : ℕ) → Within SoundInner room → (a : SumWay) → trees.sum_depth a ≤ room → (ws : List Word) (x : Expr × List Word)
    → r.compare_at (inside_of room) (trees.sum_tree a) ws ≡ Ok x
    → Spelled g.compare_words trees.compare_tree trees.compare_depth room (g.sum_words a ws) x.0 x.1
compare_at_ok room within a deep [] x e =
    record { way = g.single a; words_are = ap (λ h. g.sum_words a h) (sym (second_is (trees.sum_tree a, []) x e)); tree_is = first_is (trees.sum_tree a, []) x e; deep = deep }
compare_at_ok room within a deep (w ∷ ws) x e = compared_ok room within a deep (compare_sign w) w refl ws x e

pub compare_ok : (room : ℕ) → Within SoundInner room → Sound (r.compare (inside_of room)) g.compare_words trees.compare_tree trees.compare_depth room
compare_ok room within ws x e =
    let a = bind_ok (r.sum (inside_of room) ws) _ x e in
    let v = sum_ok room within ws a.0 a.1 in
    let f : r.compare_at (inside_of room) (trees.sum_tree v.way) a.0.1 ≡ Ok x = ap (λ h. r.compare_at (inside_of room) h a.0.1) v.tree_is ∙ a.2 in
    let s = compare_at_ok room within v.way v.deep a.0.1 x f in
    record { way = s.way; words_are = s.words_are ∙ v.words_are; tree_is = s.tree_is; deep = s.deep }

pub and_part_ok : (room : ℕ) → Within SoundInner room → (ws mid rest : List Word) (a : Expr) (found : List Expr)
    → r.and_part (inside_of room) ws ≡ Ok (Some a, mid)
    → Spelled g.and_parts_words trees.and_parts_tree trees.and_parts_depth room mid found rest
    → Spelled g.and_parts_words trees.and_parts_tree trees.and_parts_depth room ws (a ∷ found) rest
and_part_ok room within (word.And ∷ ws) mid rest a found e s =
    let b = bind_ok (r.compare (inside_of room) ws) _ (Some a, mid) e in
    let v = compare_ok room within ws b.0 b.1 in
    let t = first_is (Some b.0.0, b.0.1) (Some a, mid) b.2 in
    let u = second_is (Some b.0.0, b.0.1) (Some a, mid) b.2 in
    record { way = g.and_part v.way s.way; words_are = cc (v.words_are, s.words_are, u); tree_is = cc (v.tree_is, s.tree_is, t); deep = omega (arith, v.deep, s.deep) }
and_part_ok room within [] mid rest a found e s = cc (first_is (None, []) (Some a, mid) e)
and_part_ok room within (w ∷ ws) mid rest a found e s = cc (first_is (None, w ∷ ws) (Some a, mid) e)

pub and_part_stays : (room : ℕ) → Stays (r.and_part (inside_of room))
and_part_stays room (word.And ∷ ws) x e none =
    let b = bind_ok (r.compare (inside_of room) ws) _ x e in
    cc (first_is (Some b.0.0, b.0.1) x b.2, none)
and_part_stays room [] x e none = second_is (None, []) x e
and_part_stays room (w ∷ ws) x e none = second_is (None, w ∷ ws) x e

pub and_parts_ok : (room : ℕ) → Within SoundInner room → (found : List Expr) (ws rest : List Word) → Turns (r.and_part (inside_of room)) found ws rest
    → Spelled g.and_parts_words trees.and_parts_tree trees.and_parts_depth room ws found rest
and_parts_ok room within [] ws rest t = record { way = g.no_and_part; words_are = sym t; tree_is = refl; deep = omega arith }
and_parts_ok room within (a ∷ found) ws rest t = and_part_ok room within ws t.0 rest a found t.1 (and_parts_ok room within found t.0 rest t.2)

pub and_ok : (room : ℕ) → Within SoundInner room → Sound (r.and (inside_of room)) g.and_words trees.and_tree trees.and_depth room
and_ok room within ws x e =
    let a = bind_ok (r.compare (inside_of room) ws) _ x e in
    let b = bind_ok (rounds (r.and_part (inside_of room)) [] a.0.1) _ x a.2 in
    let v = compare_ok room within ws a.0 a.1 in
    let m = rounds_ok (r.and_part (inside_of room)) (and_part_stays room) [] a.0.1 b.0 b.1 in
    let s = and_parts_ok room within m.0 a.0.1 b.0.1 m.2 in
    let t = first_is (r.and_of a.0.0 b.0.0, b.0.1) x b.2 in
    let u = second_is (r.and_of a.0.0 b.0.0, b.0.1) x b.2 in
    record { way = g.and v.way s.way; words_are = cc (v.words_are, s.words_are, u); tree_is = cc (v.tree_is, s.tree_is, m.1, t); deep = omega (arith, v.deep, s.deep) }

pub or_part_ok : (room : ℕ) → Within SoundInner room → (ws mid rest : List Word) (a : Expr) (found : List Expr)
    → r.or_part (inside_of room) ws ≡ Ok (Some a, mid)
    → Spelled g.or_parts_words trees.or_parts_tree trees.or_parts_depth room mid found rest
    → Spelled g.or_parts_words trees.or_parts_tree trees.or_parts_depth room ws (a ∷ found) rest
or_part_ok room within (word.Or ∷ ws) mid rest a found e s =
    let b = bind_ok (r.and (inside_of room) ws) _ (Some a, mid) e in
    let v = and_ok room within ws b.0 b.1 in
    let t = first_is (Some b.0.0, b.0.1) (Some a, mid) b.2 in
    let u = second_is (Some b.0.0, b.0.1) (Some a, mid) b.2 in
    record { way = g.or_part v.way s.way; words_are = cc (v.words_are, s.words_are, u); tree_is = cc (v.tree_is, s.tree_is, t); deep = omega (arith, v.deep, s.deep) }
or_part_ok room within [] mid rest a found e s = cc (first_is (None, []) (Some a, mid) e)
or_part_ok room within (w ∷ ws) mid rest a found e s = cc (first_is (None, w ∷ ws) (Some a, mid) e)

pub or_part_stays : (room : ℕ) → Stays (r.or_part (inside_of room))
or_part_stays room (word.Or ∷ ws) x e none =
    let b = bind_ok (r.and (inside_of room) ws) _ x e in
    cc (first_is (Some b.0.0, b.0.1) x b.2, none)
or_part_stays room [] x e none = second_is (None, []) x e
or_part_stays room (w ∷ ws) x e none = second_is (None, w ∷ ws) x e

pub or_parts_ok : (room : ℕ) → Within SoundInner room → (found : List Expr) (ws rest : List Word) → Turns (r.or_part (inside_of room)) found ws rest
    → Spelled g.or_parts_words trees.or_parts_tree trees.or_parts_depth room ws found rest
or_parts_ok room within [] ws rest t = record { way = g.no_or_part; words_are = sym t; tree_is = refl; deep = omega arith }
or_parts_ok room within (a ∷ found) ws rest t = or_part_ok room within ws t.0 rest a found t.1 (or_parts_ok room within found t.0 rest t.2)

pub or_ok : (room : ℕ) → Within SoundInner room → Sound (r.or (inside_of room)) g.or_words trees.or_tree trees.or_depth room
or_ok room within ws x e =
    let a = bind_ok (r.and (inside_of room) ws) _ x e in
    let b = bind_ok (rounds (r.or_part (inside_of room)) [] a.0.1) _ x a.2 in
    let v = and_ok room within ws a.0 a.1 in
    let m = rounds_ok (r.or_part (inside_of room)) (or_part_stays room) [] a.0.1 b.0 b.1 in
    let s = or_parts_ok room within m.0 a.0.1 b.0.1 m.2 in
    let t = first_is (r.or_of a.0.0 b.0.0, b.0.1) x b.2 in
    let u = second_is (r.or_of a.0.0 b.0.0, b.0.1) x b.2 in
    record { way = g.or v.way s.way; words_are = cc (v.words_are, s.words_are, u); tree_is = cc (v.tree_is, s.tree_is, m.1, t); deep = omega (arith, v.deep, s.deep) }

pub choice_ok : (room : ℕ) → Within SoundInner room → (c : OrWay) → trees.or_depth c ≤ room → (ws : List Word) (x : Expr × List Word)
    → r.choice (inside_of room) (trees.or_tree c) ws ≡ Ok x
    → Spelled g.expr_words trees.expr_tree trees.expr_depth room (g.or_words c ws) x.0 x.1
choice_ok room within c deep (word.Question ∷ ws) x e =
    let a = bind_ok (r.or (inside_of room) ws) _ x e in
    let b = bind_ok (r.colon a.0.1) _ x a.2 in
    let d = bind_ok (r.or (inside_of room) b.0) _ x b.2 in
    let v = or_ok room within ws a.0 a.1 in
    let k = colon_ok a.0.1 b.0 b.1 in
    let s = or_ok room within b.0 d.0 d.1 in
    let t = first_is (tree.Choose (trees.or_tree c) a.0.0 d.0.0, d.0.1) x d.2 in
    let u = second_is (tree.Choose (trees.or_tree c) a.0.0 d.0.0, d.0.1) x d.2 in
    record { way = g.choose c v.way s.way; words_are = cc (v.words_are, s.words_are, k, u); tree_is = cc (v.tree_is, s.tree_is, t); deep = omega (arith, v.deep, s.deep) }
choice_ok room within c deep ws x e =
    record { way = g.plain c; words_are = ap (λ h. g.or_words c h) (sym (second_is (trees.or_tree c, ws) x e)); tree_is = first_is (trees.or_tree c, ws) x e; deep = deep }

pub expr_ok : (room : ℕ) → Within SoundInner room → SoundExpr room
expr_ok room within ws x e =
    let a = bind_ok (r.or (inside_of room) ws) _ x e in
    let v = or_ok room within ws a.0 a.1 in
    let f : r.choice (inside_of room) (trees.or_tree v.way) a.0.1 ≡ Ok x = ap (λ h. r.choice (inside_of room) h a.0.1) v.tree_is ∙ a.2 in
    let s = choice_ok room within v.way v.deep a.0.1 x f in
    record { way = s.way; words_are = s.words_are ∙ v.words_are; tree_is = s.tree_is; deep = s.deep }
