-- The texts of the forms of an expression, from those of its parts.
use Rattle.std.proofs.Common.{◌≡◌, ℕ, zero, suc, refl, sym, ap, subst, ◌∙◌, List, [], ◌∷◌, ◌++◌, append_assoc, arith}
use Rattle.std.specs.Prelude.{codes}
use Rattle.nb_value.specs.Function.{arity, function_name}
use Rattle.nb_value.specs.declared.function.Function.{Function}
use Rattle.nb_lexer.specs.declared.word.Word.{Word}
use Rattle.nb_lexer.specs.declared.word.Word.TheVariants as word
use Rattle.nb_lexer.specs.Written.{word_text}
use Rattle.nb_lexer.specs.Written as lexer
use Rattle.nb_syntax.specs.Print.{Piece, piece, placed, bare, sign_text, parts_text, each_after, separated, operands_text, operand_text, path_step_text, member_text, operand, quoted_text}
use Rattle.nb_syntax.specs.Print as print
use Rattle.nb_grammar.specs.Grammar as g
use Rattle.nb_grammar.specs.Trees as trees
use Rattle.nb_grammar.specs.Grammar.{ExprWay, OrWay, OrParts, AndWay, AndParts, CompareWay, SumWay, Summands, ProductWay, Factors, UnaryWay, PostfixWay, Steps, PrimaryWay, Items, Pairs, PairWay, CompareSign, SumSign, ProductSign, UnarySign}
use Rattle.nb_grammar.specs.Forms.{Forms, of_primary, of_expr, of_or, of_and, of_compare, of_sum, of_product, of_unary, of_postfix, call_of}
use Rattle.nb_parser.proofs.WayTexts as text

-- The text of each form is the piece, in brackets where its place asks for them.
pub record Prints (f : Forms) (p : Piece) : Type 0 where
  pub expr_is : (t : List ℕ) → text.expr_text f.expr t ≡ placed p 0 ++ t
  pub or_is : (t : List ℕ) → text.or_text f.or t ≡ placed p 1 ++ t
  pub and_is : (t : List ℕ) → text.and_text f.and t ≡ placed p 2 ++ t
  pub compare_is : (t : List ℕ) → text.compare_text f.compare t ≡ placed p 3 ++ t
  pub sum_is : (t : List ℕ) → text.sum_text f.sum t ≡ placed p 4 ++ t
  pub product_is : (t : List ℕ) → text.product_text f.product t ≡ placed p 5 ++ t
  pub unary_is : (t : List ℕ) → text.unary_text f.unary t ≡ placed p 6 ++ t
  pub postfix_is : (t : List ℕ) → text.postfix_text f.postfix t ≡ placed p 7 ++ t
  pub primary_is : (t : List ℕ) → text.primary_text f.primary t ≡ placed p 8 ++ t

in_brackets : (e : ExprWay) (x : List ℕ) → ((t : List ℕ) → text.expr_text e t ≡ x ++ t) → (t : List ℕ) → text.primary_text (g.round e) t ≡ (codes "(" ++ x ++ codes ")") ++ t
in_brackets e x h t = ap (λ r. 40 ∷ r) (h (41 ∷ t) ∙ sym (append_assoc x (41 ∷ []) t))

pub prints_primary : (d : PrimaryWay) (x : List ℕ) → ((t : List ℕ) → text.primary_text d t ≡ x ++ t) → Prints (of_primary d) (piece 8 x)
prints_primary d x h = record { expr_is = h; or_is = h; and_is = h; compare_is = h; sum_is = h; product_is = h; unary_is = h; postfix_is = h; primary_is = h }

pub prints_expr : (d : ExprWay) (x : List ℕ) → ((t : List ℕ) → text.expr_text d t ≡ x ++ t) → Prints (of_expr d) (piece 0 x)
prints_expr d x h = let b = in_brackets d x h in
    record { expr_is = h; or_is = b; and_is = b; compare_is = b; sum_is = b; product_is = b; unary_is = b; postfix_is = b; primary_is = b }

pub prints_or : (d : OrWay) (x : List ℕ) → ((t : List ℕ) → text.or_text d t ≡ x ++ t) → Prints (of_or d) (piece 1 x)
prints_or d x h = let b = in_brackets (g.plain d) x h in
    record { expr_is = h; or_is = h; and_is = b; compare_is = b; sum_is = b; product_is = b; unary_is = b; postfix_is = b; primary_is = b }

pub prints_and : (d : AndWay) (x : List ℕ) → ((t : List ℕ) → text.and_text d t ≡ x ++ t) → Prints (of_and d) (piece 2 x)
prints_and d x h = let b = in_brackets (g.plain (g.or d g.no_or_part)) x h in
    record { expr_is = h; or_is = h; and_is = h; compare_is = b; sum_is = b; product_is = b; unary_is = b; postfix_is = b; primary_is = b }

pub prints_compare : (d : CompareWay) (x : List ℕ) → ((t : List ℕ) → text.compare_text d t ≡ x ++ t) → Prints (of_compare d) (piece 3 x)
prints_compare d x h = let b = in_brackets (of_compare d).expr x h in
    record { expr_is = h; or_is = h; and_is = h; compare_is = h; sum_is = b; product_is = b; unary_is = b; postfix_is = b; primary_is = b }

pub prints_sum : (d : SumWay) (x : List ℕ) → ((t : List ℕ) → text.sum_text d t ≡ x ++ t) → Prints (of_sum d) (piece 4 x)
prints_sum d x h = let b = in_brackets (of_sum d).expr x h in
    record { expr_is = h; or_is = h; and_is = h; compare_is = h; sum_is = h; product_is = b; unary_is = b; postfix_is = b; primary_is = b }

pub prints_product : (d : ProductWay) (x : List ℕ) → ((t : List ℕ) → text.product_text d t ≡ x ++ t) → Prints (of_product d) (piece 5 x)
prints_product d x h = let b = in_brackets (of_product d).expr x h in
    record { expr_is = h; or_is = h; and_is = h; compare_is = h; sum_is = h; product_is = h; unary_is = b; postfix_is = b; primary_is = b }

pub prints_unary : (d : UnaryWay) (x : List ℕ) → ((t : List ℕ) → text.unary_text d t ≡ x ++ t) → Prints (of_unary d) (piece 6 x)
prints_unary d x h = let b = in_brackets (of_unary d).expr x h in
    record { expr_is = h; or_is = h; and_is = h; compare_is = h; sum_is = h; product_is = h; unary_is = h; postfix_is = b; primary_is = b }

pub prints_postfix : (d : PostfixWay) (x : List ℕ) → ((t : List ℕ) → text.postfix_text d t ≡ x ++ t) → Prints (of_postfix d) (piece 7 x)
prints_postfix d x h = let b = in_brackets (of_postfix d).expr x h in
    record { expr_is = h; or_is = h; and_is = h; compare_is = h; sum_is = h; product_is = h; unary_is = h; postfix_is = h; primary_is = b }

-- f is g, and what is printed of g is p, which is q
pub along : (f g : Forms) (q p : Piece) → f ≡ g → q ≡ p → Prints g p → Prints f q
along f g q p i j h = subst (λ z. Prints z q) (sym i) (subst (λ z. Prints g z) (sym j) h)

-- ---- texts put together

pub join2 : (a b t : List ℕ) → a ++ (b ++ t) ≡ a ++ b ++ t
join2 a b t = sym (append_assoc a b t)

pub join3 : (a b c t : List ℕ) → a ++ (b ++ (c ++ t)) ≡ a ++ b ++ c ++ t
join3 a b c t = join2 a b (c ++ t) ∙ join2 (a ++ b) c t

pub join4 : (a b c d t : List ℕ) → a ++ (b ++ (c ++ (d ++ t))) ≡ a ++ b ++ c ++ d ++ t
join4 a b c d t = join2 a b (c ++ (d ++ t)) ∙ join3 (a ++ b) c d t

pub join5 : (a b c d e t : List ℕ) → a ++ (b ++ (c ++ (d ++ (e ++ t)))) ≡ a ++ b ++ c ++ d ++ e ++ t
join5 a b c d e t = join2 a b (c ++ (d ++ (e ++ t))) ∙ join4 (a ++ b) c d e t

-- what stands before a text, in front of what stands before another
pub two : (f h : List ℕ → List ℕ) (x y : List ℕ) → ((t : List ℕ) → f t ≡ x ++ t) → ((t : List ℕ) → h t ≡ y ++ t) → (t : List ℕ) → f (h t) ≡ x ++ y ++ t
two f h x y p q t = p (h t) ∙ ap (λ r. x ++ r) (q t) ∙ join2 x y t

-- ---- quoted texts

escaped_same : (x : List ℕ) → lexer.escaped x ≡ print.escaped x
escaped_same [] = refl
escaped_same (b ∷ x) = ap (λ r. print.escape b ++ r) (escaped_same x)

pub quoted_same : (x : List ℕ) → word_text (word.Quoted x) ≡ quoted_text x
quoted_same x = ap (λ r. codes "\"" ++ r ++ codes "\"") (escaped_same x)

-- ---- each kind of expression

pub choose_text : (f h k : Forms) (x y z : Piece) → Prints f x → Prints h y → Prints k z → (t : List ℕ)
    → text.expr_text (g.choose f.or h.or k.or) t ≡ (placed x 1 ++ codes " ? " ++ placed y 1 ++ codes " : " ++ placed z 1) ++ t
choose_text f h k x y z p q r t =
    p.or_is _ ∙ ap (λ s. placed x 1 ++ (codes " ? " ++ s)) (q.or_is _) ∙ ap (λ s. placed x 1 ++ (codes " ? " ++ (placed y 1 ++ (codes " : " ++ s)))) (r.or_is t)
    ∙ join5 (placed x 1) (codes " ? ") (placed y 1) (codes " : ") (placed z 1) t

pub or_part_text : (f : Forms) (p : Piece) (more : OrParts) (u : List ℕ) → Prints f p → ((t : List ℕ) → text.or_parts_text more t ≡ u ++ t) → (t : List ℕ)
    → text.or_parts_text (g.or_part f.and more) t ≡ (codes " || " ++ placed p 2 ++ u) ++ t
or_part_text f p more u h m t = ap (λ r. codes " || " ++ r) (two (text.and_text f.and) (text.or_parts_text more) (placed p 2) u h.and_is m t)

pub and_part_text : (f : Forms) (p : Piece) (more : AndParts) (u : List ℕ) → Prints f p → ((t : List ℕ) → text.and_parts_text more t ≡ u ++ t) → (t : List ℕ)
    → text.and_parts_text (g.and_part f.compare more) t ≡ (codes " && " ++ placed p 3 ++ u) ++ t
and_part_text f p more u h m t = ap (λ r. codes " && " ++ r) (two (text.compare_text f.compare) (text.and_parts_text more) (placed p 3) u h.compare_is m t)

compare_same : (s : CompareSign) → word_text (g.compare_word s) ≡ sign_text (trees.compare_operator s)
compare_same g.equal = refl
compare_same g.not_equal = refl
compare_same g.less = refl
compare_same g.less_or_equal = refl
compare_same g.greater = refl
compare_same g.greater_or_equal = refl

sum_same : (s : SumSign) → word_text (g.sum_word s) ≡ sign_text (trees.sum_operator s)
sum_same g.plus = refl
sum_same g.minus = refl

product_same : (s : ProductSign) → word_text (g.product_word s) ≡ sign_text (trees.product_operator s)
product_same g.times = refl
product_same g.divide = refl
product_same g.remainder = refl

unary_same : (s : UnarySign) → word_text (g.unary_word s) ≡ sign_text (trees.unary_operator s)
unary_same g.negative = refl
unary_same g.not = refl

-- an operator between spaces, before these texts
between_text : (w : Word) (s x u t : List ℕ) → word_text w ≡ s → text.between w (x ++ u ++ t) ≡ (codes " " ++ s ++ codes " " ++ x ++ u) ++ t
between_text w s x u t is =
    ap (λ r. codes " " ++ (r ++ (codes " " ++ (x ++ u ++ t)))) is ∙ ap (λ r. codes " " ++ (s ++ (codes " " ++ r))) (append_assoc x u t)
    ∙ join5 (codes " ") s (codes " ") x u t

pub compare_text : (s : CompareSign) (f h : Forms) (x y : Piece) → Prints f x → Prints h y → (t : List ℕ)
    → text.compare_text (g.compare s f.sum h.sum) t ≡ (placed x 4 ++ operand_text 4 (trees.compare_operator s, y)) ++ t
compare_text s f h x y p q t =
    let o : List ℕ = sign_text (trees.compare_operator s) in
    p.sum_is _ ∙ ap (λ r. placed x 4 ++ text.between (g.compare_word s) r) (q.sum_is t) ∙ ap (λ w. placed x 4 ++ (codes " " ++ (w ++ (codes " " ++ (placed y 4 ++ t))))) (compare_same s)
    ∙ ap (λ r. placed x 4 ++ r) (join4 (codes " ") o (codes " ") (placed y 4) t) ∙ join2 (placed x 4) (operand_text 4 (trees.compare_operator s, y)) t

pub summand_text : (s : SumSign) (f : Forms) (p : Piece) (more : Summands) (u : List ℕ) → Prints f p → ((t : List ℕ) → text.summands_text more t ≡ u ++ t) → (t : List ℕ)
    → text.summands_text (g.summand s f.product more) t ≡ (operand_text 5 (trees.sum_operator s, p) ++ u) ++ t
summand_text s f p more u h m t =
    ap (λ r. text.between (g.sum_word s) r) (two (text.product_text f.product) (text.summands_text more) (placed p 5) u h.product_is m t)
    ∙ between_text (g.sum_word s) (sign_text (trees.sum_operator s)) (placed p 5) u t (sum_same s)

pub factor_text : (s : ProductSign) (f : Forms) (p : Piece) (more : Factors) (u : List ℕ) → Prints f p → ((t : List ℕ) → text.factors_text more t ≡ u ++ t) → (t : List ℕ)
    → text.factors_text (g.factor s f.unary more) t ≡ (operand_text 6 (trees.product_operator s, p) ++ u) ++ t
factor_text s f p more u h m t =
    ap (λ r. text.between (g.product_word s) r) (two (text.unary_text f.unary) (text.factors_text more) (placed p 6) u h.unary_is m t)
    ∙ between_text (g.product_word s) (sign_text (trees.product_operator s)) (placed p 6) u t (product_same s)

pub unary_text : (s : UnarySign) (f : Forms) (p : Piece) → Prints f p → (t : List ℕ)
    → text.unary_text (g.signed s f.postfix) t ≡ (sign_text (trees.unary_operator s) ++ placed p 7) ++ t
unary_text s f p h t =
    ap (λ w. w ++ text.postfix_text f.postfix t) (unary_same s) ∙ ap (λ r. sign_text (trees.unary_operator s) ++ r) (h.postfix_is t)
    ∙ join2 (sign_text (trees.unary_operator s)) (placed p 7) t

pub field_text : (x : List ℕ) (more : Steps) (u : List ℕ) → ((t : List ℕ) → text.steps_text more t ≡ u ++ t) → (t : List ℕ)
    → text.steps_text (g.field x more) t ≡ (codes "." ++ x ++ u) ++ t
field_text x more u m t = ap (λ r. codes "." ++ (x ++ r)) (m t) ∙ join3 (codes ".") x u t

pub at_text : (f : Forms) (p : Piece) (more : Steps) (u : List ℕ) → Prints f p → ((t : List ℕ) → text.steps_text more t ≡ u ++ t) → (t : List ℕ)
    → text.steps_text (g.at f.expr more) t ≡ ((codes "[" ++ placed p 0 ++ codes "]") ++ u) ++ t
at_text f p more u h m t =
    ap (λ r. codes "[" ++ text.expr_text f.expr (codes "]" ++ r)) (m t) ∙ ap (λ r. codes "[" ++ r) (h.expr_is _) ∙ join4 (codes "[") (placed p 0) (codes "]") u t

-- ---- lists, records and calls

pub item_text : (f : Forms) (p : Piece) (more : Items) (u : List ℕ) → Prints f p → ((t : List ℕ) → text.items_text more t ≡ u ++ t) → (t : List ℕ)
    → text.items_text (g.item f.expr more) t ≡ (codes ", " ++ placed p 0 ++ u) ++ t
item_text f p more u h m t = ap (λ r. codes ", " ++ r) (two (text.expr_text f.expr) (text.items_text more) (placed p 0) u h.expr_is m t)

-- a list's items, from its bracket on
pub enclosed : (before after x u : List ℕ) (f h : List ℕ → List ℕ) → ((t : List ℕ) → f t ≡ x ++ t) → ((t : List ℕ) → h t ≡ u ++ t) → (t : List ℕ)
    → before ++ f (h (after ++ t)) ≡ (before ++ (x ++ u) ++ after) ++ t
enclosed before after x u f h p q t = ap (λ r. before ++ r) (two f h x u p q (after ++ t)) ∙ join3 before (x ++ u) after t

-- a function's name, and its arguments in brackets
call_text : (name : List ℕ) (f : Forms) (p : Piece) (more : Items) (u : List ℕ) → Prints f p → ((t : List ℕ) → text.items_text more t ≡ u ++ t) → (t : List ℕ)
    → name ++ (codes "(" ++ text.expr_text f.expr (text.items_text more (codes ")" ++ t))) ≡ (name ++ codes "(" ++ (placed p 0 ++ u) ++ codes ")") ++ t
call_text name f p more u h m t =
    ap (λ r. name ++ (codes "(" ++ r)) (two (text.expr_text f.expr) (text.items_text more) (placed p 0) u h.expr_is m (codes ")" ++ t))
    ∙ join4 name (codes "(") (placed p 0 ++ u) (codes ")") t

pub call1_text : (f : Function) (n : ℕ) (is : arity f ≡ n) → n ≡ 1 → (a : Forms) (p : Piece) → Prints a p → (t : List ℕ)
    → text.primary_text (call_of f n is (a ∷ [])) t ≡ (function_name f ++ codes "(" ++ parts_text (codes ", ") 0 (p ∷ []) ++ codes ")") ++ t
call1_text f zero is one a p h t = absurd (omega arith)
call1_text f (suc zero) is one a p h t = call_text (function_name f) a p g.no_item [] h (λ s. refl) t
call1_text f (suc (suc n)) is one a p h t = absurd (omega arith)

pub call2_text : (f : Function) (n : ℕ) (is : arity f ≡ n) → n ≡ 2 → (a b : Forms) (p q : Piece) → Prints a p → Prints b q → (t : List ℕ)
    → text.primary_text (call_of f n is (a ∷ b ∷ [])) t ≡ (function_name f ++ codes "(" ++ parts_text (codes ", ") 0 (p ∷ q ∷ []) ++ codes ")") ++ t
call2_text f zero is two a b p q h k t = absurd (omega arith)
call2_text f (suc zero) is two a b p q h k t = absurd (omega arith)
call2_text f (suc (suc zero)) is two a b p q h k t =
    call_text (function_name f) a p (g.item b.expr g.no_item) (codes ", " ++ placed q 0 ++ []) h (item_text b q g.no_item [] k (λ s. refl)) t
call2_text f (suc (suc (suc n))) is two a b p q h k t = absurd (omega arith)

pub call3_text : (f : Function) (n : ℕ) (is : arity f ≡ n) → n ≡ 3 → (a b c : Forms) (p q r : Piece) → Prints a p → Prints b q → Prints c r → (t : List ℕ)
    → text.primary_text (call_of f n is (a ∷ b ∷ c ∷ [])) t ≡ (function_name f ++ codes "(" ++ parts_text (codes ", ") 0 (p ∷ q ∷ r ∷ []) ++ codes ")") ++ t
call3_text f zero is three a b c p q r h k l t = absurd (omega arith)
call3_text f (suc zero) is three a b c p q r h k l t = absurd (omega arith)
call3_text f (suc (suc zero)) is three a b c p q r h k l t = absurd (omega arith)
call3_text f (suc (suc (suc zero))) is three a b c p q r h k l t =
    call_text (function_name f) a p (g.item b.expr (g.item c.expr g.no_item)) (codes ", " ++ placed q 0 ++ (codes ", " ++ placed r 0 ++ [])) h
    (item_text b q (g.item c.expr g.no_item) (codes ", " ++ placed r 0 ++ []) k (item_text c r g.no_item [] l (λ s. refl))) t
call3_text f (suc (suc (suc (suc n)))) is three a b c p q r h k l t = absurd (omega arith)

pub fetch_text : (f : Forms) (p : Piece) → Prints f p → (t : List ℕ) → text.primary_text (g.fetch f.expr) t ≡ (codes "fetch(" ++ placed p 0 ++ codes ")") ++ t
fetch_text f p h t = ap (λ r. codes "fetch(" ++ r) (h.expr_is _) ∙ join3 (codes "fetch(") (placed p 0) (codes ")") t

pub member_start : (key : List ℕ) (f : Forms) (p : Piece) → Prints f p → (t : List ℕ)
    → text.pair_text (g.pair (g.quoted_key key) f.expr) t ≡ (quoted_text key ++ codes ": " ++ placed p 0) ++ t
member_start key f p h t =
    ap (λ q. q ++ (codes ": " ++ text.expr_text f.expr t)) (quoted_same key) ∙ ap (λ r. quoted_text key ++ (codes ": " ++ r)) (h.expr_is t)
    ∙ join3 (quoted_text key) (codes ": ") (placed p 0) t
