-- What begins a part, and what ends it.
use Rattle.std.proofs.Common.{◌≡◌, ◌≤◌, ◌<◌, ℕ, zero, suc, Bool, true, false, refl, sym, ap, ◌∙◌, List, [], ◌∷◌, ◌++◌, Option, Some, None, Ok, append_assoc, append-nil, arith}
use Rattle.nb_lexer.specs.declared.word.Word.{Word}
use Rattle.nb_lexer.specs.declared.word.Word.TheVariants as word
use Rattle.nb_syntax.specs.declared.tree.Expr.{Expr}
use Rattle.nb_grammar.specs.Reading as r
use Rattle.nb_grammar.specs.Reading.{Read, ◌>>=◌, many, onward, inside_of, Inside}
use Rattle.nb_grammar.specs.Grammar as g
use Rattle.nb_grammar.specs.Trees as trees
use Rattle.nb_grammar.specs.Grammar.{ExprWay, OrWay, AndWay, CompareWay, SumWay, ProductWay, UnaryWay, PostfixWay, PrimaryWay, KeyWay, Stmts}

-- A word that goes on what stands before it at a level, tighter ones with greater numbers; 0 where it goes on nothing.
abbrev pub binds : Word → ℕ
binds word.OpenRound = 8
binds word.Dot = 7
binds word.OpenSquare = 7
binds word.Times = 6
binds word.Divide = 6
binds word.Remainder = 6
binds word.Plus = 5
binds word.Minus = 5
binds word.Equal = 4
binds word.NotEqual = 4
binds word.Less = 4
binds word.LessOrEqual = 4
binds word.Greater = 4
binds word.GreaterOrEqual = 4
binds word.And = 3
binds word.Or = 2
binds word.Question = 1
binds _ = 0

-- The next word doesn't go on at this level.
abbrev pub Stops : ℕ → List Word → Type 0
Stops k [] = Unit {0}
Stops k (w ∷ ws) = binds w < k

pub stops_more : (j k : ℕ) → j ≤ k → (ws : List Word) → Stops j ws → Stops k ws
stops_more j k le [] s = tt
stops_more j k le (w ∷ ws) s = omega arith

-- the first words of an expression
abbrev pub begins : Word → Bool
begins (word.Number n) = true
begins (word.Quoted x) = true
begins word.True = true
begins word.False = true
begins word.Null = true
begins (word.Name x) = true
begins word.Fetch = true
begins word.OpenRound = true
begins word.OpenSquare = true
begins word.OpenCurly = true
begins word.Minus = true
begins word.Not = true
begins _ = false

abbrev pub Begins : List Word → Type 0
Begins [] = ⊥
Begins (w ∷ ws) = begins w ≡ true

pub primary_begins : (d : PrimaryWay) (ws : List Word) → Begins (g.primary_words d ws)
primary_begins (g.number n) ws = refl
primary_begins (g.quoted x) ws = refl
primary_begins g.true_word ws = refl
primary_begins g.false_word ws = refl
primary_begins g.null_word ws = refl
primary_begins (g.name x) ws = refl
primary_begins (g.call1 f is a) ws = refl
primary_begins (g.call2 f is a b) ws = refl
primary_begins (g.call3 f is a b c) ws = refl
primary_begins (g.fetch e) ws = refl
primary_begins (g.round e) ws = refl
primary_begins g.no_items ws = refl
primary_begins (g.items e more) ws = refl
primary_begins g.no_pairs ws = refl
primary_begins (g.pairs p more) ws = refl

pub postfix_begins : (d : PostfixWay) (ws : List Word) → Begins (g.postfix_words d ws)
postfix_begins (g.postfix p more) ws = primary_begins p (g.steps_words more ws)

pub unary_begins : (d : UnaryWay) (ws : List Word) → Begins (g.unary_words d ws)
unary_begins (g.unsigned p) ws = postfix_begins p ws
unary_begins (g.signed g.negative p) ws = refl
unary_begins (g.signed g.not p) ws = refl

pub product_begins : (d : ProductWay) (ws : List Word) → Begins (g.product_words d ws)
product_begins (g.product u more) ws = unary_begins u (g.factors_words more ws)

pub sum_begins : (d : SumWay) (ws : List Word) → Begins (g.sum_words d ws)
sum_begins (g.sum p more) ws = product_begins p (g.summands_words more ws)

pub compare_begins : (d : CompareWay) (ws : List Word) → Begins (g.compare_words d ws)
compare_begins (g.single s) ws = sum_begins s ws
compare_begins (g.compare c s t) ws = sum_begins s (g.compare_word c ∷ g.sum_words t ws)

pub and_begins : (d : AndWay) (ws : List Word) → Begins (g.and_words d ws)
and_begins (g.and c more) ws = compare_begins c (g.and_parts_words more ws)

pub or_begins : (d : OrWay) (ws : List Word) → Begins (g.or_words d ws)
or_begins (g.or a more) ws = and_begins a (g.or_parts_words more ws)

pub expr_begins : (d : ExprWay) (ws : List Word) → Begins (g.expr_words d ws)
expr_begins (g.plain o) ws = or_begins o ws
expr_begins (g.choose c a b) ws = or_begins c (word.Question ∷ g.or_words a (word.Colon ∷ g.or_words b ws))

pub items_begun : (expr : List Word → Read Expr) (ws : List Word) → Begins ws → r.items expr ws ≡ r.some_items expr ws
items_begun expr [] b = absurd b
items_begun expr (word.CloseSquare ∷ ws) b = cc
items_begun expr (w ∷ ws) b = refl

pub pairs_begun : (expr : List Word → Read Expr) (k : KeyWay) (ws : List Word) → r.pairs expr (g.key_word k ∷ ws) ≡ r.some_pairs expr (g.key_word k ∷ ws)
pairs_begun expr (g.name_key x) ws = refl
pairs_begun expr (g.quoted_key x) ws = refl

pub unary_begun : (inside : Inside) (p : PrimaryWay) (ws : List Word) → r.unary inside (g.primary_words p ws) ≡ r.postfix inside (g.primary_words p ws)
unary_begun inside (g.number n) ws = refl
unary_begun inside (g.quoted x) ws = refl
unary_begun inside g.true_word ws = refl
unary_begun inside g.false_word ws = refl
unary_begun inside g.null_word ws = refl
unary_begun inside (g.name x) ws = refl
unary_begun inside (g.call1 f is a) ws = refl
unary_begun inside (g.call2 f is a b) ws = refl
unary_begun inside (g.call3 f is a b c) ws = refl
unary_begun inside (g.fetch e) ws = refl
unary_begun inside (g.round e) ws = refl
unary_begun inside g.no_items ws = refl
unary_begun inside (g.items e more) ws = refl
unary_begun inside g.no_pairs ws = refl
unary_begun inside (g.pairs p more) ws = refl

abbrev pub Complete : {D T : Type 0} → (List Word → Read T) → (D → List Word → List Word) → (D → T) → (D → ℕ) → ℕ → ℕ → Type 0
Complete {D} read words tree depth room k = (d : D) (rest : List Word) → depth d ≤ room → Stops k rest → read (words d rest) ≡ Ok (tree d, rest)

abbrev pub CompleteExpr : ℕ → Type 0
CompleteExpr room = Complete (r.expr (inside_of room)) g.expr_words trees.expr_tree trees.expr_depth room 1

abbrev pub CompleteStmts : ℕ → Type 0
CompleteStmts room = (d : Stmts) (rest : List Word) → trees.stmts_depth d ≤ room → r.stmts (inside_of room) (g.stmts_words d (word.CloseCurly ∷ rest)) ≡ Ok (trees.stmts_tree d, rest)

abbrev pub CompleteInner : ℕ → Type 0
CompleteInner room = CompleteExpr room × CompleteStmts room

pub many_go : {A : Type 0} (next : List Word → Read (Option A)) (n : ℕ) (done : List A) (ws : List Word) (a : A) (mid : List Word)
    → next ws ≡ Ok (Some a, mid) → many next (suc n) done ws ≡ many next n (done ++ a ∷ []) mid
many_go {A} next n done ws a mid e = ap (λ m. m >>= (λ x. onward x.0 (Ok (done, x.1)) (λ b. many next n (done ++ b ∷ []) x.1))) e

pub many_stop : {A : Type 0} (next : List Word → Read (Option A)) (n : ℕ) (done : List A) (ws : List Word)
    → next ws ≡ Ok (None, ws) → many next n done ws ≡ Ok (done, ws)
many_stop next zero done ws e = refl
many_stop {A} next (suc n) done ws e = ap (λ m. m >>= (λ x. onward x.0 (Ok (done, x.1)) (λ b. many next n (done ++ b ∷ []) x.1))) e

-- the end of a loop, and a turn before what the loop finds behind it
pub none_again : {A : Type 0} (next : List Word → Read (Option A)) (n : ℕ) (done : List A) (ws : List Word)
    → next ws ≡ Ok (None, ws) → many next n done ws ≡ Ok (done ++ [], ws)
none_again next n done ws e = many_stop next n done ws e ∙ ap (λ h. Ok (h, ws)) (sym (append-nil done))

pub turn_again : {A : Type 0} (next : List Word → Read (Option A)) (n : ℕ) (done : List A) (ws mid rest : List Word) (a : A) (found : List A)
    → next ws ≡ Ok (Some a, mid) → many next n (done ++ a ∷ []) mid ≡ Ok ((done ++ a ∷ []) ++ found, rest) → many next (suc n) done ws ≡ Ok (done ++ a ∷ found, rest)
turn_again next n done ws mid rest a found one more = many_go next n done ws a mid one ∙ more ∙ ap (λ h. Ok (h, rest)) (append_assoc done (a ∷ []) found)
