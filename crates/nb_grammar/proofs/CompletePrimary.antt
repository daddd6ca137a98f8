-- A primary that is spelled so is read.
use Rattle.std.proofs.Common.{◌≡◌, ◌≤◌, ◌-◌, ℕ, zero, suc, max, refl, sym, ap, ◌∙◌, List, [], ◌∷◌, ◌++◌, length, Option, Some, None, Ok, append_assoc, append-nil, arith, lit<}
use Rattle.nb_value.specs.Function.{function_name, arity}
use Rattle.nb_value.specs.declared.function.Function.{Function}
use Rattle.nb_lexer.specs.declared.word.Word.{Word}
use Rattle.nb_lexer.specs.declared.word.Word.TheVariants as word
use Rattle.nb_syntax.specs.declared.tree.Expr.{Expr}
use Rattle.nb_syntax.specs.declared.tree.Expr.TheVariants as tree
use Rattle.nb_syntax.specs.declared.tree.Member.{Member}
use Rattle.nb_grammar.specs.Words.{called}
use Rattle.nb_grammar.specs.Reading as r
use Rattle.nb_grammar.specs.Reading.{Read, ◌>>=◌, many, rounds, inside_of, Inside}
use Rattle.nb_grammar.specs.Grammar as g
use Rattle.nb_grammar.specs.Trees as trees
use Rattle.nb_grammar.specs.Grammar.{ExprWay, Items, Pairs, PairWay, KeyWay}
use Rattle.nb_grammar.proofs.Names.{name_called}
use Rattle.nb_grammar.proofs.SoundPrimary.{Within, count}
use Rattle.nb_grammar.proofs.Grows.{expr_grows, pair_grows}
use Rattle.nb_grammar.proofs.Begins.{Stops, expr_begins, items_begun, pairs_begun, Complete, CompleteExpr, CompleteInner, none_again, turn_again}

-- in brackets
pub in_round_again : (room : ℕ) → Within CompleteInner room → (e : ExprWay) (rest : List Word) → suc (trees.expr_depth e) ≤ room
    → r.in_round (inside_of room) (g.expr_words e (word.CloseRound ∷ rest)) ≡ Ok (trees.expr_tree e, rest)
in_round_again zero within e rest deep = absurd (omega arith)
in_round_again (suc room) within e rest deep =
    let less : trees.expr_depth e ≤ room = omega arith in
    ap (λ m. m >>= (λ x. r.close_round x.1 >>= (λ s. Ok (x.0, s)))) (within.0 e (word.CloseRound ∷ rest) less (lit< tt))

-- calls
pub named_again : (inside : Inside) (x : List ℕ) (o : Option Function) (rest : List Word) → Stops 8 rest → r.named inside x o rest ≡ Ok (tree.Name x, rest)
named_again inside x (Some f) (word.OpenRound ∷ rest) s = absurd (omega arith)
named_again inside x (Some f) [] s = refl
named_again inside x (Some f) (w ∷ ws) s = refl
named_again inside x None ws s = refl

-- behind a first argument
pub arguments_stop : (d : Items) (ws : List Word) → Stops 1 (g.items_words d (word.CloseRound ∷ ws))
arguments_stop g.no_item ws = lit< tt
arguments_stop (g.item e more) ws = lit< tt

pub arguments_again : (room : ℕ) → CompleteExpr room → (d : Items) (n : ℕ) (done : List Expr) (rest : List Word) → trees.items_depth d ≤ room → count d ≡ n
    → r.arguments (r.expr (inside_of room)) n done (g.items_words d (word.CloseRound ∷ rest)) ≡ Ok (done ++ trees.items_tree d, word.CloseRound ∷ rest)
arguments_again room whole g.no_item zero done rest deep is = ap (λ h. Ok (h, word.CloseRound ∷ rest)) (sym (append-nil done))
arguments_again room whole g.no_item (suc n) done rest deep is = absurd (omega arith)
arguments_again room whole (g.item e more) zero done rest deep is = absurd (omega arith)
arguments_again room whole (g.item e more) (suc n) done rest deep is =
    let ws : List Word = g.items_words more (word.CloseRound ∷ rest) in
    let p : List Word → Read Expr = r.expr (inside_of room) in
    let d1 : trees.expr_depth e ≤ room = omega arith in
    let d2 : trees.items_depth more ≤ room = omega arith in
    let k : count more ≡ n = omega arith in
    ap (λ m. m >>= (λ x. r.arguments p n (done ++ x.0 ∷ []) x.1)) (whole e ws d1 (arguments_stop more rest))
    ∙ arguments_again room whole more n (done ++ trees.expr_tree e ∷ []) rest d2 k
    ∙ ap (λ h. Ok (h, word.CloseRound ∷ rest)) (append_assoc done (trees.expr_tree e ∷ []) (trees.items_tree more))

pub call_again : (room : ℕ) → CompleteExpr room → (f : Function) (e : ExprWay) (d : Items) (rest : List Word) → trees.expr_depth e ≤ room → trees.items_depth d ≤ room
    → suc (count d) ≡ arity f
    → r.call (r.expr (inside_of room)) f (g.expr_words e (g.items_words d (word.CloseRound ∷ rest))) ≡ Ok (tree.Call f (trees.expr_tree e ∷ trees.items_tree d), rest)
call_again room whole f e d rest d1 d2 is =
    let ws : List Word = g.items_words d (word.CloseRound ∷ rest) in
    let p : List Word → Read Expr = r.expr (inside_of room) in
    let k : count d ≡ arity f - 1 = omega (arith, is) in
    ap (λ m. m >>= (λ first. r.arguments p (arity f - 1) (first.0 ∷ []) first.1 >>= (λ all. r.close_round all.1 >>= (λ rest. Ok (tree.Call f all.0, rest)))))
    (whole e ws d1 (arguments_stop d rest))
    ∙ ap (λ m. m >>= (λ all. r.close_round all.1 >>= (λ rest. Ok (tree.Call f all.0, rest)))) (arguments_again room whole d (arity f - 1) (trees.expr_tree e ∷ []) rest d2 k)

pub called_again : (room : ℕ) → Within CompleteInner room → (f : Function) (e : ExprWay) (d : Items) (rest : List Word)
    → suc (max (trees.expr_depth e) (trees.items_depth d)) ≤ room → suc (count d) ≡ arity f
    → r.named (inside_of room) (function_name f) (called (function_name f)) (word.OpenRound ∷ g.expr_words e (g.items_words d (word.CloseRound ∷ rest)))
    ≡ Ok (tree.Call f (trees.expr_tree e ∷ trees.items_tree d), rest)
called_again zero within f e d rest deep is = absurd (omega arith)
called_again (suc room) within f e d rest deep is =
    let d1 : trees.expr_depth e ≤ room = omega arith in
    let d2 : trees.items_depth d ≤ room = omega arith in
    ap (λ o. r.named (inside_of (suc room)) (function_name f) o (word.OpenRound ∷ g.expr_words e (g.items_words d (word.CloseRound ∷ rest)))) (name_called f)
    ∙ call_again room within.0 f e d rest d1 d2 is

-- lists
pub items_stop : (d : Items) (ws : List Word) → Stops 1 (g.items_words d (word.CloseSquare ∷ ws))
items_stop g.no_item ws = lit< tt
items_stop (g.item e more) ws = lit< tt

pub items_again : (room : ℕ) → CompleteExpr room → (d : Items) (n : ℕ) (done : List Expr) (rest : List Word) → trees.items_depth d ≤ room
    → length (g.items_words d (word.CloseSquare ∷ rest)) ≤ n
    → many (r.item (r.expr (inside_of room))) n done (g.items_words d (word.CloseSquare ∷ rest)) ≡ Ok (done ++ trees.items_tree d, word.CloseSquare ∷ rest)
items_again room whole g.no_item n done rest deep enough = none_again (r.item (r.expr (inside_of room))) n done (word.CloseSquare ∷ rest) refl
items_again room whole (g.item e more) zero done rest deep enough = absurd (omega arith)
items_again room whole (g.item e more) (suc n) done rest deep enough =
    let ws : List Word = g.items_words more (word.CloseSquare ∷ rest) in
    let d1 : trees.expr_depth e ≤ room = omega arith in
    let d2 : trees.items_depth more ≤ room = omega arith in
    let fuel : length ws ≤ n = omega (arith, expr_grows e ws) in
    turn_again (r.item (r.expr (inside_of room))) n done (word.Comma ∷ g.expr_words e ws) ws (word.CloseSquare ∷ rest) (trees.expr_tree e) (trees.items_tree more)
    (ap (λ m. m >>= (λ x. Ok (Some x.0, x.1))) (whole e ws d1 (items_stop more rest)))
    (items_again room whole more n (done ++ trees.expr_tree e ∷ []) rest d2 fuel)

pub list_again : (room : ℕ) → CompleteExpr room → (e : ExprWay) (more : Items) (rest : List Word) → trees.expr_depth e ≤ room → trees.items_depth more ≤ room
    → r.items (r.expr (inside_of room)) (g.expr_words e (g.items_words more (word.CloseSquare ∷ rest))) ≡ Ok (tree.List (trees.expr_tree e ∷ trees.items_tree more), rest)
list_again room whole e more rest d1 d2 =
    let ws : List Word = g.items_words more (word.CloseSquare ∷ rest) in
    let p : List Word → Read Expr = r.expr (inside_of room) in
    items_begun p (g.expr_words e ws) (expr_begins e ws)
    ∙ ap (λ m. m >>= (λ first. rounds (r.item p) (first.0 ∷ []) first.1 >>= (λ all. r.close_square all.1 >>= (λ rest. Ok (tree.List all.0, rest))))) (whole e ws d1 (items_stop more rest))
    ∙ ap (λ m. m >>= (λ all. r.close_square all.1 >>= (λ rest. Ok (tree.List all.0, rest)))) (items_again room whole more (suc (length ws)) (trees.expr_tree e ∷ []) rest d2 (omega arith))

-- records
pub key_again : (k : KeyWay) (ws : List Word) → r.key (g.key_word k ∷ ws) ≡ Ok (trees.key_text k, ws)
key_again (g.name_key x) ws = refl
key_again (g.quoted_key x) ws = refl

pub pairs_stop : (d : Pairs) (ws : List Word) → Stops 1 (g.pairs_words d (word.CloseCurly ∷ ws))
pairs_stop g.no_pair ws = lit< tt
pairs_stop (g.next_pair p more) ws = lit< tt

pub pair_again : (room : ℕ) → CompleteExpr room → Complete (r.pair (r.expr (inside_of room))) g.pair_words trees.pair_tree trees.pair_depth room 1
pair_again room whole (g.pair k e) ws deep stops =
    let p : List Word → Read Expr = r.expr (inside_of room) in
    ap (λ m. m >>= (λ (x : List ℕ × List Word). r.colon x.1 >>= (λ rest. p rest >>= (λ y. (let z : Read Member = Ok (record { key = x.0; value = y.0 }, y.1) in z))))) (key_again k (word.Colon ∷ g.expr_words e ws))
    ∙ ap (λ m. m >>= (λ y. (let z : Read Member = Ok (record { key = trees.key_text k; value = y.0 }, y.1) in z))) (whole e ws deep stops)

pub pairs_again : (room : ℕ) → CompleteExpr room → (d : Pairs) (n : ℕ) (done : List Member) (rest : List Word) → trees.pairs_depth d ≤ room
    → length (g.pairs_words d (word.CloseCurly ∷ rest)) ≤ n
    → many (r.next_pair (r.expr (inside_of room))) n done (g.pairs_words d (word.CloseCurly ∷ rest)) ≡ Ok (done ++ trees.pairs_tree d, word.CloseCurly ∷ rest)
pairs_again room whole g.no_pair n done rest deep enough = none_again (r.next_pair (r.expr (inside_of room))) n done (word.CloseCurly ∷ rest) refl
pairs_again room whole (g.next_pair p more) zero done rest deep enough = absurd (omega arith)
pairs_again room whole (g.next_pair p more) (suc n) done rest deep enough =
    let ws : List Word = g.pairs_words more (word.CloseCurly ∷ rest) in
    let d1 : trees.pair_depth p ≤ room = omega arith in
    let d2 : trees.pairs_depth more ≤ room = omega arith in
    let fuel : length ws ≤ n = omega (arith, pair_grows p ws) in
    turn_again (r.next_pair (r.expr (inside_of room))) n done (word.Comma ∷ g.pair_words p ws) ws (word.CloseCurly ∷ rest) (trees.pair_tree p) (trees.pairs_tree more)
    (ap (λ m. m >>= (λ y. Ok (Some y.0, y.1))) (pair_again room whole p ws d1 (pairs_stop more rest)))
    (pairs_again room whole more n (done ++ trees.pair_tree p ∷ []) rest d2 fuel)

pub record_again : (room : ℕ) → CompleteExpr room → (p : PairWay) (more : Pairs) (rest : List Word) → trees.pair_depth p ≤ room → trees.pairs_depth more ≤ room
    → r.pairs (r.expr (inside_of room)) (g.pair_words p (g.pairs_words more (word.CloseCurly ∷ rest))) ≡ Ok (tree.Rec (trees.pair_tree p ∷ trees.pairs_tree more), rest)
record_again room whole (g.pair k e) more rest d1 d2 =
    let ws : List Word = g.pairs_words more (word.CloseCurly ∷ rest) in
    let p : List Word → Read Expr = r.expr (inside_of room) in
    pairs_begun p k (word.Colon ∷ g.expr_words e ws)
    ∙ ap (λ m. m >>= (λ first. rounds (r.next_pair p) (first.0 ∷ []) first.1 >>= (λ all. r.close_curly all.1 >>= (λ rest. Ok (tree.Rec all.0, rest))))) (pair_again room whole (g.pair k e) ws d1 (pairs_stop more rest))
    ∙ ap (λ m. m >>= (λ all. r.close_curly all.1 >>= (λ rest. Ok (tree.Rec all.0, rest)))) (pairs_again room whole more (suc (length ws)) (trees.pair_tree (g.pair k e) ∷ []) rest d2 (omega arith))

pub primary_again : (room : ℕ) → Within CompleteInner room → Complete (r.primary (inside_of room)) g.primary_words trees.primary_tree trees.primary_depth room 8
primary_again room within (g.number n) rest deep stops = refl
primary_again room within (g.quoted x) rest deep stops = refl
primary_again room within g.true_word rest deep stops = refl
primary_again room within g.false_word rest deep stops = refl
primary_again room within g.null_word rest deep stops = refl
primary_again room within (g.name x) rest deep stops = named_again (inside_of room) x (called x) rest stops
primary_again room within (g.call1 f is a) rest deep stops = called_again room within f a g.no_item rest (omega (arith, deep)) (sym is)
primary_again room within (g.call2 f is a b) rest deep stops = called_again room within f a (g.item b g.no_item) rest (omega (arith, deep)) (sym is)
primary_again room within (g.call3 f is a b c) rest deep stops = called_again room within f a (g.item b (g.item c g.no_item)) rest (omega (arith, deep)) (sym is)
primary_again room within (g.fetch e) rest deep stops = ap (λ m. m >>= (λ x. Ok (tree.Fetch x.0, x.1))) (in_round_again room within e rest deep)
primary_again room within (g.round e) rest deep stops = in_round_again room within e rest deep
primary_again zero within g.no_items rest deep stops = absurd (omega arith)
primary_again (suc room) within g.no_items rest deep stops = refl
primary_again zero within (g.items e more) rest deep stops = absurd (omega arith)
primary_again (suc room) within (g.items e more) rest deep stops =
    let d1 : trees.expr_depth e ≤ room = omega arith in
    let d2 : trees.items_depth more ≤ room = omega arith in
    list_again room within.0 e more rest d1 d2
primary_again zero within g.no_pairs rest deep stops = absurd (omega arith)
primary_again (suc room) within g.no_pairs rest deep stops = refl
primary_again zero within (g.pairs p more) rest deep stops = absurd (omega arith)
primary_again (suc room) within (g.pairs p more) rest deep stops =
    let d1 : trees.pair_depth p ≤ room = omega arith in
    let d2 : trees.pairs_depth more ≤ room = omega arith in
    record_again room within.0 p more rest d1 d2
