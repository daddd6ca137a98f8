-- The machine goes as reading a primary does.
use Rattle.std.proofs.Common.{◌≡◌, ◌-◌, ℕ, zero, suc, refl, ap, ◌∙◌, List, [], ◌∷◌, ◌++◌, Option, Some, None, Ok, append_assoc}
use Rattle.nb_value.specs.Function.{arity}
use Rattle.nb_value.specs.declared.function.Function.{Function}
use Rattle.nb_lexer.specs.declared.word.Word.{Word}
use Rattle.nb_lexer.specs.declared.word.Word.TheVariants as word
use Rattle.nb_syntax.specs.declared.tree.Expr.{Expr}
use Rattle.nb_syntax.specs.declared.tree.Expr.TheVariants as tree
use Rattle.nb_syntax.specs.declared.tree.Member.{Member}
use Rattle.nb_grammar.specs.declared.fault.Fault.{Fault}
use Rattle.nb_grammar.specs.Words.{called}
use Rattle.nb_grammar.specs.Reading as r
use Rattle.nb_grammar.specs.Reading.{Read, ◌>>=◌, rounds, onward, inside_of}
use Rattle.nb_grammar.specs.Machine as m
use Rattle.nb_grammar.specs.Machine.{Sym, run, want, first_item, more_items, first_pair, more_pairs, need_key, need_open_round, need_close_round, need_colon, behind, tails, more_arguments}
use Rattle.nb_grammar.proofs.SoundPrimary.{Within}
use Rattle.nb_grammar.proofs.Loops.{item_falls, pair_falls}
use Rattle.nb_grammar.proofs.Runs.{ends, ends_then, Runs, Loops, rounds_goes, RunsExpr, RunsInner, opened_run, close_round_runs, comma_runs, colon_runs, key_runs}

pub in_round_runs : (room : ℕ) → Within RunsInner room → (ws : List Word) (ss : List Sym)
    → opened_run room ws (want m.expr ∷ need_close_round ∷ ss) ≡ ends (r.in_round (inside_of room) ws) (λ x. run x.1 room ss)
in_round_runs zero within ws ss = refl
in_round_runs (suc room) within ws ss =
    within.0 ws (need_close_round ∷ ss)
    ∙ ends_then (r.expr (inside_of room) ws) (λ e. r.close_round e.1 >>= (λ rest. Ok (e.0, rest))) (λ x. run x.1 room (need_close_round ∷ ss)) (λ x. run x.1 (suc room) ss)
    (λ e is. close_round_runs room e.1 ss ∙ ends_then (r.close_round e.1) (λ rest. Ok (e.0, rest)) (λ rest. run rest (suc room) ss) (λ x. run x.1 (suc room) ss) (λ rest g. refl))

pub bracketed_runs : (room : ℕ) → Within RunsInner room → (ws : List Word) (ss : List Sym)
    → run ws room (need_open_round ∷ want m.expr ∷ need_close_round ∷ ss) ≡ ends (r.bracketed (inside_of room) ws) (λ x. run x.1 room ss)
bracketed_runs room within (word.OpenRound ∷ ws) ss = in_round_runs room within ws ss
bracketed_runs room within [] ss = refl
bracketed_runs room within (w ∷ ws) ss = refl

-- calls
arguments_run : (room : ℕ) → RunsExpr room → (n : ℕ) (done : List Expr) (ws : List Word) (ss : List Sym)
    → run ws room (more_arguments n ++ ss) ≡ ends (r.arguments (r.expr (inside_of room)) n done ws) (λ x. run x.1 room (need_close_round ∷ ss))
arguments_run room whole zero done ws ss = refl
arguments_run room whole (suc n) done ws ss =
    let p : List Word → Read Expr = r.expr (inside_of room) in
    let k : List Expr × List Word → Option Fault = λ x. run x.1 room (need_close_round ∷ ss) in
    comma_runs room ws (want m.expr ∷ (more_arguments n ++ ss))
    ∙ ends_then (r.comma ws) (λ rest. p rest >>= (λ e. r.arguments p n (done ++ e.0 ∷ []) e.1)) (λ rest. run rest room (want m.expr ∷ (more_arguments n ++ ss))) k
    (λ rest g. whole rest (more_arguments n ++ ss)
    ∙ ends_then (p rest) (λ e. r.arguments p n (done ++ e.0 ∷ []) e.1) (λ x. run x.1 room (more_arguments n ++ ss)) k
    (λ e h. arguments_run room whole n (done ++ e.0 ∷ []) e.1 ss))

call_runs : (room : ℕ) → RunsExpr room → (f : Function) (ws : List Word) (ss : List Sym)
    → run ws room (want m.expr ∷ (more_arguments (arity f - 1) ++ ss)) ≡ ends (r.call (r.expr (inside_of room)) f ws) (λ x. run x.1 (suc room) ss)
call_runs room whole f ws ss =
    let p : List Word → Read Expr = r.expr (inside_of room) in
    let k : Expr × List Word → Option Fault = λ x. run x.1 (suc room) ss in
    let h : List Expr × List Word → Read Expr = λ all. r.close_round all.1 >>= (λ rest. Ok (tree.Call f all.0, rest)) in
    whole ws (more_arguments (arity f - 1) ++ ss)
    ∙ ends_then (p ws) (λ first. r.arguments p (arity f - 1) (first.0 ∷ []) first.1 >>= h) (λ x. run x.1 room (more_arguments (arity f - 1) ++ ss)) k
    (λ first is. arguments_run room whole (arity f - 1) (first.0 ∷ []) first.1 ss
    ∙ ends_then (r.arguments p (arity f - 1) (first.0 ∷ []) first.1) h (λ x. run x.1 room (need_close_round ∷ ss)) k
    (λ all g. close_round_runs room all.1 ss ∙ ends_then (r.close_round all.1) (λ rest. Ok (tree.Call f all.0, rest)) (λ rest. run rest (suc room) ss) k (λ rest i. refl)))

pub behind_append : (o : Option Function) (xs ys : List Sym) → behind o xs ++ ys ≡ behind o (xs ++ ys)
behind_append None xs ys = refl
behind_append (Some f) xs ys = refl

pub named_runs : (room : ℕ) → Within RunsInner room → (n : List ℕ) (o : Option Function) (ws : List Word) (ss : List Sym)
    → run ws room (behind o ss) ≡ ends (r.named (inside_of room) n o ws) (λ x. run x.1 room ss)
named_runs zero within n (Some f) (word.OpenRound ∷ ws) ss = refl
named_runs (suc room) within n (Some f) (word.OpenRound ∷ ws) ss = call_runs room within.0 f ws ss
named_runs room within n (Some f) [] ss = refl
named_runs room within n (Some f) (w ∷ ws) ss = refl
named_runs room within n None ws ss = refl

-- lists
abbrev square_closed : ℕ → List Sym → List Word → Option Fault
square_closed room ss ws = ends (r.close_square ws) (λ rest. run rest (suc room) ss)

item_loops : (room : ℕ) → RunsExpr room → (ss : List Sym) → Loops room more_items ss (r.item (r.expr (inside_of room))) (square_closed room ss)
item_loops room whole ss (word.Comma ∷ ws) =
    whole ws (more_items ∷ ss)
    ∙ ends_then (r.expr (inside_of room) ws) (λ e. Ok (Some e.0, e.1)) (λ x. run x.1 room (more_items ∷ ss))
    (λ x. onward x.0 (square_closed room ss x.1) (λ a. run x.1 room (more_items ∷ ss))) (λ e is. refl)
item_loops room whole ss (word.CloseSquare ∷ ws) = refl
item_loops room whole ss [] = refl
item_loops room whole ss (w ∷ ws) = refl

some_items_run : (room : ℕ) → RunsExpr room → (ws : List Word) (ss : List Sym)
    → run ws room (want m.expr ∷ more_items ∷ ss) ≡ ends (r.some_items (r.expr (inside_of room)) ws) (λ x. run x.1 (suc room) ss)
some_items_run room whole ws ss =
    let p : List Word → Read Expr = r.expr (inside_of room) in
    let k : Expr × List Word → Option Fault = λ x. run x.1 (suc room) ss in
    let f : List Expr × List Word → Read Expr = λ all. r.close_square all.1 >>= (λ rest. Ok (tree.List all.0, rest)) in
    whole ws (more_items ∷ ss)
    ∙ ends_then (p ws) (λ first. rounds (r.item p) (first.0 ∷ []) first.1 >>= f) (λ x. run x.1 room (more_items ∷ ss)) k
    (λ first is. rounds_goes room more_items ss (r.item p) (square_closed room ss) (item_falls room) (item_loops room whole ss) (first.0 ∷ []) first.1
    ∙ ends_then (rounds (r.item p) (first.0 ∷ []) first.1) f (λ x. square_closed room ss x.1) k
    (λ all g. ends_then (r.close_square all.1) (λ rest. Ok (tree.List all.0, rest)) (λ rest. run rest (suc room) ss) k (λ rest h. refl)))

items_run : (room : ℕ) → RunsExpr room → (ws : List Word) (ss : List Sym)
    → run ws room (first_item ∷ ss) ≡ ends (r.items (r.expr (inside_of room)) ws) (λ x. run x.1 (suc room) ss)
items_run room whole (word.CloseSquare ∷ ws) ss = refl
items_run room whole (word.Name x ∷ ws) ss =
    ap (λ z. run ws room z) (append_assoc (behind (called x) (tails m.expr)) (more_items ∷ []) ss) ∙ some_items_run room whole (word.Name x ∷ ws) ss
items_run room whole [] ss = some_items_run room whole [] ss
items_run room whole (w ∷ ws) ss = some_items_run room whole (w ∷ ws) ss

-- records
abbrev pub curly_closed : ℕ → List Sym → List Word → Option Fault
curly_closed room ss ws = ends (r.close_curly ws) (λ rest. run rest (suc room) ss)

pair_runs : (room : ℕ) → RunsExpr room → (ws : List Word) (ss : List Sym)
    → run ws room (need_key ∷ need_colon ∷ want m.expr ∷ ss) ≡ ends (r.pair (r.expr (inside_of room)) ws) (λ x. run x.1 room ss)
pair_runs room whole ws ss =
    let p : List Word → Read Expr = r.expr (inside_of room) in
    let k : Member × List Word → Option Fault = λ x. run x.1 room ss in
    let f : List ℕ → Expr × List Word → Read Member = λ n e. Ok (record { key = n; value = e.0 }, e.1) in
    key_runs room ws (need_colon ∷ want m.expr ∷ ss)
    ∙ ends_then (r.key ws) (λ x. r.colon x.1 >>= (λ rest. p rest >>= f x.0)) (λ x. run x.1 room (need_colon ∷ want m.expr ∷ ss)) k
    (λ x is. colon_runs room x.1 (want m.expr ∷ ss)
    ∙ ends_then (r.colon x.1) (λ rest. p rest >>= f x.0) (λ rest. run rest room (want m.expr ∷ ss)) k
    (λ rest g. whole rest ss ∙ ends_then (p rest) (f x.0) (λ y. run y.1 room ss) k (λ e h. refl)))

pair_loops : (room : ℕ) → RunsExpr room → (ss : List Sym) → Loops room more_pairs ss (r.next_pair (r.expr (inside_of room))) (curly_closed room ss)
pair_loops room whole ss (word.Comma ∷ ws) =
    pair_runs room whole ws (more_pairs ∷ ss)
    ∙ ends_then (r.pair (r.expr (inside_of room)) ws) (λ e. Ok (Some e.0, e.1)) (λ x. run x.1 room (more_pairs ∷ ss))
    (λ x. onward x.0 (curly_closed room ss x.1) (λ a. run x.1 room (more_pairs ∷ ss))) (λ e is. refl)
pair_loops room whole ss (word.CloseCurly ∷ ws) = refl
pair_loops room whole ss [] = refl
pair_loops room whole ss (w ∷ ws) = refl

some_pairs_run : (room : ℕ) → RunsExpr room → (ws : List Word) (ss : List Sym)
    → run ws room (need_key ∷ need_colon ∷ want m.expr ∷ more_pairs ∷ ss) ≡ ends (r.some_pairs (r.expr (inside_of room)) ws) (λ x. run x.1 (suc room) ss)
some_pairs_run room whole ws ss =
    let p : List Word → Read Expr = r.expr (inside_of room) in
    let k : Expr × List Word → Option Fault = λ x. run x.1 (suc room) ss in
    let f : List Member × List Word → Read Expr = λ all. r.close_curly all.1 >>= (λ rest. Ok (tree.Rec all.0, rest)) in
    pair_runs room whole ws (more_pairs ∷ ss)
    ∙ ends_then (r.pair p ws) (λ first. rounds (r.next_pair p) (first.0 ∷ []) first.1 >>= f) (λ x. run x.1 room (more_pairs ∷ ss)) k
    (λ first is. rounds_goes room more_pairs ss (r.next_pair p) (curly_closed room ss) (pair_falls room) (pair_loops room whole ss) (first.0 ∷ []) first.1
    ∙ ends_then (rounds (r.next_pair p) (first.0 ∷ []) first.1) f (λ x. curly_closed room ss x.1) k
    (λ all g. ends_then (r.close_curly all.1) (λ rest. Ok (tree.Rec all.0, rest)) (λ rest. run rest (suc room) ss) k (λ rest h. refl)))

pairs_run : (room : ℕ) → RunsExpr room → (ws : List Word) (ss : List Sym)
    → run ws room (first_pair ∷ ss) ≡ ends (r.pairs (r.expr (inside_of room)) ws) (λ x. run x.1 (suc room) ss)
pairs_run room whole (word.CloseCurly ∷ ws) ss = refl
pairs_run room whole [] ss = some_pairs_run room whole [] ss
pairs_run room whole (w ∷ ws) ss = some_pairs_run room whole (w ∷ ws) ss

pub primary_runs : (room : ℕ) → Within RunsInner room → Runs room (want m.primary) (r.primary (inside_of room))
primary_runs room within (word.Name x ∷ ws) ss =
    ap (λ z. run ws room z) (behind_append (called x) [] ss) ∙ named_runs room within x (called x) ws ss
primary_runs room within (word.Fetch ∷ ws) ss =
    bracketed_runs room within ws ss
    ∙ ends_then (r.bracketed (inside_of room) ws) (λ e. Ok (tree.Fetch e.0, e.1)) (λ x. run x.1 room ss) (λ x. run x.1 room ss) (λ e is. refl)
primary_runs room within (word.OpenRound ∷ ws) ss = in_round_runs room within ws ss
primary_runs zero within (word.OpenSquare ∷ ws) ss = refl
primary_runs (suc room) within (word.OpenSquare ∷ ws) ss = items_run room within.0 ws ss
primary_runs zero within (word.OpenCurly ∷ ws) ss = refl
primary_runs (suc room) within (word.OpenCurly ∷ ws) ss = pairs_run room within.0 ws ss
primary_runs room within [] ss = refl
primary_runs room within (w ∷ ws) ss = refl
