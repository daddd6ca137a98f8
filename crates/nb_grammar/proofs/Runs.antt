-- The machine at single words, at loops, and behind what was read.
use Rattle.std.proofs.Common.{◌≡◌, ◌<◌, ℕ, zero, suc, refl, sym, ◌∙◌, List, [], ◌∷◌, ◌++◌, length, Option, Some, None, Result, Ok, Err, arith}
use Rattle.nb_lexer.specs.declared.word.Word.{Word}
use Rattle.nb_lexer.specs.declared.word.Word.TheVariants as word
use Rattle.nb_grammar.specs.declared.fault.Fault.{Fault}
use Rattle.nb_grammar.specs.declared.fault.Fault.TheVariants.{TooDeep}
use Rattle.nb_grammar.specs.Reading as r
use Rattle.nb_grammar.specs.Reading.{Read, ◌>>=◌, many, rounds, onward, inside_of}
use Rattle.nb_grammar.specs.Law.{counted, opens, onto}
use Rattle.nb_grammar.specs.Machine as m
use Rattle.nb_grammar.specs.Machine.{Sym, run, want, need_name, need_key, need_let, need_of, need_close_round, need_comma, need_colon, need_semicolon, need_assign, need_close_square, more_stmts}
use Rattle.nb_grammar.proofs.Loops.{Falls}

-- what goes on behind what was read
abbrev pub ends : {A : Type 0} → Result A Fault → (A → Option Fault) → Option Fault
ends (Ok x) k = k x
ends (Err e) k = Some e

pub ends_bind : {A B : Type 0} (y : Result A Fault) (f : A → Result B Fault) (k : B → Option Fault) → ends (y >>= f) k ≡ ends y (λ x. ends (f x) k)
ends_bind (Ok x) f k = refl
ends_bind (Err e) f k = refl

-- What goes on alike ends alike.
pub ends_same : {A : Type 0} (y : Result A Fault) (k h : A → Option Fault) → ((x : A) → y ≡ Ok x → k x ≡ h x) → ends y k ≡ ends y h
ends_same (Ok x) k h same = same x refl
ends_same (Err e) k h same = refl

pub ends_then : {A B : Type 0} (y : Result A Fault) (f : A → Result B Fault) (k : A → Option Fault) (h : B → Option Fault)
    → ((x : A) → y ≡ Ok x → k x ≡ ends (f x) h) → ends y k ≡ ends (y >>= f) h
ends_then y f k h each = ends_same y k (λ x. ends (f x) h) each ∙ sym (ends_bind y f h)

abbrev pub Runs : {A : Type 0} → ℕ → Sym → (List Word → Read A) → Type 0
Runs room s read = (ws : List Word) (ss : List Sym) → run ws room (s ∷ ss) ≡ ends (read ws) (λ x. run x.1 room ss)

-- one turn of a loop, which goes on with k
abbrev pub Loops : {A : Type 0} → ℕ → Sym → List Sym → (List Word → Read (Option A)) → (List Word → Option Fault) → Type 0
Loops room s ss next k = (ws : List Word) → run ws room (s ∷ ss) ≡ ends (next ws) (λ x. onward x.0 (k x.1) (λ a. run x.1 room (s ∷ ss)))

many_goes : {A : Type 0} (room : ℕ) (s : Sym) (ss : List Sym) (next : List Word → Read (Option A)) (k : List Word → Option Fault) → Falls next → Loops room s ss next k
    → (n : ℕ) (done : List A) (ws : List Word) → length ws < n → run ws room (s ∷ ss) ≡ ends (many next n done ws) (λ x. k x.1)
many_goes room s ss next k f loops zero done ws h = absurd (omega arith)
many_goes {A} room s ss next k f loops (suc n) done ws h =
    loops ws ∙ each (λ more mid g. let a : length mid < n = omega arith in many_goes room s ss next k f loops n more mid a) (next ws) refl
  where
    each : ((more : List A) (mid : List Word) → length mid < length ws → run mid room (s ∷ ss) ≡ ends (many next n more mid) (λ x. k x.1))
        → (y : Read (Option A)) → next ws ≡ y
        → ends y (λ x. onward x.0 (k x.1) (λ a. run x.1 room (s ∷ ss)))
        ≡ ends (y >>= (λ x. onward x.0 (Ok (done, x.1)) (λ b. many next n (done ++ b ∷ []) x.1))) (λ x. k x.1)
    each again (Err e) is = refl
    each again (Ok x) is = each_at x.0 x.1 is
      where
        each_at : (o : Option A) (mid : List Word) → next ws ≡ Ok (o, mid)
            → onward o (k mid) (λ a. run mid room (s ∷ ss)) ≡ ends (onward o (Ok (done, mid)) (λ b. many next n (done ++ b ∷ []) mid)) (λ x. k x.1)
        each_at None mid e = refl
        each_at (Some a) mid e = again (done ++ a ∷ []) mid (f.falls ws mid a e)

pub rounds_goes : {A : Type 0} (room : ℕ) (s : Sym) (ss : List Sym) (next : List Word → Read (Option A)) (k : List Word → Option Fault) → Falls next → Loops room s ss next k
    → (done : List A) (ws : List Word) → run ws room (s ∷ ss) ≡ ends (rounds next done ws) (λ x. k x.1)
rounds_goes room s ss next k f loops done ws = many_goes room s ss next k f loops (suc (length ws)) done ws (omega arith)

abbrev pub RunsExpr : ℕ → Type 0
RunsExpr room = Runs room (want m.expr) (r.expr (inside_of room))

abbrev pub RunsStmts : ℕ → Type 0
RunsStmts room = (ws : List Word) (ss : List Sym) → run ws room (more_stmts ∷ ss) ≡ ends (r.stmts (inside_of room) ws) (λ x. run x.1 (suc room) ss)

abbrev pub RunsInner : ℕ → Type 0
RunsInner room = RunsExpr room × RunsStmts room

-- behind a bracket that opens
abbrev pub opened_run : ℕ → List Word → List Sym → Option Fault
opened_run room ws new = onto (counted opens room) (Some (TooDeep (suc (length ws)))) (λ left. run ws left new)

-- single words
pub close_round_runs : (room : ℕ) (ws : List Word) (ss : List Sym) → run ws room (need_close_round ∷ ss) ≡ ends (r.close_round ws) (λ rest. run rest (suc room) ss)
close_round_runs room (word.CloseRound ∷ ws) ss = refl
close_round_runs room [] ss = refl
close_round_runs room (w ∷ ws) ss = refl

pub close_square_runs : (room : ℕ) (ws : List Word) (ss : List Sym) → run ws room (need_close_square ∷ ss) ≡ ends (r.close_square ws) (λ rest. run rest (suc room) ss)
close_square_runs room (word.CloseSquare ∷ ws) ss = refl
close_square_runs room [] ss = refl
close_square_runs room (w ∷ ws) ss = refl

pub comma_runs : (room : ℕ) (ws : List Word) (ss : List Sym) → run ws room (need_comma ∷ ss) ≡ ends (r.comma ws) (λ rest. run rest room ss)
comma_runs room (word.Comma ∷ ws) ss = refl
comma_runs room [] ss = refl
comma_runs room (w ∷ ws) ss = refl

pub colon_runs : (room : ℕ) (ws : List Word) (ss : List Sym) → run ws room (need_colon ∷ ss) ≡ ends (r.colon ws) (λ rest. run rest room ss)
colon_runs room (word.Colon ∷ ws) ss = refl
colon_runs room [] ss = refl
colon_runs room (w ∷ ws) ss = refl

pub semicolon_runs : (room : ℕ) (ws : List Word) (ss : List Sym) → run ws room (need_semicolon ∷ ss) ≡ ends (r.semicolon ws) (λ rest. run rest room ss)
semicolon_runs room (word.Semicolon ∷ ws) ss = refl
semicolon_runs room [] ss = refl
semicolon_runs room (w ∷ ws) ss = refl

pub assign_runs : (room : ℕ) (ws : List Word) (ss : List Sym) → run ws room (need_assign ∷ ss) ≡ ends (r.assign ws) (λ rest. run rest room ss)
assign_runs room (word.Assign ∷ ws) ss = refl
assign_runs room [] ss = refl
assign_runs room (w ∷ ws) ss = refl

pub let_word_runs : (room : ℕ) (ws : List Word) (ss : List Sym) → run ws room (need_let ∷ ss) ≡ ends (r.let_word ws) (λ rest. run rest room ss)
let_word_runs room (word.Let ∷ ws) ss = refl
let_word_runs room [] ss = refl
let_word_runs room (w ∷ ws) ss = refl

pub of_word_runs : (room : ℕ) (ws : List Word) (ss : List Sym) → run ws room (need_of ∷ ss) ≡ ends (r.of_word ws) (λ rest. run rest room ss)
of_word_runs room (word.Of ∷ ws) ss = refl
of_word_runs room [] ss = refl
of_word_runs room (w ∷ ws) ss = refl

pub name_runs : (room : ℕ) (ws : List Word) (ss : List Sym) → run ws room (need_name ∷ ss) ≡ ends (r.name ws) (λ x. run x.1 room ss)
name_runs room (word.Name x ∷ ws) ss = refl
name_runs room [] ss = refl
name_runs room (w ∷ ws) ss = refl

pub key_runs : (room : ℕ) (ws : List Word) (ss : List Sym) → run ws room (need_key ∷ ss) ≡ ends (r.key ws) (λ x. run x.1 room ss)
key_runs room (word.Name x ∷ ws) ss = refl
key_runs room (word.Quoted x ∷ ws) ss = refl
key_runs room [] ss = refl
key_runs room (w ∷ ws) ss = refl
