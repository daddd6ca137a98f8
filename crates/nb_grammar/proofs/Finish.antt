-- Each stack can be finished.
use Rattle.std.proofs.Common.{◌≡◌, ◌≤◌, ◌-◌, ℕ, pos, zero, suc, Bool, true, false, refl, ◌∙◌, List, [], ◌∷◌, ◌++◌, None, arith}
use Rattle.nb_lexer.specs.declared.word.Word.{Word}
use Rattle.nb_lexer.specs.declared.word.Word.TheVariants as word
use Rattle.nb_grammar.specs.Machine as m
use Rattle.nb_grammar.specs.Machine.{Sym, Level, run, want, arguments, more_steps, more_factors, more_summands, more_compare, more_and, more_or, more_choice, first_item, more_items, first_pair, more_pairs, need_name, need_key, need_let, need_of, need_open_round, need_close_round, need_comma, need_colon, need_semicolon, need_assign, need_close_square, more_stmts, more_else, after_else, body_brace, brace_name, cell_name, tails, more_arguments}

abbrev pub nought : Word
nought = word.Number (pos 0)

-- so many more arguments, and the bracket that closes them
abbrev pub finish_arguments : ℕ → List Word → List Word
finish_arguments zero ws = word.CloseRound ∷ ws
finish_arguments (suc n) ws = word.Comma ∷ nought ∷ finish_arguments n ws

-- words that finish what is wanted
abbrev pub finish : List Sym → List Word
finish [] = []
finish (want l ∷ ss) = nought ∷ finish ss
finish (arguments n ∷ ss) = word.OpenRound ∷ nought ∷ finish_arguments (n - 1) (finish ss)
finish (first_item ∷ ss) = word.CloseSquare ∷ finish ss
finish (more_items ∷ ss) = word.CloseSquare ∷ finish ss
finish (first_pair ∷ ss) = word.CloseCurly ∷ finish ss
finish (more_pairs ∷ ss) = word.CloseCurly ∷ finish ss
finish (need_name ∷ ss) = word.Name [] ∷ finish ss
finish (need_key ∷ ss) = word.Name [] ∷ finish ss
finish (need_let ∷ ss) = word.Let ∷ finish ss
finish (need_of ∷ ss) = word.Of ∷ finish ss
finish (need_close_round ∷ ss) = word.CloseRound ∷ finish ss
finish (need_comma ∷ ss) = word.Comma ∷ finish ss
finish (need_colon ∷ ss) = word.Colon ∷ finish ss
finish (need_semicolon ∷ ss) = word.Semicolon ∷ finish ss
finish (need_assign ∷ ss) = word.Assign ∷ finish ss
finish (need_close_square ∷ ss) = word.CloseSquare ∷ finish ss
finish (more_stmts ∷ ss) = word.CloseCurly ∷ finish ss
finish (need_open_round ∷ ss) = word.OpenRound ∷ finish ss
finish (m.block ∷ ss) = word.OpenCurly ∷ word.CloseCurly ∷ finish ss
finish (after_else ∷ ss) = word.OpenCurly ∷ word.CloseCurly ∷ finish ss
finish (body_brace ∷ ss) = word.CloseCurly ∷ finish ss
finish (brace_name ∷ ss) = word.Assign ∷ nought ∷ word.Semicolon ∷ word.CloseCurly ∷ finish ss
finish (m.body ∷ ss) = nought ∷ finish ss
finish (m.cell ∷ ss) = nought ∷ finish ss
finish (cell_name ∷ ss) = word.Assign ∷ nought ∷ []
finish (s ∷ ss) = finish ss

-- how many brackets they open
abbrev pub opens_in : List Sym → ℕ
opens_in [] = 0
opens_in (arguments n ∷ ss) = suc (opens_in ss)
opens_in (need_open_round ∷ ss) = suc (opens_in ss)
opens_in (m.block ∷ ss) = suc (opens_in ss)
opens_in (after_else ∷ ss) = suc (opens_in ss)
opens_in (s ∷ ss) = opens_in ss

-- No word of these goes on what may end.
abbrev needed : Word → Bool
needed (word.Number n) = true
needed (word.Name x) = true
needed word.Let = true
needed word.Of = true
needed word.OpenRound = true
needed word.CloseRound = true
needed word.CloseSquare = true
needed word.OpenCurly = true
needed word.CloseCurly = true
needed word.Comma = true
needed word.Colon = true
needed word.Semicolon = true
needed word.Assign = true
needed _ = false

abbrev Needed : List Word → Type 0
Needed [] = Unit {0}
Needed (w ∷ ws) = needed w ≡ true

finish_needed : (ss : List Sym) → Needed (finish ss)
finish_needed [] = tt
finish_needed (more_steps ∷ ss) = finish_needed ss
finish_needed (more_factors ∷ ss) = finish_needed ss
finish_needed (more_summands ∷ ss) = finish_needed ss
finish_needed (more_compare ∷ ss) = finish_needed ss
finish_needed (more_and ∷ ss) = finish_needed ss
finish_needed (more_or ∷ ss) = finish_needed ss
finish_needed (more_choice ∷ ss) = finish_needed ss
finish_needed (more_else ∷ ss) = finish_needed ss
finish_needed (s ∷ ss) = refl

more_steps_skip : (room : ℕ) (ws : List Word) (ss : List Sym) → Needed ws → run ws room (more_steps ∷ ss) ≡ run ws room ss
more_steps_skip room [] ss is = refl
more_steps_skip room (word.Dot ∷ ws) ss is = cc
more_steps_skip room (word.OpenSquare ∷ ws) ss is = cc
more_steps_skip room (w ∷ ws) ss is = refl

more_factors_skip : (room : ℕ) (ws : List Word) (ss : List Sym) → Needed ws → run ws room (more_factors ∷ ss) ≡ run ws room ss
more_factors_skip room [] ss is = refl
more_factors_skip room (word.Times ∷ ws) ss is = cc
more_factors_skip room (word.Divide ∷ ws) ss is = cc
more_factors_skip room (word.Remainder ∷ ws) ss is = cc
more_factors_skip room (w ∷ ws) ss is = refl

more_summands_skip : (room : ℕ) (ws : List Word) (ss : List Sym) → Needed ws → run ws room (more_summands ∷ ss) ≡ run ws room ss
more_summands_skip room [] ss is = refl
more_summands_skip room (word.Plus ∷ ws) ss is = cc
more_summands_skip room (word.Minus ∷ ws) ss is = cc
more_summands_skip room (w ∷ ws) ss is = refl

more_compare_skip : (room : ℕ) (ws : List Word) (ss : List Sym) → Needed ws → run ws room (more_compare ∷ ss) ≡ run ws room ss
more_compare_skip room [] ss is = refl
more_compare_skip room (word.Equal ∷ ws) ss is = cc
more_compare_skip room (word.NotEqual ∷ ws) ss is = cc
more_compare_skip room (word.Less ∷ ws) ss is = cc
more_compare_skip room (word.LessOrEqual ∷ ws) ss is = cc
more_compare_skip room (word.Greater ∷ ws) ss is = cc
more_compare_skip room (word.GreaterOrEqual ∷ ws) ss is = cc
more_compare_skip room (w ∷ ws) ss is = refl

more_and_skip : (room : ℕ) (ws : List Word) (ss : List Sym) → Needed ws → run ws room (more_and ∷ ss) ≡ run ws room ss
more_and_skip room [] ss is = refl
more_and_skip room (word.And ∷ ws) ss is = cc
more_and_skip room (w ∷ ws) ss is = refl

more_or_skip : (room : ℕ) (ws : List Word) (ss : List Sym) → Needed ws → run ws room (more_or ∷ ss) ≡ run ws room ss
more_or_skip room [] ss is = refl
more_or_skip room (word.Or ∷ ws) ss is = cc
more_or_skip room (w ∷ ws) ss is = refl

more_choice_skip : (room : ℕ) (ws : List Word) (ss : List Sym) → Needed ws → run ws room (more_choice ∷ ss) ≡ run ws room ss
more_choice_skip room [] ss is = refl
more_choice_skip room (word.Question ∷ ws) ss is = cc
more_choice_skip room (w ∷ ws) ss is = refl

more_else_skip : (room : ℕ) (ws : List Word) (ss : List Sym) → Needed ws → run ws room (more_else ∷ ss) ≡ run ws room ss
more_else_skip room [] ss is = refl
more_else_skip room (word.Else ∷ ws) ss is = cc
more_else_skip room (w ∷ ws) ss is = refl

tails_skip : (l : Level) (room : ℕ) (ws : List Word) (ss : List Sym) → Needed ws → run ws room (tails l ++ ss) ≡ run ws room ss
tails_skip m.primary room ws ss is = refl
tails_skip m.postfix room ws ss is =
    more_steps_skip room ws ss is
tails_skip m.unary room ws ss is =
    more_steps_skip room ws ss is
tails_skip m.product room ws ss is =
    more_steps_skip room ws (more_factors ∷ ss) is ∙ more_factors_skip room ws ss is
tails_skip m.sum room ws ss is =
    more_steps_skip room ws (more_factors ∷ more_summands ∷ ss) is ∙ more_factors_skip room ws (more_summands ∷ ss) is ∙ more_summands_skip room ws ss is
tails_skip m.compare room ws ss is =
    more_steps_skip room ws (more_factors ∷ more_summands ∷ more_compare ∷ ss) is ∙ more_factors_skip room ws (more_summands ∷ more_compare ∷ ss) is ∙ more_summands_skip room ws (more_compare ∷ ss) is ∙ more_compare_skip room ws ss is
tails_skip m.and room ws ss is =
    more_steps_skip room ws (more_factors ∷ more_summands ∷ more_compare ∷ more_and ∷ ss) is ∙ more_factors_skip room ws (more_summands ∷ more_compare ∷ more_and ∷ ss) is ∙ more_summands_skip room ws (more_compare ∷ more_and ∷ ss) is ∙ more_compare_skip room ws (more_and ∷ ss) is ∙ more_and_skip room ws ss is
tails_skip m.or room ws ss is =
    more_steps_skip room ws (more_factors ∷ more_summands ∷ more_compare ∷ more_and ∷ more_or ∷ ss) is ∙ more_factors_skip room ws (more_summands ∷ more_compare ∷ more_and ∷ more_or ∷ ss) is ∙ more_summands_skip room ws (more_compare ∷ more_and ∷ more_or ∷ ss) is ∙ more_compare_skip room ws (more_and ∷ more_or ∷ ss) is ∙ more_and_skip room ws (more_or ∷ ss) is ∙ more_or_skip room ws ss is
tails_skip m.expr room ws ss is =
    more_steps_skip room ws (more_factors ∷ more_summands ∷ more_compare ∷ more_and ∷ more_or ∷ more_choice ∷ ss) is ∙ more_factors_skip room ws (more_summands ∷ more_compare ∷ more_and ∷ more_or ∷ more_choice ∷ ss) is ∙ more_summands_skip room ws (more_compare ∷ more_and ∷ more_or ∷ more_choice ∷ ss) is ∙ more_compare_skip room ws (more_and ∷ more_or ∷ more_choice ∷ ss) is ∙ more_and_skip room ws (more_or ∷ more_choice ∷ ss) is ∙ more_or_skip room ws (more_choice ∷ ss) is ∙ more_choice_skip room ws ss is

arguments_needed : (n : ℕ) (ws : List Word) → Needed (finish_arguments n ws)
arguments_needed zero ws = refl
arguments_needed (suc n) ws = refl

arguments_finish : (n room : ℕ) (ws : List Word) (ss : List Sym) → run (finish_arguments n ws) room (more_arguments n ++ ss) ≡ run ws (suc room) ss
arguments_finish zero room ws ss = refl
arguments_finish (suc n) room ws ss =
    tails_skip m.expr room (finish_arguments n ws) (more_arguments n ++ ss) (arguments_needed n ws) ∙ arguments_finish n room ws ss

-- The machine takes them all.
pub finishes : (ss : List Sym) (room : ℕ) → opens_in ss ≤ room → run (finish ss) room ss ≡ None
finishes [] room le = refl
finishes (want l ∷ ss) room le = tails_skip l room (finish ss) ss (finish_needed ss) ∙ finishes ss room le
finishes (arguments n ∷ ss) zero le = absurd (omega arith)
finishes (arguments n ∷ ss) (suc room) le =
    tails_skip m.expr room (finish_arguments (n - 1) (finish ss)) (more_arguments (n - 1) ++ ss) (arguments_needed (n - 1) (finish ss))
    ∙ arguments_finish (n - 1) room (finish ss) ss ∙ finishes ss (suc room) (omega arith)
finishes (first_item ∷ ss) room le = finishes ss (suc room) (omega arith)
finishes (more_items ∷ ss) room le = finishes ss (suc room) (omega arith)
finishes (first_pair ∷ ss) room le = finishes ss (suc room) (omega arith)
finishes (more_pairs ∷ ss) room le = finishes ss (suc room) (omega arith)
finishes (need_name ∷ ss) room le = finishes ss room le
finishes (need_key ∷ ss) room le = finishes ss room le
finishes (need_let ∷ ss) room le = finishes ss room le
finishes (need_of ∷ ss) room le = finishes ss room le
finishes (need_close_round ∷ ss) room le = finishes ss (suc room) (omega arith)
finishes (need_comma ∷ ss) room le = finishes ss room le
finishes (need_colon ∷ ss) room le = finishes ss room le
finishes (need_semicolon ∷ ss) room le = finishes ss room le
finishes (need_assign ∷ ss) room le = finishes ss room le
finishes (need_close_square ∷ ss) room le = finishes ss (suc room) (omega arith)
finishes (more_stmts ∷ ss) room le = finishes ss (suc room) (omega arith)
finishes (need_open_round ∷ ss) zero le = absurd (omega arith)
finishes (need_open_round ∷ ss) (suc room) le = finishes ss room (omega arith)
finishes (m.block ∷ ss) zero le = absurd (omega arith)
finishes (m.block ∷ ss) (suc room) le = finishes ss (suc room) (omega arith)
finishes (after_else ∷ ss) zero le = absurd (omega arith)
finishes (after_else ∷ ss) (suc room) le = finishes ss (suc room) (omega arith)
finishes (body_brace ∷ ss) room le = tails_skip m.expr (suc room) (finish ss) ss (finish_needed ss) ∙ finishes ss (suc room) (omega arith)
finishes (brace_name ∷ ss) room le = finishes ss (suc room) (omega arith)
finishes (m.body ∷ ss) room le = tails_skip m.expr room (finish ss) ss (finish_needed ss) ∙ finishes ss room le
finishes (m.cell ∷ ss) room le = tails_skip m.expr room (finish ss) ss (finish_needed ss) ∙ finishes ss room le
finishes (cell_name ∷ ss) room le = refl
finishes (more_steps ∷ ss) room le = more_steps_skip room (finish ss) ss (finish_needed ss) ∙ finishes ss room le
finishes (more_factors ∷ ss) room le = more_factors_skip room (finish ss) ss (finish_needed ss) ∙ finishes ss room le
finishes (more_summands ∷ ss) room le = more_summands_skip room (finish ss) ss (finish_needed ss) ∙ finishes ss room le
finishes (more_compare ∷ ss) room le = more_compare_skip room (finish ss) ss (finish_needed ss) ∙ finishes ss room le
finishes (more_and ∷ ss) room le = more_and_skip room (finish ss) ss (finish_needed ss) ∙ finishes ss room le
finishes (more_or ∷ ss) room le = more_or_skip room (finish ss) ss (finish_needed ss) ∙ finishes ss room le
finishes (more_choice ∷ ss) room le = more_choice_skip room (finish ss) ss (finish_needed ss) ∙ finishes ss room le
finishes (more_else ∷ ss) room le = more_else_skip room (finish ss) ss (finish_needed ss) ∙ finishes ss room le
