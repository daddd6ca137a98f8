-- A machine that knows what may come next: a stack of what is still wanted, and one step for each word.
use Rattle.std.specs.Prelude.{ℕ, zero, suc, ◌-◌, Bool, true, false, ◌&&◌, List, [], ◌∷◌, ◌++◌, length, Option, Some, None, if◌then◌else◌}
use Rattle.nb_value.specs.Function.{arity}
use Rattle.nb_value.specs.declared.function.Function.{Function}
use Rattle.nb_lexer.specs.declared.word.Word.{Word}
use Rattle.nb_lexer.specs.declared.word.Word.TheVariants as word
use Rattle.nb_grammar.specs.declared.fault.Fault.{Fault}
use Rattle.nb_grammar.specs.declared.fault.Fault.TheVariants.{Unexpected, Ended, TooDeep}
use Rattle.nb_grammar.specs.Words.{called}
use Rattle.nb_grammar.specs.Law.{counted, turn, onto}

pub data Level : Type 0 where
  primary postfix unary product sum compare and or expr : Level

-- What is wanted. A symbol that begins with more, and one behind a name, may be there for several words; need is for one word.
pub data Sym : Type 0 where
  want : Level → Sym
  arguments : ℕ → Sym
  more_steps more_factors more_summands more_compare more_and more_or more_choice : Sym
  first_item more_items first_pair more_pairs : Sym
  need_name need_key need_let need_of need_open_round need_close_round need_comma need_colon need_semicolon need_assign : Sym
  need_close_square block more_stmts more_else after_else : Sym
  body_brace brace_name body cell cell_name : Sym

-- what may follow an operand of this level and its steps
abbrev pub beyond : Level → List Sym
beyond primary = []
beyond postfix = []
beyond unary = []
beyond product = more_factors ∷ []
beyond sum = more_factors ∷ more_summands ∷ []
beyond compare = more_factors ∷ more_summands ∷ more_compare ∷ []
beyond and = more_factors ∷ more_summands ∷ more_compare ∷ more_and ∷ []
beyond or = more_factors ∷ more_summands ∷ more_compare ∷ more_and ∷ more_or ∷ []
beyond expr = more_factors ∷ more_summands ∷ more_compare ∷ more_and ∷ more_or ∷ more_choice ∷ []

abbrev pub tails : Level → List Sym
tails primary = []
tails postfix = more_steps ∷ beyond postfix
tails unary = more_steps ∷ beyond unary
tails product = more_steps ∷ beyond product
tails sum = more_steps ∷ beyond sum
tails compare = more_steps ∷ beyond compare
tails and = more_steps ∷ beyond and
tails or = more_steps ∷ beyond or
tails expr = more_steps ∷ beyond expr

-- What a word does to the top of the stack: others take its place, or these take the place of the whole stack, or the top was optional
-- and is dropped before the word is taken, or the word may not come.
pub data Move : Type 0 where
  take : List Sym → Move
  only : List Sym → Move
  skip no : Move

abbrev pub followed : Move → List Sym → Move
followed (take new) more = take (new ++ more)
followed (only new) more = only new
followed skip more = skip
followed no more = no

-- behind a name
abbrev pub behind : Option Function → List Sym → List Sym
behind None ss = ss
behind (Some f) ss = arguments (arity f) ∷ ss

-- so many more arguments
abbrev pub more_arguments : ℕ → List Sym
more_arguments zero = need_close_round ∷ []
more_arguments (suc n) = need_comma ∷ want expr ∷ more_arguments n

-- a sign before an operand
abbrev pub signed : Level → Move
signed primary = no
signed postfix = no
signed l = take (want postfix ∷ beyond l)

-- the first word of an operand
abbrev pub operand : Level → Word → Move
operand l (word.Number n) = take (tails l)
operand l (word.Quoted x) = take (tails l)
operand l word.True = take (tails l)
operand l word.False = take (tails l)
operand l word.Null = take (tails l)
operand l (word.Name x) = take (behind (called x) (tails l))
operand l word.Fetch = take (need_open_round ∷ want expr ∷ need_close_round ∷ tails l)
operand l word.OpenRound = take (want expr ∷ need_close_round ∷ tails l)
operand l word.OpenSquare = take (first_item ∷ tails l)
operand l word.OpenCurly = take (first_pair ∷ tails l)
operand l word.Minus = signed l
operand l word.Not = signed l
operand l _ = no

-- the first word of a statement
abbrev pub statement : Word → Move
statement (word.Name x) = take (need_assign ∷ want expr ∷ need_semicolon ∷ [])
statement word.Let = take (need_name ∷ need_assign ∷ want expr ∷ need_semicolon ∷ [])
statement word.If = take (need_open_round ∷ want expr ∷ need_close_round ∷ block ∷ more_else ∷ [])
statement word.While = take (need_open_round ∷ want expr ∷ need_close_round ∷ block ∷ [])
statement word.For = take (need_open_round ∷ need_let ∷ need_name ∷ need_of ∷ want expr ∷ need_close_round ∷ block ∷ [])
statement word.Yield = take (want expr ∷ need_semicolon ∷ [])
statement word.Return = take (want expr ∷ need_semicolon ∷ [])
statement word.Throw = take (want expr ∷ need_semicolon ∷ [])
statement word.Cleanup = take (want expr ∷ need_semicolon ∷ [])
statement _ = no

abbrev pub move : Sym → Word → Move
move (want l) w = operand l w
move (arguments n) word.OpenRound = take (want expr ∷ more_arguments (n - 1))
move (arguments n) _ = skip
move more_steps word.Dot = take (need_name ∷ more_steps ∷ [])
move more_steps word.OpenSquare = take (want expr ∷ need_close_square ∷ more_steps ∷ [])
move more_steps _ = skip
move more_factors word.Times = take (want unary ∷ more_factors ∷ [])
move more_factors word.Divide = take (want unary ∷ more_factors ∷ [])
move more_factors word.Remainder = take (want unary ∷ more_factors ∷ [])
move more_factors _ = skip
move more_summands word.Plus = take (want product ∷ more_summands ∷ [])
move more_summands word.Minus = take (want product ∷ more_summands ∷ [])
move more_summands _ = skip
move more_compare word.Equal = take (want sum ∷ [])
move more_compare word.NotEqual = take (want sum ∷ [])
move more_compare word.Less = take (want sum ∷ [])
move more_compare word.LessOrEqual = take (want sum ∷ [])
move more_compare word.Greater = take (want sum ∷ [])
move more_compare word.GreaterOrEqual = take (want sum ∷ [])
move more_compare _ = skip
move more_and word.And = take (want compare ∷ more_and ∷ [])
move more_and _ = skip
move more_or word.Or = take (want and ∷ more_or ∷ [])
move more_or _ = skip
move more_choice word.Question = take (want or ∷ need_colon ∷ want or ∷ [])
move more_choice _ = skip
move first_item word.CloseSquare = take []
move first_item w = followed (operand expr w) (more_items ∷ [])
move more_items word.Comma = take (want expr ∷ more_items ∷ [])
move more_items word.CloseSquare = take []
move more_items _ = no
move first_pair (word.Name x) = take (need_colon ∷ want expr ∷ more_pairs ∷ [])
move first_pair (word.Quoted x) = take (need_colon ∷ want expr ∷ more_pairs ∷ [])
move first_pair word.CloseCurly = take []
move first_pair _ = no
move more_pairs word.Comma = take (need_key ∷ need_colon ∷ want expr ∷ more_pairs ∷ [])
move more_pairs word.CloseCurly = take []
move more_pairs _ = no
move need_name (word.Name x) = take []
move need_name _ = no
move need_key (word.Name x) = take []
move need_key (word.Quoted x) = take []
move need_key _ = no
move need_let word.Let = take []
move need_let _ = no
move need_of word.Of = take []
move need_of _ = no
move need_open_round word.OpenRound = take []
move need_open_round _ = no
move need_close_round word.CloseRound = take []
move need_close_round _ = no
move need_close_square word.CloseSquare = take []
move need_close_square _ = no
move need_comma word.Comma = take []
move need_comma _ = no
move need_colon word.Colon = take []
move need_colon _ = no
move need_semicolon word.Semicolon = take []
move need_semicolon _ = no
move need_assign word.Assign = take []
move need_assign _ = no
move block word.OpenCurly = take (more_stmts ∷ [])
move block _ = no
move more_stmts word.CloseCurly = take []
move more_stmts w = followed (statement w) (more_stmts ∷ [])
move more_else word.Else = take (after_else ∷ [])
move more_else _ = skip
move after_else word.If = take (need_open_round ∷ want expr ∷ need_close_round ∷ block ∷ more_else ∷ [])
move after_else word.OpenCurly = take (more_stmts ∷ [])
move after_else _ = no
move body_brace word.CloseCurly = take (tails expr)
move body_brace (word.Name x) = take (brace_name ∷ [])
move body_brace (word.Quoted x) = take (need_colon ∷ want expr ∷ more_pairs ∷ tails expr)
move body_brace w = followed (statement w) (more_stmts ∷ [])
move brace_name word.Colon = take (want expr ∷ more_pairs ∷ tails expr)
move brace_name word.Assign = take (want expr ∷ need_semicolon ∷ more_stmts ∷ [])
move brace_name _ = no
move body word.OpenCurly = take (body_brace ∷ [])
move body w = operand expr w
move cell word.OpenCurly = take (body_brace ∷ [])
move cell (word.Name x) = take (cell_name ∷ behind (called x) (tails expr))
move cell w = operand expr w
move cell_name word.Assign = only (body ∷ [])
move cell_name _ = skip

-- what the words may end without
abbrev pub optional : Sym → Bool
optional (arguments n) = true
optional more_steps = true
optional more_factors = true
optional more_summands = true
optional more_compare = true
optional more_and = true
optional more_or = true
optional more_choice = true
optional more_else = true
optional cell_name = true
optional _ = false

abbrev pub done : List Sym → Bool
done [] = true
done (s ∷ ss) = optional s && done ss

abbrev pub moved : Move → List Sym → Option (List Sym) → Option (List Sym)
moved (take new) ss other = Some (new ++ ss)
moved (only new) ss other = Some new
moved skip ss other = other
moved no ss other = None

-- the stack behind a word, or None where the word may not come
abbrev pub feed : List Sym → Word → Option (List Sym)
feed [] w = None
feed (s ∷ ss) w = moved (move s w) ss (feed ss w)

-- the first fault, or None
abbrev pub run : List Word → ℕ → List Sym → Option Fault
run [] room ss = if done ss then None else Some Ended
run (w ∷ ws) room ss =
    onto (feed ss w) (Some (Unexpected (length (w ∷ ws))))
    (λ new. onto (counted (turn w) room) (Some (TooDeep (suc (length ws)))) (λ left. run ws left new))
