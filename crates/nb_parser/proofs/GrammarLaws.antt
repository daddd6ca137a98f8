-- Words have at most one first fault, and none where they spell a cell.
use Rattle.std.proofs.Common.{ℕ, ◌≡◌, List, Result, Ok, Err}
use Rattle.nb_lexer.specs.declared.word.Word.{Word}
use Rattle.nb_syntax.specs.declared.tree.Cell.{Cell}
use Rattle.nb_grammar.specs.declared.fault.Fault.{Fault}
use Rattle.nb_grammar.specs.Law.{Spells, IsFault}
use Rattle.nb_grammar.proofs.Viable.{one_result}

err_same : (e f : Fault) → (let r : Result Cell Fault = Err e in r ≡ Err f) → e ≡ f
err_same e f h = cc

ok_err : (c : Cell) (f : Fault) → (let r : Result Cell Fault = Ok c in r ≡ Err f) → ⊥
ok_err c f h = cc

pub one_fault : (room : ℕ) (ws : List Word) (e f : Fault) → IsFault room ws e → IsFault room ws f → e ≡ f
one_fault room ws e f p q = err_same e f (one_result room ws (Err e) (Err f) p q)

pub no_fault : (room : ℕ) (ws : List Word) (c : Cell) (f : Fault) → Spells room ws c → IsFault room ws f → ⊥
no_fault room ws c f p q = ok_err c f (one_result room ws (Ok c) (Err f) p q)
