-- Reading, spelling and faults.
use Rattle.std.proofs.Common.{◌≡◌, ◌+◌, ℕ, refl, sym, ap, subst, ◌∙◌, List, [], ◌∷◌, Result, Ok, Err, arith}
use Rattle.nb_lexer.specs.declared.word.Word.{Word}
use Rattle.nb_syntax.specs.declared.tree.Cell.{Cell}
use Rattle.nb_grammar.specs.declared.fault.Fault.{Fault}
use Rattle.nb_grammar.specs.declared.fault.Stop.{Stop}
use Rattle.nb_grammar.specs.declared.fault.Stop.TheVariants as stops
use Rattle.nb_grammar.specs.Reading as r
use Rattle.nb_grammar.specs.Reading.{◌>>=◌, inside_of, Gives}
use Rattle.nb_grammar.specs.Law.{Spells, Comes, IsRead}
use Rattle.nb_grammar.proofs.Turns.{bind_ok, first_is}
use Rattle.nb_grammar.proofs.SoundStmts.{within}
use Rattle.nb_grammar.proofs.Sound.{cell_ok}
use Rattle.nb_grammar.proofs.Walk.{run_stuck, stuck_run}
use Rattle.nb_grammar.proofs.Faults.{begin, again, is_fault, is_stuck, whole_run, run_whole}

-- What reading comes to, the words are.
pub parsed : (room : ℕ) (ws : List Word) → IsRead room ws (r.whole room ws)
parsed room ws = each (r.whole room ws) refl
  where
    each : (y : Result Cell Fault) → r.whole room ws ≡ y → IsRead room ws y
    each (Err f) e = is_fault room ws f (run_stuck ws room begin f (whole_run room ws f e))
    each (Ok c) e =
        let a = bind_ok (r.cell (inside_of room) ws) (λ x. r.end x.0 x.1) c e in
        all a.0.0 a.0.1 a.1 a.2
      where
        all : (d : Cell) (rest : List Word) → r.cell (inside_of room) ws ≡ Ok (d, rest) → r.end d rest ≡ Ok c → Spells room ws c
        all d [] is end =
            let s = cell_ok room (within room) ws (d, []) is in
            let k : d ≡ c = cc in
            record { way = s.way; words = s.words_are; tree_is = s.tree_is ∙ k; deep = s.deep }
        all d (w ∷ rest) is end = cc

-- What the words are, reading comes to.
pub only : (room : ℕ) (ws : List Word) (y : Result Cell Fault) → IsRead room ws y → r.whole room ws ≡ y
only room ws (Ok c) s = ap (λ y. y >>= (λ x. r.end x.0 x.1)) (again room room ws c s (omega arith))
only room ws (Err f) s = run_whole room ws f (stuck_run ws room begin f (is_stuck room ws f s))

-- Words spell at most one cell.
pub one : (n k : ℕ) (ws : List Word) (c d : Cell) → Spells n ws c → Spells k ws d → c ≡ d
one n k ws c d s t =
    let a = again n (n + k) ws c s (omega arith) in
    let b = again k (n + k) ws d t (omega arith) in
    first_is (c, []) (d, []) (sym a ∙ b)

-- Words spell a cell or have one first fault, and not both.
pub one_result : (room : ℕ) (ws : List Word) (y z : Result Cell Fault) → IsRead room ws y → IsRead room ws z → y ≡ z
one_result room ws y z s t = sym (only room ws y s) ∙ only room ws z t

-- Code that gives what reading comes to answers what the words are, and nothing else.
pub comes : (room : ℕ) (ws : List Word) (result : Result Cell Stop) → Gives (λ c. c) result (r.whole room ws) → Comes room ws result
comes room ws (Ok c) given = subst (λ y. IsRead room ws y) given (parsed room ws)
comes room ws (Err stops.Memory) given = tt
comes room ws (Err (stops.Fault f)) given = subst (λ y. IsRead room ws y) given (parsed room ws)

pub gives_only : (room : ℕ) (ws : List Word) (result : Result Cell Stop) → Gives (λ c. c) result (r.whole room ws)
    → (y : Result Cell Fault) → IsRead room ws y → Gives (λ c. c) result y
gives_only room ws result given y s = subst (λ z. Gives (λ c. c) result z) (only room ws y s) given
