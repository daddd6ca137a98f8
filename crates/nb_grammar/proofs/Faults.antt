-- The machine stands still at the first fault, and nowhere else.
use Rattle.std.proofs.Common.{◌≡◌, ◌≤◌, ◌+◌, ℕ, zero, suc, Bool, true, false, cond, refl, sym, ap, subst, ◌∙◌, List, [], ◌∷◌, ◌++◌, length, Option, Some, None, Ok, Err, append_assoc, append-nil, arith}
use Rattle.nb_lexer.specs.declared.word.Word.{Word}
use Rattle.nb_syntax.specs.declared.tree.Cell.{Cell}
use Rattle.nb_grammar.specs.declared.fault.Fault.{Fault}
use Rattle.nb_grammar.specs.declared.fault.Fault.TheVariants.{Unexpected, Ended, TooDeep}
use Rattle.nb_grammar.specs.Reading as r
use Rattle.nb_grammar.specs.Reading.{Read, ◌>>=◌, inside_of}
use Rattle.nb_grammar.specs.Trees as trees
use Rattle.nb_grammar.specs.Law as law
use Rattle.nb_grammar.specs.Law.{Spells, Continues, IsFault, left_after, Turn, turn, counted, onto}
use Rattle.nb_grammar.specs.Machine as m
use Rattle.nb_grammar.specs.Machine.{Sym, run, feed}
use Rattle.nb_grammar.proofs.SoundStmts.{within}
use Rattle.nb_grammar.proofs.Sound.{cell_ok}
use Rattle.nb_grammar.proofs.Complete.{cell_again}
use Rattle.nb_grammar.proofs.Runs.{ends}
use Rattle.nb_grammar.proofs.RunsCell.{cell_runs}
use Rattle.nb_grammar.proofs.Finish.{finish, opens_in, finishes}
use Rattle.nb_grammar.proofs.Walk.{walk, some_is, run_walk, walk_more, walk_left, walks, Stuck, run_refused}

abbrev pub begin : List Sym
begin = m.cell ∷ []

pub accepts : (room : ℕ) (ws : List Word) → run ws room begin ≡ None → (c : Cell) × Spells room ws c
accepts room ws h = each (r.cell (inside_of room) ws) refl (sym (cell_runs room ws) ∙ h)
  where
    each : (y : Read Cell) → r.cell (inside_of room) ws ≡ y → ends y (λ x. run x.1 room []) ≡ None → (c : Cell) × Spells room ws c
    each (Err f) is n = cc
    each (Ok x) is n = all x.0 x.1 is n
      where
        all : (c : Cell) (rest : List Word) → r.cell (inside_of room) ws ≡ Ok (c, rest) → run rest room [] ≡ None → (c : Cell) × Spells room ws c
        all c [] is n = let s = cell_ok room (within room) ws (c, []) is in (c, record { way = s.way; words = s.words_are; tree_is = s.tree_is; deep = s.deep })
        all c (w ∷ rest) is n = cc

pub again : (n room : ℕ) (ws : List Word) (c : Cell) → Spells n ws c → n ≤ room → r.cell (inside_of room) ws ≡ Ok (c, [])
again n room ws c s le =
    let d : trees.cell_depth s.way ≤ room = omega (arith, s.deep) in
    ap (λ h. r.cell (inside_of room) h) (sym s.words) ∙ cell_again room s.way d ∙ ap (λ h. Ok (h, [])) s.tree_is

spelled_runs : (n room : ℕ) (ws : List Word) (c : Cell) → Spells n ws c → n ≤ room → run ws room begin ≡ None
spelled_runs n room ws c s le = cell_runs room ws ∙ ap (λ y. ends y (λ x. run x.1 room [])) (again n room ws c s le)

-- Where the machine walks, a cell goes on.
continues : (room : ℕ) (ws : List Word) (x : ℕ × List Sym) → walk ws room begin ≡ Some x → Continues ws
continues room ws x e =
    let k : ℕ = opens_in x.1 in
    let h = run_walk ws (room + k) begin (x.0 + k, x.1) (walk_more ws room begin x k e) (finish x.1) in
    let a = accepts (room + k) (ws ++ finish x.1) (h ∙ finishes x.1 (x.0 + k) (omega arith)) in
    (finish x.1, a.0, room + k, a.1)

counted_with : (t : Turn) (room k : ℕ) → (left : ℕ) × (counted t (room + suc k) ≡ Some left) × (k ≤ left)
counted_with law.opens room k = let a : room + suc k ≡ suc (room + k) = omega arith in (room + k, ap (λ h. counted law.opens h) a, omega arith)
counted_with law.closes room k = (suc (room + suc k), refl, omega arith)
counted_with law.stays room k = (room + suc k, refl, omega arith)

goes_on : (room : ℕ) (before : List Word) (w : Word) (x : ℕ × List Sym) (new : List Sym) → walk before room begin ≡ Some x → feed x.1 w ≡ Some new → Continues (before ++ w ∷ [])
goes_on room before w x new e f =
    let rest : List Word = finish new in
    let k : ℕ = suc (opens_in new) in
    let c = counted_with (turn w) x.0 (opens_in new) in
    let b : run (before ++ w ∷ rest) (room + k) begin ≡ run (w ∷ rest) (x.0 + k) x.1 = run_walk before (room + k) begin (x.0 + k, x.1) (walk_more before room begin x k e) (w ∷ rest) in
    let d : run (w ∷ rest) (x.0 + k) x.1 ≡ run rest c.0 new =
    ap (λ o. onto o (Some (Unexpected (length (w ∷ rest)))) (λ new. onto (counted (turn w) (x.0 + k)) (Some (TooDeep (suc (length rest)))) (λ left. run rest left new))) f
    ∙ ap (λ o. onto o (Some (TooDeep (suc (length rest)))) (λ left. run rest left new)) c.1 in
    let i : (before ++ w ∷ []) ++ rest ≡ before ++ w ∷ rest = append_assoc before (w ∷ []) rest in
    let a = accepts (room + k) ((before ++ w ∷ []) ++ rest) (ap (λ h. run h (room + k) begin) i ∙ b ∙ d ∙ finishes new c.0 c.2) in
    (rest, a.0, room + k, a.1)

no_more : (room : ℕ) (before : List Word) (w : Word) (x : ℕ × List Sym) → walk before room begin ≡ Some x → feed x.1 w ≡ None → Continues (before ++ w ∷ []) → ⊥
no_more room before w x e none c =
    let more : List Word = c.0 in
    let n : ℕ = c.2 in
    let a : run ((before ++ w ∷ []) ++ more) (room + n) begin ≡ None = spelled_runs n (room + n) ((before ++ w ∷ []) ++ more) c.1 c.3 (omega arith) in
    let b : run (before ++ w ∷ more) (room + n) begin ≡ run (w ∷ more) (x.0 + n) x.1 = run_walk before (room + n) begin (x.0 + n, x.1) (walk_more before room begin x n e) (w ∷ more) in
    let i : (before ++ w ∷ []) ++ more ≡ before ++ w ∷ more = append_assoc before (w ∷ []) more in
    let k : None ≡ Some (Unexpected (length (w ∷ more))) = sym a ∙ ap (λ h. run h (room + n) begin) i ∙ b ∙ run_refused w more (x.0 + n) x.1 none in
    cc

not_whole : (room : ℕ) (ws : List Word) (x : ℕ × List Sym) → walk ws room begin ≡ Some x → m.done x.1 ≡ false → (c : Cell) (any : ℕ) → Spells any ws c → ⊥
not_whole room ws x e unfinished c any s =
    let a : run ws (room + any) begin ≡ None = spelled_runs any (room + any) ws c s (omega arith) in
    let b : run (ws ++ []) (room + any) begin ≡ run [] (x.0 + any) x.1 = run_walk ws (room + any) begin (x.0 + any, x.1) (walk_more ws room begin x any e) [] in
    let d : run [] (x.0 + any) x.1 ≡ Some Ended = ap (λ b. cond b None (Some Ended)) unfinished in
    let k : None ≡ Some Ended = sym a ∙ ap (λ h. run h (room + any) begin) (sym (append-nil ws)) ∙ b ∙ d in
    cc

counted_none : (t : Turn) (room : ℕ) → counted t room ≡ None → (room ≡ 0) × (t ≡ law.opens)
counted_none law.opens zero e = (refl, refl)
counted_none law.opens (suc room) e = cc
counted_none law.closes room e = cc
counted_none law.stays room e = cc

-- Where the machine stands still is the first fault.
pub is_fault : (room : ℕ) (ws : List Word) (f : Fault) → Stuck room begin ws f → IsFault room ws f
is_fault room ws (Unexpected n) s = (s.0, s.1, s.3, continues room s.0 s.2 s.4, no_more room s.0 s.1 s.2 s.4 s.5, (s.2.0, walk_left s.0 room begin s.2 s.4))
is_fault room ws Ended s = (continues room ws s.0 s.1, not_whole room ws s.0 s.1 s.2, (s.0.0, walk_left ws room begin s.0 s.1))
is_fault room ws (TooDeep n) s =
    let z = counted_none (turn s.1) s.2.0 s.7 in
    (s.0, s.1, s.4, goes_on room s.0 s.1 s.2 s.3 s.5 s.6, walk_left s.0 room begin s.2 s.5 ∙ ap (λ h. Some h) z.0, z.1)

-- The machine walks over what a cell begins with, as far as there is room.
walks_on : (room left : ℕ) (before : List Word) → Continues before → left_after room before ≡ Some left → (x : ℕ × List Sym) × (walk before room begin ≡ Some x)
walks_on room left before c has = walks before c.0 room c.2 begin left (spelled_runs c.2 c.2 (before ++ c.0) c.1 c.3 (omega arith)) has

continues_before : (before : List Word) (w : Word) → Continues (before ++ w ∷ []) → Continues before
continues_before before w c = (w ∷ c.0, c.1, c.2, subst (λ h. Spells c.2 h c.1) (append_assoc before (w ∷ []) c.0) c.3)

-- The first fault is where the machine stands still.
pub is_stuck : (room : ℕ) (ws : List Word) (f : Fault) → IsFault room ws f → Stuck room begin ws f
is_stuck room ws (Unexpected n) s = each (feed x.0.1 w) refl
  where
    before : List Word
    before = s.0

    w : Word
    w = s.1

    x : (x : ℕ × List Sym) × (walk before room begin ≡ Some x)
    x = walks_on room s.5.0 before s.3 s.5.1

    each : (o : Option (List Sym)) → feed x.0.1 w ≡ o → Stuck room begin ws (Unexpected n)
    each None is = (before, w, x.0, s.2, x.1, is)
    each (Some new) is = absurd (s.4 (goes_on room before w x.0 new x.1 is))
is_stuck room ws Ended s = each (m.done x.0.1) refl
  where
    x : (x : ℕ × List Sym) × (walk ws room begin ≡ Some x)
    x = walks_on room s.2.0 ws s.0 s.2.1

    each : (b : Bool) → m.done x.0.1 ≡ b → Stuck room begin ws Ended
    each false is = (x.0, x.1, is)
    each true is =
        let a = accepts room ws (ap (λ h. run h room begin) (sym (append-nil ws)) ∙ run_walk ws room begin x.0 x.1 [] ∙ ap (λ b. cond b None (Some Ended)) is) in
        absurd (s.1 a.0 room a.1)
is_stuck room ws (TooDeep n) s = each (feed x.0.1 w) refl
  where
    before : List Word
    before = s.0

    w : Word
    w = s.1

    x : (x : ℕ × List Sym) × (walk before room begin ≡ Some x)
    x = walks_on room 0 before (continues_before before w s.3) s.4

    each : (o : Option (List Sym)) → feed x.0.1 w ≡ o → Stuck room begin ws (TooDeep n)
    each None is = absurd (no_more room before w x.0 x.1 is s.3)
    each (Some new) is =
        let z : x.0.0 ≡ 0 = some_is x.0.0 0 (sym (walk_left before room begin x.0 x.1) ∙ s.4) in
        (before, w, x.0, new, s.2, x.1, is, ap (λ h. counted (turn w) h) z ∙ ap (λ h. counted h 0) s.5)

-- what reading comes to, by the machine
pub whole_run : (room : ℕ) (ws : List Word) (f : Fault) → r.whole room ws ≡ Err f → run ws room begin ≡ Some f
whole_run room ws f e = cell_runs room ws ∙ each (r.cell (inside_of room) ws) e
  where
    each : (y : Read Cell) → (y >>= (λ x. r.end x.0 x.1)) ≡ Err f → ends y (λ x. run x.1 room []) ≡ Some f
    each (Err d) e = let k : d ≡ f = cc in ap (λ h. Some h) k
    each (Ok x) e = all x.0 x.1 e
      where
        all : (c : Cell) (rest : List Word) → r.end c rest ≡ Err f → run rest room [] ≡ Some f
        all c [] e = cc
        all c (w ∷ rest) e = let k : Unexpected (length (w ∷ rest)) ≡ f = cc in ap (λ h. Some h) k

pub run_whole : (room : ℕ) (ws : List Word) (f : Fault) → run ws room begin ≡ Some f → r.whole room ws ≡ Err f
run_whole room ws f e = each (r.cell (inside_of room) ws) (sym (cell_runs room ws) ∙ e)
  where
    each : (y : Read Cell) → ends y (λ x. run x.1 room []) ≡ Some f → (y >>= (λ x. r.end x.0 x.1)) ≡ Err f
    each (Err d) e = let k : d ≡ f = cc in ap (λ h. Err h) k
    each (Ok x) e = all x.0 x.1 e
      where
        all : (c : Cell) (rest : List Word) → run rest room [] ≡ Some f → r.end c rest ≡ Err f
        all c [] e = cc
        all c (w ∷ rest) e = let k : Unexpected (length (w ∷ rest)) ≡ f = cc in ap (λ h. Err h) k
