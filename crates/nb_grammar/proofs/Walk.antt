-- The machine over the first words, and where it stands still.
use Rattle.std.proofs.Common.{◌≡◌, ◌+◌, ℕ, zero, suc, Bool, true, false, cond, refl, sym, ap, subst, ◌∙◌, List, [], ◌∷◌, ◌++◌, length, Option, Some, None, append-nil, arith}
use Rattle.nb_lexer.specs.declared.word.Word.{Word}
use Rattle.nb_grammar.specs.declared.fault.Fault.{Fault}
use Rattle.nb_grammar.specs.declared.fault.Fault.TheVariants.{Unexpected, Ended, TooDeep}
use Rattle.nb_grammar.specs.Law as law
use Rattle.nb_grammar.specs.Law.{Splits, left_after, Turn, turn, counted, onto}
use Rattle.nb_grammar.specs.Machine as m
use Rattle.nb_grammar.specs.Machine.{Sym, run, feed}

-- the machine over the first words
abbrev pub walk : List Word → ℕ → List Sym → Option (ℕ × List Sym)
walk [] room ss = Some (room, ss)
walk (w ∷ ws) room ss = onto (feed ss w) None (λ new. onto (counted (turn w) room) None (λ left. walk ws left new))

pub some_is : {A : Type 0} (x y : A) → Some x ≡ Some y → x ≡ y
some_is x y e = cc

pub run_walk : (front : List Word) (room : ℕ) (ss : List Sym) (x : ℕ × List Sym) → walk front room ss ≡ Some x → (ws : List Word) → run (front ++ ws) room ss ≡ run ws x.0 x.1
run_walk [] room ss x e ws = ap (λ (y : ℕ × List Sym). run ws y.0 y.1) (some_is (room, ss) x e)
run_walk (w ∷ front) room ss x e ws = each (λ left new h. run_walk front left new x h ws) (feed ss w) (counted (turn w) room) e
  where
    each : ((left : ℕ) (new : List Sym) → walk front left new ≡ Some x → run (front ++ ws) left new ≡ run ws x.0 x.1)
        → (o : Option (List Sym)) (c : Option ℕ) → onto o None (λ new. onto c None (λ left. walk front left new)) ≡ Some x
        → onto o (Some (Unexpected (length (w ∷ (front ++ ws))))) (λ new. onto c (Some (TooDeep (suc (length (front ++ ws))))) (λ left. run (front ++ ws) left new)) ≡ run ws x.0 x.1
    each again None c e = cc
    each again (Some new) None e = cc
    each again (Some new) (Some left) e = again left new e

counted_more : (t : Turn) (room left k : ℕ) → counted t room ≡ Some left → counted t (room + k) ≡ Some (left + k)
counted_more law.opens zero left k e = cc
counted_more law.opens (suc room) left k e =
    let a : suc room + k ≡ suc (room + k) = omega arith in
    ap (λ h. counted law.opens h) a ∙ ap (λ h. Some (h + k)) (some_is room left e)
counted_more law.closes room left k e =
    let a : suc (room + k) ≡ suc room + k = omega arith in
    ap (λ h. Some h) a ∙ ap (λ h. Some (h + k)) (some_is (suc room) left e)
counted_more law.stays room left k e = ap (λ h. Some (h + k)) (some_is room left e)

-- With more room it walks to the same stack.
pub walk_more : (front : List Word) (room : ℕ) (ss : List Sym) (x : ℕ × List Sym) (k : ℕ) → walk front room ss ≡ Some x → walk front (room + k) ss ≡ Some (x.0 + k, x.1)
walk_more [] room ss x k e = ap (λ (y : ℕ × List Sym). Some (y.0 + k, y.1)) (some_is (room, ss) x e)
walk_more (w ∷ front) room ss x k e = each (λ left new h. walk_more front left new x k h) (feed ss w) (counted (turn w) room) refl e
  where
    each : ((left : ℕ) (new : List Sym) → walk front left new ≡ Some x → walk front (left + k) new ≡ Some (x.0 + k, x.1))
        → (o : Option (List Sym)) (c : Option ℕ) → counted (turn w) room ≡ c → onto o None (λ new. onto c None (λ left. walk front left new)) ≡ Some x
        → onto o None (λ new. onto (counted (turn w) (room + k)) None (λ left. walk front left new)) ≡ Some (x.0 + k, x.1)
    each again None c is e = cc
    each again (Some new) None is e = cc
    each again (Some new) (Some left) is e = ap (λ h. onto h None (λ left. walk front left new)) (counted_more (turn w) room left k is) ∙ again left new e

pub walk_left : (front : List Word) (room : ℕ) (ss : List Sym) (x : ℕ × List Sym) → walk front room ss ≡ Some x → left_after room front ≡ Some x.0
walk_left [] room ss x e = ap (λ (y : ℕ × List Sym). Some y.0) (some_is (room, ss) x e)
walk_left (w ∷ front) room ss x e = each (λ left new h. walk_left front left new x h) (feed ss w) (counted (turn w) room) e
  where
    each : ((left : ℕ) (new : List Sym) → walk front left new ≡ Some x → left_after left front ≡ Some x.0)
        → (o : Option (List Sym)) (c : Option ℕ) → onto o None (λ new. onto c None (λ left. walk front left new)) ≡ Some x
        → onto c None (λ left. left_after left front) ≡ Some x.0
    each again None c e = cc
    each again (Some new) None e = cc
    each again (Some new) (Some left) e = again left new e

-- Where the machine takes words with any room, it walks over the first of them where these have room.
pub walks : (front ws : List Word) (room any : ℕ) (ss : List Sym) (left : ℕ) → run (front ++ ws) any ss ≡ None → left_after room front ≡ Some left
    → (x : ℕ × List Sym) × (walk front room ss ≡ Some x)
walks [] ws room any ss left e h = ((room, ss), refl)
walks (w ∷ front) ws room any ss left e h =
    each (λ rest other new g i. walks front ws rest other new left g i) (feed ss w) (counted (turn w) any) (counted (turn w) room) e h
  where
    each : ((rest other : ℕ) (new : List Sym) → run (front ++ ws) other new ≡ None → left_after rest front ≡ Some left → (x : ℕ × List Sym) × (walk front rest new ≡ Some x))
        → (o : Option (List Sym)) (c d : Option ℕ)
        → onto o (Some (Unexpected (length (w ∷ (front ++ ws))))) (λ new. onto c (Some (TooDeep (suc (length (front ++ ws))))) (λ left. run (front ++ ws) left new)) ≡ None
        → onto d None (λ rest. left_after rest front) ≡ Some left
        → (x : ℕ × List Sym) × (onto o None (λ new. onto d None (λ left. walk front left new)) ≡ Some x)
    each again None c d e h = cc
    each again (Some new) None d e h = cc
    each again (Some new) (Some other) None e h = cc
    each again (Some new) (Some other) (Some rest) e h = again rest other new e h

-- where the machine stands still
abbrev pub Stuck : ℕ → List Sym → List Word → Fault → Type 0
Stuck room ss ws (Unexpected n) = (before : List Word) × (w : Word) × (x : ℕ × List Sym) × Splits ws before w n × (walk before room ss ≡ Some x) × (feed x.1 w ≡ None)
Stuck room ss ws Ended = (x : ℕ × List Sym) × (walk ws room ss ≡ Some x) × (m.done x.1 ≡ false)
Stuck room ss ws (TooDeep n) = (before : List Word) × (w : Word) × (x : ℕ × List Sym) × (new : List Sym) × Splits ws before w n × (walk before room ss ≡ Some x) × (feed x.1 w ≡ Some new) × (counted (turn w) x.0 ≡ None)

walk_next : (w : Word) (front : List Word) (room left : ℕ) (ss new : List Sym) → feed ss w ≡ Some new → counted (turn w) room ≡ Some left → walk (w ∷ front) room ss ≡ walk front left new
walk_next w front room left ss new e f =
    ap (λ o. onto o None (λ new. onto (counted (turn w) room) None (λ left. walk front left new))) e
    ∙ ap (λ c. onto c None (λ left. walk front left new)) f

splits_next : (w v : Word) (ws before : List Word) (n : ℕ) → Splits ws before v n → Splits (w ∷ ws) (w ∷ before) v n
splits_next w v ws before n s = record { after = s.after; words = ap (λ h. w ∷ h) s.words; left = s.left }

stuck_next : (w : Word) (ws : List Word) (room left : ℕ) (ss new : List Sym) (f : Fault) → feed ss w ≡ Some new → counted (turn w) room ≡ Some left
    → Stuck left new ws f → Stuck room ss (w ∷ ws) f
stuck_next w ws room left ss new (Unexpected n) e c s =
    (w ∷ s.0, s.1, s.2, splits_next w s.1 ws s.0 n s.3, walk_next w s.0 room left ss new e c ∙ s.4, s.5)
stuck_next w ws room left ss new Ended e c s = (s.0, walk_next w ws room left ss new e c ∙ s.1, s.2)
stuck_next w ws room left ss new (TooDeep n) e c s =
    (w ∷ s.0, s.1, s.2, s.3, splits_next w s.1 ws s.0 n s.4, walk_next w s.0 room left ss new e c ∙ s.5, s.6, s.7)

pub run_stuck : (ws : List Word) (room : ℕ) (ss : List Sym) (f : Fault) → run ws room ss ≡ Some f → Stuck room ss ws f
run_stuck [] room ss f e = each (m.done ss) refl e
  where
    each : (b : Bool) → m.done ss ≡ b → cond b None (Some Ended) ≡ Some f → Stuck room ss [] f
    each true is e = cc
    each false is e = subst (λ g. Stuck room ss [] g) (some_is Ended f e) ((room, ss), refl, is)
run_stuck (w ∷ ws) room ss f e = each (λ left new h. run_stuck ws left new f h) (feed ss w) (counted (turn w) room) refl refl e
  where
    each : ((left : ℕ) (new : List Sym) → run ws left new ≡ Some f → Stuck left new ws f)
        → (o : Option (List Sym)) (c : Option ℕ) → feed ss w ≡ o → counted (turn w) room ≡ c
        → onto o (Some (Unexpected (length (w ∷ ws)))) (λ new. onto c (Some (TooDeep (suc (length ws)))) (λ left. run ws left new)) ≡ Some f → Stuck room ss (w ∷ ws) f
    each again None c is at e =
        subst (λ g. Stuck room ss (w ∷ ws) g) (some_is (Unexpected (length (w ∷ ws))) f e)
        ([], w, (room, ss), record { after = ws; words = refl; left = refl }, refl, is)
    each again (Some new) None is at e =
        subst (λ g. Stuck room ss (w ∷ ws) g) (some_is (TooDeep (suc (length ws))) f e)
        ([], w, (room, ss), new, record { after = ws; words = refl; left = refl }, refl, is, at)
    each again (Some new) (Some left) is at e = stuck_next w ws room left ss new f is at (again left new e)

pub run_refused : (w : Word) (ws : List Word) (room : ℕ) (ss : List Sym) → feed ss w ≡ None → run (w ∷ ws) room ss ≡ Some (Unexpected (length (w ∷ ws)))
run_refused w ws room ss none =
    ap (λ o. onto o (Some (Unexpected (length (w ∷ ws)))) (λ new. onto (counted (turn w) room) (Some (TooDeep (suc (length ws)))) (λ left. run ws left new))) none

pub run_deep : (w : Word) (ws : List Word) (room : ℕ) (ss new : List Sym) → feed ss w ≡ Some new → counted (turn w) room ≡ None → run (w ∷ ws) room ss ≡ Some (TooDeep (length (w ∷ ws)))
run_deep w ws room ss new e c =
    ap (λ o. onto o (Some (Unexpected (length (w ∷ ws)))) (λ new. onto (counted (turn w) room) (Some (TooDeep (suc (length ws)))) (λ left. run ws left new))) e
    ∙ ap (λ o. onto o (Some (TooDeep (suc (length ws)))) (λ left. run ws left new)) c

-- The machine stands still at one fault.
pub stuck_run : (ws : List Word) (room : ℕ) (ss : List Sym) (f : Fault) → Stuck room ss ws f → run ws room ss ≡ Some f
stuck_run ws room ss (Unexpected n) s =
    let w : Word = s.1 in
    let rest : List Word = s.3.after in
    ap (λ h. run h room ss) s.3.words ∙ run_walk s.0 room ss s.2 s.4 (w ∷ rest) ∙ run_refused w rest s.2.0 s.2.1 s.5 ∙ ap (λ h. Some (Unexpected h)) (sym s.3.left)
stuck_run ws room ss Ended s =
    ap (λ h. run h room ss) (sym (append-nil ws)) ∙ run_walk ws room ss s.0 s.1 [] ∙ ap (λ b. cond b None (Some Ended)) s.2
stuck_run ws room ss (TooDeep n) s =
    let w : Word = s.1 in
    let rest : List Word = s.4.after in
    ap (λ h. run h room ss) s.4.words ∙ run_walk s.0 room ss s.2 s.5 (w ∷ rest) ∙ run_deep w rest s.2.0 s.2.1 s.3 s.6 s.7 ∙ ap (λ h. Some (TooDeep h)) (sym s.4.left)
