-- What a part, a word and a loop that were read tell.
use Rattle.std.proofs.Common.{◌≡◌, ◌≤◌, ℕ, zero, suc, refl, sym, ap, ◌∙◌, List, [], ◌∷◌, ◌++◌, length, Option, Some, None, Result, Ok, Err, append_assoc, append-nil}
use Rattle.nb_lexer.specs.declared.word.Word.{Word}
use Rattle.nb_lexer.specs.declared.word.Word.TheVariants as word
use Rattle.nb_grammar.specs.declared.fault.Fault.{Fault}
use Rattle.nb_grammar.specs.Reading as r
use Rattle.nb_grammar.specs.Reading.{Read, ◌>>=◌, many, rounds, onward}
use Rattle.nb_grammar.specs.Grammar as g
use Rattle.nb_grammar.specs.Trees as trees
use Rattle.nb_grammar.specs.Grammar.{KeyWay}

-- The words are these of some way to spell the value, and then the rest.
pub record Spelled {D T : Type 0} (words : D → List Word → List Word) (tree : D → T) (depth : D → ℕ) (room : ℕ) (ws : List Word) (value : T) (rest : List Word) : Type 0 where
  pub way : D
  pub words_are : words way rest ≡ ws
  pub tree_is : tree way ≡ value
  pub deep : depth way ≤ room

-- The same with equal words and an equal value.
pub respelled : {D T : Type 0} (words : D → List Word → List Word) (tree : D → T) (depth : D → ℕ) (room : ℕ) (ws more : List Word) (value other : T) (rest : List Word)
    → Spelled words tree depth room ws value rest → ws ≡ more → value ≡ other → Spelled words tree depth room more other rest
respelled words tree depth room ws more value other rest s a b = record { way = s.way; words_are = s.words_are ∙ a; tree_is = s.tree_is ∙ b; deep = s.deep }

pub bind_ok : {A B : Type 0} (m : Result A Fault) (f : A → Result B Fault) (y : B) → (m >>= f) ≡ Ok y → (x : A) × (m ≡ Ok x) × (f x ≡ Ok y)
bind_ok (Ok x) f y e = (x, refl, e)
bind_ok (Err d) f y e = cc

abbrev pub Sound : {D T : Type 0} → (List Word → Read T) → (D → List Word → List Word) → (D → T) → (D → ℕ) → ℕ → Type 0
Sound {D} {T} read words tree depth room = (ws : List Word) (x : T × List Word) → read ws ≡ Ok x → Spelled words tree depth room ws x.0 x.1

pub ok_inj : {A : Type 0} (x y : A) → (let s : Result A Fault = Ok x in s ≡ Ok y) → x ≡ y
ok_inj x y e = cc

pub first_is : {A B : Type 0} (x y : A × B) → (let s : Result (A × B) Fault = Ok x in s ≡ Ok y) → x.0 ≡ y.0
first_is x y e = ap (λ p. p.0) (ok_inj x y e)

pub second_is : {A B : Type 0} (x y : A × B) → (let s : Result (A × B) Fault = Ok x in s ≡ Ok y) → x.1 ≡ y.1
second_is x y e = ap (λ p. p.1) (ok_inj x y e)

-- the turns of a loop
abbrev pub Turns : {A : Type 0} → (List Word → Read (Option A)) → List A → List Word → List Word → Type 0
Turns next [] ws rest = ws ≡ rest
Turns next (a ∷ found) ws rest = (mid : List Word) × (next ws ≡ Ok (Some a, mid)) × Turns next found mid rest

-- What finds none takes no word.
abbrev pub Stays : {A : Type 0} → (List Word → Read (Option A)) → Type 0
Stays {A} next = (ws : List Word) (x : Option A × List Word) → next ws ≡ Ok x → x.0 ≡ None → ws ≡ x.1

abbrev pub Found : {A : Type 0} → (List Word → Read (Option A)) → List A × List Word → List A → List Word → Type 0
Found {A} next x begun from = (found : List A) × (x.0 ≡ begun ++ found) × Turns next found from x.1

pub many_ok : {A : Type 0} (next : List Word → Read (Option A)) (stays : Stays next) (n : ℕ) (done : List A) (ws : List Word) (x : List A × List Word)
    → many next n done ws ≡ Ok x → Found next x done ws
many_ok next stays zero done ws x e = ([], sym (first_is (done, ws) x e) ∙ sym (append-nil done), second_is (done, ws) x e)
many_ok {A} next stays (suc n) done ws x e = go (λ more mid. many_ok next stays n more mid x) (bind_ok (next ws) _ x e)
  where
    turn : ((more : List A) (mid : List Word) → many next n more mid ≡ Ok x → Found next x more mid)
        → (o : Option A) (mid : List Word) → next ws ≡ Ok (o, mid)
        → onward o (Ok (done, mid)) (λ a. many next n (done ++ a ∷ []) mid) ≡ Ok x
        → Found next x done ws
    turn again None mid is f = ([], sym (first_is (done, mid) x f) ∙ sym (append-nil done), stays ws (None, mid) is refl ∙ second_is (done, mid) x f)
    turn again (Some a) mid is f =
        let t = again (done ++ a ∷ []) mid f in
        (a ∷ t.0, t.1 ∙ append_assoc done (a ∷ []) t.0, (mid, is, t.2))

    go : ((more : List A) (mid : List Word) → many next n more mid ≡ Ok x → Found next x more mid)
        → (y : Option A × List Word) × (next ws ≡ Ok y) × (onward y.0 (Ok (done, y.1)) (λ a. many next n (done ++ a ∷ []) y.1) ≡ Ok x)
        → Found next x done ws
    go again b = turn again b.0.0 b.0.1 b.1 b.2

pub rounds_ok : {A : Type 0} (next : List Word → Read (Option A)) (stays : Stays next) (done : List A) (ws : List Word) (x : List A × List Word)
    → rounds next done ws ≡ Ok x → Found next x done ws
rounds_ok next stays done ws x e = many_ok next stays (suc (length ws)) done ws x e

-- single words
pub close_round_ok : (ws rest : List Word) → r.close_round ws ≡ Ok rest → word.CloseRound ∷ rest ≡ ws
close_round_ok (word.CloseRound ∷ ws) rest e = cc
close_round_ok [] rest e = cc
close_round_ok (_ ∷ ws) rest e = cc

pub close_square_ok : (ws rest : List Word) → r.close_square ws ≡ Ok rest → word.CloseSquare ∷ rest ≡ ws
close_square_ok (word.CloseSquare ∷ ws) rest e = cc
close_square_ok [] rest e = cc
close_square_ok (_ ∷ ws) rest e = cc

pub close_curly_ok : (ws rest : List Word) → r.close_curly ws ≡ Ok rest → word.CloseCurly ∷ rest ≡ ws
close_curly_ok (word.CloseCurly ∷ ws) rest e = cc
close_curly_ok [] rest e = cc
close_curly_ok (_ ∷ ws) rest e = cc

pub comma_ok : (ws rest : List Word) → r.comma ws ≡ Ok rest → word.Comma ∷ rest ≡ ws
comma_ok (word.Comma ∷ ws) rest e = cc
comma_ok [] rest e = cc
comma_ok (_ ∷ ws) rest e = cc

pub colon_ok : (ws rest : List Word) → r.colon ws ≡ Ok rest → word.Colon ∷ rest ≡ ws
colon_ok (word.Colon ∷ ws) rest e = cc
colon_ok [] rest e = cc
colon_ok (_ ∷ ws) rest e = cc

pub semicolon_ok : (ws rest : List Word) → r.semicolon ws ≡ Ok rest → word.Semicolon ∷ rest ≡ ws
semicolon_ok (word.Semicolon ∷ ws) rest e = cc
semicolon_ok [] rest e = cc
semicolon_ok (_ ∷ ws) rest e = cc

pub assign_ok : (ws rest : List Word) → r.assign ws ≡ Ok rest → word.Assign ∷ rest ≡ ws
assign_ok (word.Assign ∷ ws) rest e = cc
assign_ok [] rest e = cc
assign_ok (_ ∷ ws) rest e = cc

pub let_word_ok : (ws rest : List Word) → r.let_word ws ≡ Ok rest → word.Let ∷ rest ≡ ws
let_word_ok (word.Let ∷ ws) rest e = cc
let_word_ok [] rest e = cc
let_word_ok (_ ∷ ws) rest e = cc

pub of_word_ok : (ws rest : List Word) → r.of_word ws ≡ Ok rest → word.Of ∷ rest ≡ ws
of_word_ok (word.Of ∷ ws) rest e = cc
of_word_ok [] rest e = cc
of_word_ok (_ ∷ ws) rest e = cc

pub name_ok : (ws : List Word) (x : List ℕ × List Word) → r.name ws ≡ Ok x → word.Name x.0 ∷ x.1 ≡ ws
name_ok (word.Name n ∷ ws) x e = let a = first_is (n, ws) x e in let b = second_is (n, ws) x e in cc
name_ok [] x e = cc
name_ok (_ ∷ ws) x e = cc

pub record Keyed (ws : List Word) (x : List ℕ × List Word) : Type 0 where
  pub way : KeyWay
  pub words_are : g.key_word way ∷ x.1 ≡ ws
  pub text_is : trees.key_text way ≡ x.0

pub key_ok : (ws : List Word) (x : List ℕ × List Word) → r.key ws ≡ Ok x → Keyed ws x
key_ok (word.Name n ∷ ws) x e = let b = second_is (n, ws) x e in record { way = g.name_key n; words_are = cc; text_is = first_is (n, ws) x e }
key_ok (word.Quoted n ∷ ws) x e = let b = second_is (n, ws) x e in record { way = g.quoted_key n; words_are = cc; text_is = first_is (n, ws) x e }
key_ok [] x e = cc
key_ok (_ ∷ ws) x e = cc
