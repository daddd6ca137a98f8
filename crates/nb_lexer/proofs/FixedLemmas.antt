-- Keywords and signs: what is looked up is what is spelled.
use Rattle.std.proofs.Common.{◌≡◌, ◌+◌, ℕ, Bool, true, false, cond, nat_eq, List, [], ◌∷◌, ◌++◌, length, take, drop, Option, Some, None, Ok, Err, option_map, unwrap_or, refl, sym, ap, subst, ◌∙◌}
use Rattle.std.proofs.lemmas.List.{take-append-drop}
use Rattle.std.specs.Cmp.Lexicographic.{same_text}
use Rattle.std.specs.List.{find, starts_with, AllByRecursion}
use Rattle.std.specs.Str.{bytes_eq}
use Rattle.nb_lexer.specs.declared.word.Word.{Word}
use Rattle.nb_lexer.specs.declared.word.Word.TheVariants as word
use Rattle.nb_lexer.specs.declared.token.TokenKind.{TokenKind}
use Rattle.nb_lexer.specs.declared.token.TokenKind.TheVariants as kind
use Rattle.nb_lexer.specs.declared.fault.LexError.TheVariants.{BadCharacter}
use Rattle.nb_lexer.specs.Characters.{is_in_name}
use Rattle.nb_lexer.specs.Words.{fixed_text, keywords, signs, keyword, sign, kind_of}
use Rattle.nb_lexer.specs.Spelling.{Spells, goes_on}
use Rattle.nb_lexer.specs.Scan.{Found, name_word, sign_or_stray, kind_found}

-- ---- what is found passes

find_passes : {X : Type 0} (p : X → Bool) (xs : List X) (x : X) → find p xs ≡ Some x → p x ≡ true
find_passes p [] x e = cc
find_passes {X} p (y ∷ ys) x e = go (p y) refl e (find_passes p ys x)
  where
    go : (b : Bool) → p y ≡ b → cond b (Some y) (find p ys) ≡ Some x → (find p ys ≡ Some x → p x ≡ true) → p x ≡ true
    go true is e again = let same : y ≡ x = cc in ap p (sym same) ∙ is
    go false is e again = again e

find_holds : {X : Type 0} (Q : X → Type 0) (p : X → Bool) (xs : List X) (x : X) → AllByRecursion Q xs → find p xs ≡ Some x → Q x
find_holds Q p [] x all e = cc
find_holds {X} Q p (y ∷ ys) x all e = go (p y) e (find_holds Q p ys x all.1)
  where
    go : (b : Bool) → cond b (Some y) (find p ys) ≡ Some x → (find p ys ≡ Some x → Q x) → Q x
    go true e again = let same : y ≡ x = cc in subst Q same all.0
    go false e again = again e

-- ---- keywords

abbrev IsKeyword : Word → Type 0
IsKeyword w = kind_of w ≡ kind.Keyword

pub keyword_kind : (s : List ℕ) (w : Word) → keyword s ≡ Some w → kind_of w ≡ kind.Keyword
unfolding keyword
keyword_kind s w e = find_holds IsKeyword (λ v. bytes_eq s (fixed_text v)) keywords w all e
  where
    all : AllByRecursion IsKeyword keywords
    all = search

pub keyword_text : (s : List ℕ) (w : Word) → keyword s ≡ Some w → s ≡ fixed_text w
unfolding keyword
keyword_text s w e = same_text s (fixed_text w) (sym (find_passes (λ v. bytes_eq s (fixed_text v)) keywords w e))

pub keyword_of : (w : Word) → kind_of w ≡ kind.Keyword → keyword (fixed_text w) ≡ Some w
unfolding keyword
keyword_of word.Let e = refl
keyword_of word.If e = refl
keyword_of word.Else e = refl
keyword_of word.While e = refl
keyword_of word.For e = refl
keyword_of word.Of e = refl
keyword_of word.Yield e = refl
keyword_of word.Return e = refl
keyword_of word.Throw e = refl
keyword_of word.Cleanup e = refl
keyword_of word.Fetch e = refl
keyword_of word.True e = refl
keyword_of word.False e = refl
keyword_of word.Null e = refl
keyword_of _ e = cc

pub keyword_spells : (w : Word) → kind_of w ≡ kind.Keyword → Spells w (fixed_text w)
keyword_spells (word.Name x) e = cc
keyword_spells (word.Number n) e = cc
keyword_spells (word.Quoted x) e = cc
keyword_spells _ e = refl

pub keyword_goes_on : (w : Word) → kind_of w ≡ kind.Keyword → (b : ℕ) → goes_on w b ≡ is_in_name b
keyword_goes_on word.Let e b = refl
keyword_goes_on word.If e b = refl
keyword_goes_on word.Else e b = refl
keyword_goes_on word.While e b = refl
keyword_goes_on word.For e b = refl
keyword_goes_on word.Of e b = refl
keyword_goes_on word.Yield e b = refl
keyword_goes_on word.Return e b = refl
keyword_goes_on word.Throw e b = refl
keyword_goes_on word.Cleanup e b = refl
keyword_goes_on word.Fetch e b = refl
keyword_goes_on word.True e b = refl
keyword_goes_on word.False e b = refl
keyword_goes_on word.Null e b = refl
keyword_goes_on _ e b = cc

-- ---- signs

abbrev IsSign : Word → Type 0
IsSign w = kind_of w ≡ kind.Sign

pub sign_kind : (text : List ℕ) (w : Word) → sign text ≡ Some w → kind_of w ≡ kind.Sign
unfolding sign
sign_kind text w e = find_holds IsSign (λ v. starts_with nat_eq text (fixed_text v)) signs w all e
  where
    all : AllByRecursion IsSign signs
    all = search

pub sign_text : (text : List ℕ) (w : Word) → sign text ≡ Some w → text ≡ fixed_text w ++ drop (length (fixed_text w)) text
unfolding sign
sign_text text w e =
    let n = length (fixed_text w) in
    let front : fixed_text w ≡ take n text = same_text (fixed_text w) (take n text) (sym (find_passes (λ v. starts_with nat_eq text (fixed_text v)) signs w e)) in
    sym (take-append-drop n text) ∙ ap (λ t. t ++ drop n text) (sym front)

pub sign_spells : (w : Word) → kind_of w ≡ kind.Sign → Spells w (fixed_text w)
sign_spells (word.Name x) e = cc
sign_spells (word.Number n) e = cc
sign_spells (word.Quoted x) e = cc
sign_spells _ e = refl

-- ---- what the code answers

pub name_kind_some : (x : List ℕ) (w : Word) → keyword x ≡ Some w → kind_of (name_word x) ≡ kind.Keyword
name_kind_some x w e = ap (λ o. kind_of (unwrap_or o (word.Name x))) e ∙ keyword_kind x w e

pub name_kind_none : (x : List ℕ) → keyword x ≡ None → kind_of (name_word x) ≡ kind.Name
name_kind_none x e = ap (λ o. kind_of (unwrap_or o (word.Name x))) e

abbrev measured : Option Word → Option (Word × ℕ)
measured o = option_map (λ w. (w, length (fixed_text w))) o

pub sign_found : (at len : ℕ) (text : List ℕ) (w : Word) (o : Option (Word × ℕ)) → o ≡ Some (w, len) → o ≡ measured (sign text) → kind_found (sign_or_stray at (sign text)) ≡ Ok (kind.Sign, at + len)
sign_found at len text w o is e = go (sign text) refl (sym is ∙ e)
  where
    go : (s : Option Word) → sign text ≡ s → Some (w, len) ≡ measured s → kind_found (sign_or_stray at s) ≡ Ok (kind.Sign, at + len)
    go None f g = cc
    go (Some v) f g =
        let same : ◌≡◌ {A = Word × ℕ} (w, len) (v, length (fixed_text v)) = cc in
        ap (λ k. let r : Found TokenKind = Ok (k, at + length (fixed_text v)) in r) (sign_kind text v f)
        ∙ ap (λ n. let r : Found TokenKind = Ok (kind.Sign, at + n) in r) (ap (λ p. p.1) (sym same))

pub sign_missing : (at : ℕ) (text : List ℕ) (o : Option (Word × ℕ)) → o ≡ None → o ≡ measured (sign text) → kind_found (sign_or_stray at (sign text)) ≡ Err (BadCharacter at)
sign_missing at text o is e = go (sign text) (sym is ∙ e)
  where
    go : (s : Option Word) → None ≡ measured s → kind_found (sign_or_stray at s) ≡ Err (BadCharacter at)
    go None g = refl
    go (Some v) g = cc
