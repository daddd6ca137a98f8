-- One token, by what is found at the front.
use Rattle.std.proofs.Common.{◌≡◌, ◌<◌, ◌+◌, ◌-◌, ℕ, false, List, length, drop, Result, Ok, Err, IfErr, sym, ap, subst, ◌∙◌, length-append, arith}
use Rattle.std.proofs.lemmas.List.{drop_at}
use Rattle.std.proofs.lemmas.Result.{err_from_is_err_and}
use Rattle.std.specs.Result.{IsErrAnd}
use Rattle.std.specs.Str.{IsUtf8}
use Rattle.nb_lexer.specs.declared.word.Word.{Word}
use Rattle.nb_lexer.specs.declared.token.Token.{Token}
use Rattle.nb_lexer.specs.declared.token.TokenKind.{TokenKind}
use Rattle.nb_lexer.specs.declared.fault.LexError.{LexError}
use Rattle.nb_lexer.specs.declared.fault.LexError.TheVariants.{BadCharacter, OpenText, BadEscape, TooWide, Memory}
use Rattle.nb_lexer.specs.Characters.{is_gap, begins}
use Rattle.nb_lexer.specs.Words.{kind_of}
use Rattle.nb_lexer.specs.Scan.{Found, front, kind_found, Gives, Stands, FaultsAt}
use Rattle.nb_lexer.proofs.Spelled.{spelling_some, spelling_cut}
use Rattle.nb_lexer.proofs.Sound.{Spelled, IsRight, front_right}

pub stands : (at : ℕ) (text : List ℕ) (w : Word) (kind : TokenKind) (end : ℕ) → kind_of w ≡ kind → IsUtf8 text → Spelled at text w end → Stands at text (record { kind = kind; start = at; end = end })
stands at text w kind end is u h =
    let some : 0 < length h.spelling = spelling_some w h.spelling h.spells in
    let len : length text ≡ length h.spelling + length h.behind = ap length h.text_is ∙ length-append h.spelling h.behind in
    let end_is = h.end_is in
    let taken : length h.spelling ≡ end - at = omega arith in
    record {
      word = w;
      behind = h.behind;
      takes = record { spelling = h.spelling; spells = h.spells; ends = h.ends; text_is = h.text_is; end_is = h.end_is };
      token_is = ap (λ k. let t : Token = record { kind = k; start = at; end = end } in t) (sym is);
      behind_is = ap (drop (end - at)) h.text_is ∙ drop_at h.spelling h.behind (end - at) taken;
      further = omega arith;
      within = omega arith;
      utf8 = spelling_cut w h.spelling h.behind h.spells (subst IsUtf8 h.text_is u);
    }

pub token_stands : (at : ℕ) (text : List ℕ) (kind : TokenKind) (end : ℕ) → IsUtf8 text → 0 < length text → begins is_gap text ≡ false → kind_found (front at text) ≡ Ok (kind, end)
    → Stands at text (record { kind = kind; start = at; end = end })
token_stands at text kind end u some clear e = go (front at text) (front_right at text clear some) e
  where
    go : (found : Found Word) → IsRight at text found → kind_found found ≡ Ok (kind, end) → Stands at text (record { kind = kind; start = at; end = end })
    go (Ok x) h e =
        let same : ◌≡◌ {A = TokenKind × ℕ} (kind_of x.0, x.1) (kind, end) = cc in
        stands at text x.0 kind end (ap (λ p. p.0) same) u (subst (Spelled at text x.0) (ap (λ p. p.1) same) h)
    go (Err f) h e = cc

kind_err : (found : Found Word) (e : LexError) → kind_found found ≡ Err e → found ≡ Err e
kind_err (Ok x) e h = cc
kind_err (Err f) e h = let same : f ≡ e = cc in ap (λ g. let r : Found Word = Err g in r) same

right_fault : (at : ℕ) (text : List ℕ) (e : LexError) → 0 < length text → begins is_gap text ≡ false → kind_found (front at text) ≡ Err e → IsRight at text (Err e)
right_fault at text e some clear h = subst (IsRight at text) (kind_err (front at text) e h) (front_right at text clear some)

pub token_faults : (at : ℕ) (text : List ℕ) (e : LexError) → 0 < length text → begins is_gap text ≡ false
    → (let r : Result (TokenKind × ℕ) LexError = Err e in Gives r (kind_found (front at text))) → FaultsAt at text e
token_faults at text (BadCharacter place) some clear h = right_fault at text (BadCharacter place) some clear h
token_faults at text (OpenText place) some clear h = right_fault at text (OpenText place) some clear h
token_faults at text (BadEscape place) some clear h = right_fault at text (BadEscape place) some clear h
token_faults at text (TooWide place) some clear h = right_fault at text (TooWide place) some clear h
token_faults at text Memory some clear h = tt

-- what a `?` hands on
pub handed : {A : Type 0} (P : LexError → Type 0) (r : Result A LexError) (e : LexError) → IsErrAnd r (λ y. y ≡ e) → P e → IfErr r P
handed P r e is h = let p = err_from_is_err_and r is in subst (λ s. IfErr s P) (sym p.1) (subst P (sym p.2) h)
