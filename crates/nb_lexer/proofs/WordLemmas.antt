-- The words of tokens.
use Rattle.std.proofs.Common.{◌≡◌, ◌+◌, ◌<◌, ◌≤◌, ℕ, List, [], ◌∷◌, ◌++◌, length, take, get_or, All, map, Option, Some, IsSome, is_some, option_map, Result, Ok, Err, IfOk, refl, sym, ap, subst, ◌∙◌, append-nil, arith}
use Rattle.std.proofs.lemmas.List.{take_more, take_all}
use Rattle.std.specs.List.{slice_range}
use Rattle.std.specs.Str.{IsUtf8}
use Rattle.nb_lexer.specs.declared.word.Word.{Word}
use Rattle.nb_lexer.specs.declared.token.Token.{Token}
use Rattle.nb_lexer.specs.declared.token.TokenKind.TheVariants as kind
use Rattle.nb_lexer.specs.Words.{fixed_text, keyword, sign, kind_of}
use Rattle.nb_lexer.specs.Spelling.{Spells}
use Rattle.nb_lexer.specs.Lexes.{Placed, word_of, token_of, Leads, Reads, AreTokens, IsSpan}
use Rattle.nb_lexer.specs.Scan.{front}
use Rattle.nb_lexer.proofs.FixedLemmas.{keyword_of}
use Rattle.nb_lexer.proofs.Cases.{Case, a_name, a_number, a_text, a_keyword, a_sign, case_of}
use Rattle.nb_lexer.proofs.Complete.{front_complete, sign_of}
use Rattle.nb_lexer.proofs.Spans.{IsRest, skips_rest, takes_rest, takes_slice, tokens_spans}

pub if_ok : {T E : Type 0} (P Q : T → Type 0) (r : Result T E) → ((x : T) → P x → Q x) → IfOk r P → IfOk r Q
if_ok P Q (Ok x) f h = f x h
if_ok P Q (Err e) f h = tt

-- ---- one word

-- a text spells one word
pub word_same : (w v : Word) (s : List ℕ) → Spells w s → Spells v s → w ≡ v
word_same w v s h k =
    let one : front 0 (s ++ []) ≡ Ok (w, 0 + length s) = front_complete 0 w s [] h refl in
    let two : front 0 (s ++ []) ≡ Ok (v, 0 + length s) = front_complete 0 v s [] k refl in
    let both : ◌≡◌ {A = Word × ℕ} (w, 0 + length s) (v, 0 + length s) = cc in
    ap (λ p. p.0) both

keyword_again : (w : Word) (s : List ℕ) → kind_of w ≡ kind.Keyword → Spells w s → keyword s ≡ Some w
keyword_again w s k h = go (case_of w s h)
  where
    go : Case w s → keyword s ≡ Some w
    go (a_name x is same e) = let clash : kind.Name ≡ kind.Keyword = sym (ap kind_of is) ∙ k in cc
    go (a_number n is e) = let clash : kind.Number n ≡ kind.Keyword = sym (ap kind_of is) ∙ k in cc
    go (a_text x is e) = let clash : kind.Quoted x ≡ kind.Keyword = sym (ap kind_of is) ∙ k in cc
    go (a_keyword l same) = ap keyword same ∙ keyword_of w l
    go (a_sign l same) = let clash : kind.Sign ≡ kind.Keyword = sym l ∙ k in cc

sign_again : (w : Word) (s : List ℕ) → kind_of w ≡ kind.Sign → Spells w s → sign s ≡ Some w
sign_again w s k h = go (case_of w s h)
  where
    go : Case w s → sign s ≡ Some w
    go (a_name x is same e) = let clash : kind.Name ≡ kind.Sign = sym (ap kind_of is) ∙ k in cc
    go (a_number n is e) = let clash : kind.Number n ≡ kind.Sign = sym (ap kind_of is) ∙ k in cc
    go (a_text x is e) = let clash : kind.Quoted x ≡ kind.Sign = sym (ap kind_of is) ∙ k in cc
    go (a_keyword l same) = let clash : kind.Keyword ≡ kind.Sign = sym l ∙ k in cc
    go (a_sign l same) = ap sign (same ∙ sym (append-nil (fixed_text w))) ∙ sign_of w l [] refl

-- what the spelling of a keyword or a sign is looked up as
found_keyword : (text s : List ℕ) (t : Token) (o : Option Word) → IsSpan text t → t.kind ≡ kind.Keyword → s ≡ slice_range text t.start t.end → o ≡ keyword s → (w : Word) × (o ≡ Some w) × Spells w (slice_range text t.start t.end)
found_keyword text s t o h k is looked = (h.word, looked ∙ ap keyword is ∙ keyword_again h.word _ (h.kind_is ∙ k) h.spells, h.spells)

found_sign : (text s : List ℕ) (t : Token) (o : Option (Word × ℕ)) → IsSpan text t → t.kind ≡ kind.Sign → s ≡ slice_range text t.start t.end → o ≡ option_map (λ w. (w, length (fixed_text w))) (sign s)
    → (w : Word) × (o ≡ Some (w, length (fixed_text w))) × Spells w (slice_range text t.start t.end)
found_sign text s t o h k is looked =
    (h.word, looked ∙ ap (λ x. option_map (λ w. (w, length (fixed_text w))) x) (ap sign is ∙ sign_again h.word _ (h.kind_is ∙ k) h.spells), h.spells)

pub keyword_some : (text s : List ℕ) (t : Token) (o : Option Word) → IsSpan text t → t.kind ≡ kind.Keyword → s ≡ slice_range text t.start t.end → o ≡ keyword s → IsSome o
keyword_some text s t o h k is looked = ap is_some (found_keyword text s t o h k is looked).1

pub sign_some : (text s : List ℕ) (t : Token) (o : Option (Word × ℕ)) → IsSpan text t → t.kind ≡ kind.Sign → s ≡ slice_range text t.start t.end → o ≡ option_map (λ w. (w, length (fixed_text w))) (sign s) → IsSome o
sign_some text s t o h k is looked = ap is_some (found_sign text s t o h k is looked).1

pub keyword_spelled : (text s : List ℕ) (t : Token) (o : Option Word) (w : Word) → IsSpan text t → t.kind ≡ kind.Keyword → s ≡ slice_range text t.start t.end → o ≡ keyword s → o ≡ Some w
    → Spells w (slice_range text t.start t.end)
keyword_spelled text s t o w h k is looked found =
    let f = found_keyword text s t o h k is looked in
    let first : o ≡ Some f.0 = f.1 in
    let same : f.0 ≡ w = cc in
    subst (λ v. Spells v (slice_range text t.start t.end)) same f.2

pub sign_spelled : (text s : List ℕ) (t : Token) (o : Option (Word × ℕ)) (x : Word × ℕ) → IsSpan text t → t.kind ≡ kind.Sign → s ≡ slice_range text t.start t.end
    → o ≡ option_map (λ w. (w, length (fixed_text w))) (sign s) → o ≡ Some x → Spells x.0 (slice_range text t.start t.end)
sign_spelled text s t o x h k is looked found =
    let f = found_sign text s t o h k is looked in
    let first : o ≡ Some (f.0, length (fixed_text f.0)) = f.1 in
    let same : ◌≡◌ {A = Word × ℕ} (f.0, length (fixed_text f.0)) x = cc in
    subst (λ v. Spells v (slice_range text t.start t.end)) (ap (λ p. p.0) same) f.2

-- ---- all words

-- each word is spelled by its token's part of the text
abbrev pub Worded : List ℕ → List Token → List Word → Type 0
Worded text [] [] = Unit {0}
Worded text [] (w ∷ ws) = ⊥
Worded text (t ∷ ts) [] = ⊥
Worded text (t ∷ ts) (w ∷ ws) = Spells w (slice_range text t.start t.end) × Worded text ts ws

pub worded_more : (text : List ℕ) (ts : List Token) (ws : List Word) (t : Token) (w : Word) → Worded text ts ws → Spells w (slice_range text t.start t.end) → Worded text (ts ++ t ∷ []) (ws ++ w ∷ [])
worded_more text [] [] t w h s = (s, tt)
worded_more text [] (v ∷ ws) t w h s = absurd h
worded_more text (u ∷ ts) [] t w h s = absurd h
worded_more text (u ∷ ts) (v ∷ ws) t w h s = (h.0, worded_more text ts ws t w h.1 s)

leads_words : (whole : List ℕ) (at : ℕ) (text : List ℕ) (ps : List Placed) (stop : ℕ) (after : List ℕ) (ws : List Word) → IsRest whole at text → Leads at text ps stop after
    → Worded whole (map token_of ps) ws → map word_of ps ≡ ws
leads_words whole at text [] stop after [] r l h = refl
leads_words whole at text [] stop after (w ∷ ws) r l h = absurd h
leads_words whole at text (p ∷ ps) stop after [] r l h = absurd h
leads_words whole at text (p ∷ ps) stop after (w ∷ ws) r l h =
    let front = skips_rest whole at text p.start l.0 r l.2 in
    let slice = takes_slice whole p l.0 l.1 front l.3 in
    let same : p.word ≡ w = word_same p.word w _ slice h.0 in
    ap (λ v. v ∷ map word_of ps) same ∙ ap (λ vs. w ∷ vs) (leads_words whole p.end l.1 ps stop after ws (takes_rest whole p l.0 l.1 front l.3) l.4 h.1)

pub worded_reads : (text : List ℕ) (ts : List Token) (ws : List Word) → IsUtf8 text → AreTokens text ts → Worded text ts ws → Reads text ts ws
worded_reads text ts ws u h w =
    let r = h.1 in
    let whole : IsRest text 0 text = record { rest_is = refl; within = omega arith; utf8 = u } in record {
      placed = r.placed;
      lexes = r.lexes;
      tokens_are = r.tokens_are;
      words_are = leads_words text 0 text r.placed (length text) [] ws whole r.lexes (subst (λ us. Worded text us ws) (sym r.tokens_are) w);
    }

-- ---- the code's loop

pub item_span : (text : List ℕ) (ts items : List Token) (i : ℕ) (t : Token) → IsUtf8 text → AreTokens text ts → items ≡ ts → i < length items → t ≡ get_or items i t → IsSpan text t
item_span text ts items i t u h same within is =
    let all : All (IsSpan text) items = subst (All (IsSpan text)) (sym same) (tokens_spans text ts u h) in
    subst (IsSpan text) (sym is) (all i t within)

pub item_worded : (text : List ℕ) (ts items : List Token) (i : ℕ) (t : Token) (w : Word) (found pushed : List Word) → items ≡ ts → i < length items → t ≡ get_or items i t → Worded text (take i ts) found
    → Spells w (slice_range text t.start t.end) → pushed ≡ found ++ w ∷ [] → Worded text (take (i + 1) ts) pushed
item_worded text ts items i t w found pushed same within is h s put =
    let inside : i < length ts = subst (λ us. i < length us) same within in
    let more : take (i + 1) ts ≡ take i ts ++ t ∷ [] = take_more ts i t inside ∙ ap (λ x. take i ts ++ x ∷ []) (ap (λ us. get_or us i t) (sym same) ∙ sym is) in
    subst (λ us. Worded text us pushed) (sym more) (subst (Worded text (take i ts ++ t ∷ [])) (sym put) (worded_more text (take i ts) found t w h s))

pub items_worded : (text : List ℕ) (ts items : List Token) (i : ℕ) (found : List Word) → IsUtf8 text → AreTokens text ts → items ≡ ts → length items ≤ i → Worded text (take i ts) found → Reads text ts found
items_worded text ts items i found u h same done w =
    let all : take i ts ≡ ts = take_all i ts (subst (λ us. length us ≤ i) same done) in
    worded_reads text ts found u h (subst (λ us. Worded text us found) all w)
