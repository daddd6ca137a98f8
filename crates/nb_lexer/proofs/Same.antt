-- A text has one list of tokens, or one first fault.
use Rattle.std.proofs.Common.{◌≡◌, ◌<◌, ◌+◌, ◌-◌, inl, inr, ℕ, true, false, List, [], ◌∷◌, ◌++◌, length, drop, map, Result, Ok, Err, IfOk, IfErr, refl, sym, ap, subst, ◌∙◌, length-append, arith}
use Rattle.std.proofs.lemmas.Bool.{false≢true}
use Rattle.std.proofs.lemmas.List.{drop_at}
use Rattle.std.specs.List.{prefix_len}
use Rattle.nb_lexer.specs.declared.word.Word.{Word}
use Rattle.nb_lexer.specs.declared.token.Token.{Token}
use Rattle.nb_lexer.specs.declared.fault.LexError.{LexError}
use Rattle.nb_lexer.specs.declared.fault.LexError.TheVariants.{BadCharacter, OpenText, BadEscape, TooWide, Memory}
use Rattle.nb_lexer.specs.Characters.{is_digit, is_gap, begins}
use Rattle.nb_lexer.specs.Words.{sign}
use Rattle.nb_lexer.specs.Lexes.{Placed, word_of, token_of, Skips, Takes, Leads, Lexes, Reads, AreTokens}
use Rattle.nb_lexer.specs.Faults.{FaultAt, IsFault, Refuses, UnlessMemory}
use Rattle.nb_lexer.specs.Scan.{Found, front}
use Rattle.nb_lexer.proofs.Runs.{run_stops, begins-append, begins_not, digit_no_gap}
use Rattle.nb_lexer.proofs.Cases.{numeral_digit}
use Rattle.nb_lexer.proofs.Spelled.{spelling_clear}
use Rattle.nb_lexer.proofs.Complete.{front_complete}
use Rattle.nb_lexer.proofs.FaultLemmas.{fault_fails}

-- ---- a gap

skips_is : (at : ℕ) (text : List ℕ) (stop : ℕ) (after : List ℕ) → Skips at text stop after → begins is_gap after ≡ false
    → (stop ≡ at + prefix_len is_gap text) × (after ≡ drop (prefix_len is_gap text) text)
skips_is at text stop after s clear =
    let len : prefix_len is_gap text ≡ length s.gap = ap (prefix_len is_gap) s.text_is ∙ run_stops is_gap s.gap after s.gap_is clear in (
      s.stop_is ∙ ap (λ n. at + n) (sym len),
      sym (ap (drop (prefix_len is_gap text)) s.text_is ∙ drop_at s.gap after (prefix_len is_gap text) (sym len)),
    )

skips_same : (at : ℕ) (text : List ℕ) (stop halt : ℕ) (after behind : List ℕ) → Skips at text stop after → begins is_gap after ≡ false → Skips at text halt behind → begins is_gap behind ≡ false
    → (stop ≡ halt) × (after ≡ behind)
skips_same at text stop halt after behind s c t d =
    let a = skips_is at text stop after s c in
    let b = skips_is at text halt behind t d in
    (a.0 ∙ sym b.0, a.1 ∙ sym b.1)

-- ---- a word

takes_clear : (p : Placed) (before after : List ℕ) → Takes p before after → begins is_gap before ≡ false
takes_clear p before after t = ap (begins is_gap) t.text_is ∙ spelling_clear p.word t.spelling after t.spells

takes_front : (p : Placed) (before after : List ℕ) → Takes p before after → front p.start before ≡ Ok (p.word, p.end)
takes_front p before after t =
    ap (front p.start) t.text_is ∙ front_complete p.start p.word t.spelling after t.spells t.ends ∙ ap (λ n. let r : Found Word = Ok (p.word, n) in r) (sym t.end_is)

takes_after : (p : Placed) (before after : List ℕ) → Takes p before after → after ≡ drop (p.end - p.start) before
takes_after p before after t =
    let end_is = t.end_is in
    let len : length t.spelling ≡ p.end - p.start = omega arith in
    sym (ap (drop (p.end - p.start)) t.text_is ∙ drop_at t.spelling after (p.end - p.start) len)

placed_same : (p q : Placed) → p.word ≡ q.word → p.start ≡ q.start → p.end ≡ q.end → p ≡ q
placed_same p q w s e =
    ap (λ x. let r : Placed = record { word = x; start = p.start; end = p.end } in r) w
    ∙ ap (λ x. let r : Placed = record { word = q.word; start = x; end = p.end } in r) s
    ∙ ap (λ x. let r : Placed = record { word = q.word; start = q.start; end = x } in r) e

takes_same : (p q : Placed) (before other after behind : List ℕ) → p.start ≡ q.start → before ≡ other → Takes p before after → Takes q other behind → (p ≡ q) × (after ≡ behind)
takes_same p q before other after behind start same t u =
    let one : front p.start before ≡ Ok (p.word, p.end) = takes_front p before after t in
    let two : front p.start before ≡ Ok (q.word, q.end) = ap (λ n. front n before) start ∙ ap (front q.start) same ∙ takes_front q other behind u in
    let both : ◌≡◌ {A = Word × ℕ} (p.word, p.end) (q.word, q.end) = cc in
    let equal : p ≡ q = placed_same p q (ap (λ x. x.0) both) start (ap (λ x. x.1) both) in
    (equal, takes_after p before after t ∙ ap (λ b. drop (p.end - p.start) b) same ∙ ap (λ x. drop (x.end - x.start) other) equal ∙ sym (takes_after q other behind u))

-- ---- words and gaps, up to where no word stands

abbrev IsFinal : ℕ → List ℕ → Type 0
IsFinal stop after = (begins is_gap after ≡ false) × ((w : Word) (end : ℕ) → front stop after ≡ Ok (w, end) → ⊥)

leads_same : (at : ℕ) (text : List ℕ) (ps qs : List Placed) (stop halt : ℕ) (after behind : List ℕ) → Leads at text ps stop after → IsFinal stop after → Leads at text qs halt behind → IsFinal halt behind
    → (ps ≡ qs) × (stop ≡ halt) × (after ≡ behind)
leads_same at text [] [] stop halt after behind l f m g = let s = skips_same at text stop halt after behind l f.0 m g.0 in (refl, s.0, s.1)
leads_same at text [] (q ∷ qs) stop halt after behind l f m g =
    let s = skips_same at text stop q.start after m.0 l f.0 m.2 (takes_clear q m.0 m.1 m.3) in
    absurd (f.1 q.word q.end (ap (λ n. front n after) s.0 ∙ ap (front q.start) s.1 ∙ takes_front q m.0 m.1 m.3))
leads_same at text (p ∷ ps) [] stop halt after behind l f m g =
    let s = skips_same at text halt p.start behind l.0 m g.0 l.2 (takes_clear p l.0 l.1 l.3) in
    absurd (g.1 p.word p.end (ap (λ n. front n behind) s.0 ∙ ap (front p.start) s.1 ∙ takes_front p l.0 l.1 l.3))
leads_same at text (p ∷ ps) (q ∷ qs) stop halt after behind l f m g =
    let s = skips_same at text p.start q.start l.0 m.0 l.2 (takes_clear p l.0 l.1 l.3) m.2 (takes_clear q m.0 m.1 m.3) in
    let t = takes_same p q l.0 m.0 l.1 m.1 s.0 s.1 l.3 m.3 in
    let moved : Leads p.end l.1 qs halt behind = subst (λ n. Leads n l.1 qs halt behind) (ap (λ x. x.end) (sym t.0)) (subst (λ b. Leads q.end b qs halt behind) (sym t.1) m.4) in
    let more = leads_same p.end l.1 ps qs stop halt after behind l.4 f moved g in
    (ap (λ x. x ∷ ps) t.0 ∙ ap (λ xs. q ∷ xs) more.0, more.1, more.2)

nil_final : (stop : ℕ) → IsFinal stop []
unfolding front sign
nil_final stop = (refl, λ w end e. none w end e)
  where
    none : (w : Word) (end : ℕ) → (let r : Found Word = Err (BadCharacter stop) in r ≡ Ok (w, end)) → ⊥
    none w end e = cc

fault_clear : (at : ℕ) (text : List ℕ) (e : LexError) → FaultAt at text e → begins is_gap text ≡ false
fault_clear at text (BadCharacter place) (inl h) = ap (begins is_gap) h.text_is ∙ h.no_gap
fault_clear at text (BadCharacter place) (inr (inl h)) = ap (begins is_gap) h.text_is ∙ begins_not is_digit is_gap digit_no_gap (h.digits ++ h.next ∷ h.more) (begins-append is_digit h.digits (h.next ∷ h.more) (numeral_digit h.digits h.numeral))
fault_clear at text (BadCharacter place) (inr (inr h)) = ap (begins is_gap) h.text_is
fault_clear at text (OpenText place) h = ap (begins is_gap) h.text_is
fault_clear at text (BadEscape place) h = ap (begins is_gap) h.text_is
fault_clear at text (TooWide place) h = ap (begins is_gap) h.text_is ∙ begins_not is_digit is_gap digit_no_gap (h.digits ++ h.more) (begins-append is_digit h.digits h.more (numeral_digit h.digits h.numeral))
fault_clear at text Memory h = absurd h

digits_some : (digits : List ℕ) → begins is_digit digits ≡ true → 0 < length digits
digits_some [] e = absurd (false≢true e)
digits_some (b ∷ digits) e = omega arith

fault_some : (at : ℕ) (text : List ℕ) (e : LexError) → FaultAt at text e → 0 < length text
fault_some at text (BadCharacter place) (inl h) = omega (arith, ap length h.text_is)
fault_some at text (BadCharacter place) (inr (inl h)) = omega (arith, ap length h.text_is, length-append h.digits (h.next ∷ h.more))
fault_some at text (BadCharacter place) (inr (inr h)) = omega (arith, ap length h.text_is)
fault_some at text (OpenText place) h = omega (arith, ap length h.text_is)
fault_some at text (BadEscape place) h = omega (arith, ap length h.text_is)
fault_some at text (TooWide place) h = omega (arith, ap length h.text_is, length-append h.digits h.more, digits_some h.digits (numeral_digit h.digits h.numeral))
fault_some at text Memory h = absurd h

fault_final : (at : ℕ) (text : List ℕ) (e : LexError) → FaultAt at text e → IsFinal at text
fault_final at text e h = (fault_clear at text e h, λ w end ok. clash w end (sym (fault_fails at text e h) ∙ ok))
  where
    clash : (w : Word) (end : ℕ) → (let r : Found Word = Err e in r ≡ Ok (w, end)) → ⊥
    clash w end ok = cc

-- ---- the laws

pub one_list : (text : List ℕ) (ps qs : List Placed) → Lexes text ps → Lexes text qs → ps ≡ qs
one_list text ps qs l m = (leads_same 0 text ps qs (length text) (length text) [] [] l (nil_final (length text)) m (nil_final (length text))).0

pub never_both : (text : List ℕ) (ps : List Placed) (e : LexError) → Lexes text ps → IsFault text e → ⊥
never_both text ps e l f =
    let s = leads_same 0 text ps f.placed (length text) f.stop [] f.rest l (nil_final (length text)) f.leads (fault_final f.stop f.rest e f.fault) in
    let some : 0 < length f.rest = fault_some f.stop f.rest e f.fault in
    let none : length f.rest ≡ 0 = ap length (sym s.2) in
    omega arith

pub one_fault : (text : List ℕ) (e g : LexError) → IsFault text e → IsFault text g → e ≡ g
one_fault text e g h k =
    let s = leads_same 0 text h.placed k.placed h.stop k.stop h.rest k.rest h.leads (fault_final h.stop h.rest e h.fault) k.leads (fault_final k.stop k.rest g k.fault) in
    let one : front h.stop h.rest ≡ Err e = fault_fails h.stop h.rest e h.fault in
    let two : front h.stop h.rest ≡ Err g = ap (λ n. front n h.rest) s.1 ∙ ap (front k.stop) s.2 ∙ fault_fails k.stop k.rest g k.fault in
    cc

pub one_reading : (text : List ℕ) (ts us : List Token) (ws vs : List Word) → Reads text ts ws → Reads text us vs → (ts ≡ us) × (ws ≡ vs)
one_reading text ts us ws vs r s =
    let same = one_list text r.placed s.placed r.lexes s.lexes in
    (sym r.tokens_are ∙ ap (map token_of) same ∙ s.tokens_are, sym r.words_are ∙ ap (map word_of) same ∙ s.words_are)

pub tokens_or_fault : (text : List ℕ) (ts : List Token) (e : LexError) → AreTokens text ts → IsFault text e → ⊥
tokens_or_fault text ts e h f = never_both text h.1.placed e h.1.lexes f

-- ---- what a call answers

pub only_tokens : (text : List ℕ) (r : Result (List Token) LexError) → IfOk r (AreTokens text) → IfErr r (Refuses text) → (ts : List Token) → AreTokens text ts → UnlessMemory r (r ≡ Ok ts)
only_tokens text (Ok us) found fault ts h = ap (λ x. let r : Result (List Token) LexError = Ok x in r) (one_reading text us ts found.0 h.0 found.1 h.1).0
only_tokens text (Err (BadCharacter place)) found fault ts h = absurd (never_both text h.1.placed (BadCharacter place) h.1.lexes fault)
only_tokens text (Err (OpenText place)) found fault ts h = absurd (never_both text h.1.placed (OpenText place) h.1.lexes fault)
only_tokens text (Err (BadEscape place)) found fault ts h = absurd (never_both text h.1.placed (BadEscape place) h.1.lexes fault)
only_tokens text (Err (TooWide place)) found fault ts h = absurd (never_both text h.1.placed (TooWide place) h.1.lexes fault)
only_tokens text (Err Memory) found fault ts h = tt

err_is : (e g : LexError) → e ≡ g → (let r : Result (List Token) LexError = Err e in r ≡ Err g)
err_is e g same = ap (λ x. let r : Result (List Token) LexError = Err x in r) same

pub only_fault : (text : List ℕ) (r : Result (List Token) LexError) → IfOk r (AreTokens text) → IfErr r (Refuses text) → (e : LexError) → IsFault text e → UnlessMemory r (r ≡ Err e)
only_fault text (Ok us) found fault e h = absurd (never_both text found.1.placed e found.1.lexes h)
only_fault text (Err (BadCharacter place)) found fault e h = err_is (BadCharacter place) e (one_fault text (BadCharacter place) e fault h)
only_fault text (Err (OpenText place)) found fault e h = err_is (OpenText place) e (one_fault text (OpenText place) e fault h)
only_fault text (Err (BadEscape place)) found fault e h = err_is (BadEscape place) e (one_fault text (BadEscape place) e fault h)
only_fault text (Err (TooWide place)) found fault e h = err_is (TooWide place) e (one_fault text (TooWide place) e fault h)
only_fault text (Err Memory) found fault e h = tt
