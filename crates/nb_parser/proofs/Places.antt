-- Tokens by how many are left, and the places of faults.
use Rattle.std.proofs.Common.{◌≡◌, ◌≤◌, ◌<◌, ◌+◌, ◌-◌, ◌⊎◌, inl, inr, ℕ, zero, suc, List, [], ◌∷◌, ◌++◌, length, take, drop, get_or, map, All, Result, Ok, Err, IfOk, IfErr, refl, sym, ap, subst, ◌∙◌, length-append, arith}
use Rattle.std.proofs.lemmas.List.{length-drop, drop_at}
use Rattle.std.proofs.Math.Seq.{split_at}
use Rattle.nb_lexer.specs.declared.word.Word.{Word}
use Rattle.nb_lexer.specs.declared.token.Token.{Token}
use Rattle.nb_lexer.specs.declared.fault.LexError.{LexError}
use Rattle.nb_lexer.specs.Lexes.{Reads, IsSpan}
use Rattle.nb_lexer.specs.Faults as lexer
use Rattle.nb_lexer.proofs.Same as same
use Rattle.nb_syntax.specs.declared.tree.Cell.{Cell}
use Rattle.nb_grammar.specs.declared.fault.Fault.{Fault}
use Rattle.nb_grammar.specs.declared.fault.Fault.TheVariants as fault
use Rattle.nb_grammar.specs.declared.fault.Stop.{Stop}
use Rattle.nb_grammar.specs.declared.fault.Stop.TheVariants as stops
use Rattle.nb_grammar.specs.Law.{Splits, IsFault, Comes}
use Rattle.nb_parser.proofs.GrammarLaws as grammar
use Rattle.nb_parser.specs.declared.error.ParseError.{ParseError}
use Rattle.nb_parser.specs.declared.error.ParseError.TheVariants.{Lex, Unexpected, Ended, TooDeep, Memory}
use Rattle.nb_parser.specs.Parse.{Parses, IsLeft, token_text, Places, IsWordFault, IsRefused, Refuses, UnlessMemory}
use Rattle.nb_parser.proofs.CellLaws.{refused_never}

pub token_left : (tokens : List Token) (n : ℕ) (t : Token) → 0 < n → n ≤ length tokens → t ≡ get_or tokens (length tokens - n) t → IsLeft tokens n t
token_left tokens n t some within is =
    let i : ℕ = length tokens - n in
    let cut = split_at tokens i t (omega (arith, some, within)) in record {
      before = take i tokens;
      after = drop (suc i) tokens;
      tokens_are = cut ∙ ap (λ u. take i tokens ++ u ∷ drop (suc i) tokens) (sym is);
      left = omega (arith, some, within, length-drop (suc i) tokens);
    }

-- ---- the token that is left

get_middle : (before after : List Token) (t d : Token) → get_or (before ++ t ∷ after) (length before) d ≡ t
get_middle [] after t d = refl
get_middle (u ∷ before) after t d = get_middle before after t d

pub left_span : (text : List ℕ) (tokens : List Token) (n : ℕ) (t : Token) → All (IsSpan text) tokens → IsLeft tokens n t → IsSpan text t
left_span text tokens n t all l =
    let some : length l.before < length (l.before ++ t ∷ l.after) = omega (arith, length-append l.before (t ∷ l.after)) in
    subst (IsSpan text) (get_middle l.before l.after t t) (subst (All (IsSpan text)) l.tokens_are all (length l.before) t some)

left_tail : (tokens : List Token) (n : ℕ) (t : Token) (l : IsLeft tokens n t) → drop (length tokens - n) tokens ≡ t ∷ l.after
left_tail tokens n t l =
    let left = l.left in
    let len : length l.before ≡ length tokens - n = omega (arith, left, ap length l.tokens_are, length-append l.before (t ∷ l.after)) in
    ap (drop (length tokens - n)) l.tokens_are ∙ drop_at l.before (t ∷ l.after) (length tokens - n) len

left_same : (tokens : List Token) (n : ℕ) (t u : Token) → IsLeft tokens n t → IsLeft tokens n u → t ≡ u
left_same tokens n t u l m = let same : t ∷ l.after ≡ u ∷ m.after = sym (left_tail tokens n t l) ∙ left_tail tokens n u m in cc

-- ---- the place of a fault

place_same : (text : List ℕ) (tokens : List Token) (f : Fault) (d e : ParseError) → Places text tokens f d → Places text tokens f e → d ≡ e
place_same text tokens (fault.Unexpected n) d e p q = p.2 ∙ ap (λ t. Unexpected t.start (token_text text t)) (left_same tokens n p.0 q.0 p.1 q.1) ∙ sym q.2
place_same text tokens fault.Ended d e p q = p ∙ sym q
place_same text tokens (fault.TooDeep n) d e p q = p.2 ∙ ap (λ t. TooDeep t.start) (left_same tokens n p.0 q.0 p.1 q.1) ∙ sym q.2

word_fault_same : (text : List ℕ) (d e : ParseError) → IsWordFault text d → IsWordFault text e → d ≡ e
word_fault_same text d e p q =
    let reads = same.one_reading text p.tokens q.tokens p.words q.words p.reads q.reads in
    let faults = grammar.one_fault 64 q.words p.fault q.fault (subst (λ ws. IsFault 64 ws p.fault) reads.1 p.is_fault) q.is_fault in
    place_same text q.tokens q.fault d e (subst (λ f. Places text q.tokens f d) faults (subst (λ ts. Places text ts p.fault d) reads.0 p.place)) q.place

-- ---- refusals

abbrev ByCase : List ℕ → ParseError → Type 0
ByCase text e = ((refused : LexError) × (e ≡ Lex refused) × lexer.IsFault text refused) ⊎ IsWordFault text e

by_case : (text : List ℕ) (e : ParseError) → IsRefused text e → ByCase text e
by_case text (Lex refused) f = inl (refused, refl, f)
by_case text (Unexpected place found) f = inr f
by_case text (Ended place) f = inr f
by_case text (TooDeep place) f = inr f
by_case text Memory f = absurd f

never_both : (text : List ℕ) (refused : LexError) (e : ParseError) → lexer.IsFault text refused → IsWordFault text e → ⊥
never_both text refused e f p = same.never_both text p.reads.placed refused p.reads.lexes f

pub one_refusal : (text : List ℕ) (d e : ParseError) → IsRefused text d → IsRefused text e → d ≡ e
one_refusal text d e p q =
    elim (by_case text d p) [
      | inl f ↦ (elim (by_case text e q) [
        | inl g ↦ f.1 ∙ ap Lex (same.one_fault text f.0 g.0 f.2 g.2) ∙ sym g.1
        | inr g ↦ absurd (never_both text f.0 e f.2 g)
      ])
      | inr f ↦ (elim (by_case text e q) [
        | inl g ↦ absurd (never_both text g.0 d g.2 f)
        | inr g ↦ word_fault_same text d e f g
      ])
    ]

-- ---- the code

pub stop_is : (ws items : List Word) (s : Stop) (f : Fault) → items ≡ ws → s ≡ stops.Fault f → Comes 64 items (Err s) → IsFault 64 ws f
stop_is ws items s f same is h = subst (λ vs. IsFault 64 vs f) same (subst (λ s. Comes 64 items (Err s)) is h)

pub placed_refuses : (text : List ℕ) (tokens : List Token) (words : List Word) (f : Fault) (e : ParseError) → Reads text tokens words → IsFault 64 words f → Places text tokens f e → Refuses text e
placed_refuses text tokens words (fault.Unexpected n) e r f p =
    subst (Refuses text) (sym p.2) (record { tokens = tokens; words = words; reads = r; fault = fault.Unexpected n; is_fault = f; place = (p.0, p.1, refl) })
placed_refuses text tokens words fault.Ended e r f p =
    subst (Refuses text) (sym p) (record { tokens = tokens; words = words; reads = r; fault = fault.Ended; is_fault = f; place = refl })
placed_refuses text tokens words (fault.TooDeep n) e r f p =
    subst (Refuses text) (sym p.2) (record { tokens = tokens; words = words; reads = r; fault = fault.TooDeep n; is_fault = f; place = (p.0, p.1, refl) })

err_is : (d e : ParseError) → d ≡ e → (let r : Result Cell ParseError = Err d in r ≡ Err e)
err_is d e is = ap (λ x. let r : Result Cell ParseError = Err x in r) is

pub answer_only_refused : (text : List ℕ) (r : Result Cell ParseError) → IfOk r (Parses text) → IfErr r (Refuses text) → (e : ParseError) → IsRefused text e → UnlessMemory r (r ≡ Err e)
answer_only_refused text (Ok c) p f e q = absurd (refused_never text e c q p)
answer_only_refused text (Err (Lex d)) p f e q = err_is (Lex d) e (one_refusal text (Lex d) e f q)
answer_only_refused text (Err (Unexpected place found)) p f e q = err_is (Unexpected place found) e (one_refusal text (Unexpected place found) e f q)
answer_only_refused text (Err (Ended place)) p f e q = err_is (Ended place) e (one_refusal text (Ended place) e f q)
answer_only_refused text (Err (TooDeep place)) p f e q = err_is (TooDeep place) e (one_refusal text (TooDeep place) e f q)
answer_only_refused text (Err Memory) p f e q = tt
