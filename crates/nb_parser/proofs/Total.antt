-- A text spells a cell or is refused.
use Rattle.std.proofs.Common.{◌≡◌, ◌≤◌, ◌<◌, ◌+◌, ◌-◌, ◌⊎◌, inl, inr, ℕ, List, [], ◌∷◌, ◌++◌, length, get_or, map, Result, Ok, Err, refl, sym, ap, ◌∙◌, length-append, arith}
use Rattle.std.proofs.lemmas.List.{length-map, get_or_default}
use Rattle.std.specs.Str.{IsUtf8}
use Rattle.nb_lexer.specs.declared.word.Word.{Word}
use Rattle.nb_lexer.specs.declared.token.Token.{Token}
use Rattle.nb_lexer.specs.declared.token.TokenKind.TheVariants as kind
use Rattle.nb_lexer.specs.declared.fault.LexError.{LexError}
use Rattle.nb_lexer.specs.Lexes.{Reads, AreTokens, word_of, token_of}
use Rattle.nb_lexer.specs.Faults as lexer
use Rattle.nb_lexer.proofs.Total as tokens
use Rattle.nb_syntax.specs.declared.tree.Cell.{Cell}
use Rattle.nb_grammar.specs.declared.fault.Fault.{Fault}
use Rattle.nb_grammar.specs.declared.fault.Fault.TheVariants as fault
use Rattle.nb_grammar.specs.Reading.{whole}
use Rattle.nb_grammar.specs.Law.{Splits, IsFault, IsRead}
use Rattle.nb_grammar.proofs.Viable.{parsed}
use Rattle.nb_parser.specs.declared.error.ParseError.{ParseError}
use Rattle.nb_parser.specs.declared.error.ParseError.TheVariants.{Lex, Unexpected, Ended, TooDeep}
use Rattle.nb_parser.specs.Parse.{Parses, IsLeft, token_text, IsRefused}
use Rattle.nb_parser.proofs.Places.{token_left}

reads_length : (text : List ℕ) (tokens : List Token) (words : List Word) → Reads text tokens words → length tokens ≡ length words
reads_length text tokens words r =
    ap length (sym r.tokens_are) ∙ length-map r.placed token_of ∙ sym (length-map r.placed word_of) ∙ ap length r.words_are

-- the token of the word that is split off
split_token : (text : List ℕ) (tokens : List Token) (words before : List Word) (w : Word) (n : ℕ) → Reads text tokens words → Splits words before w n → (t : Token) × IsLeft tokens n t
split_token text tokens words before w n r s =
    let left = s.left in
    let none : Token = record { kind = kind.Sign; start = 0; end = 0 } in
    let t : Token = get_or tokens (length tokens - n) none in
    let within : n ≤ length tokens = omega (arith, left, ap length s.words, length-append before (w ∷ s.after), reads_length text tokens words r) in
    let some : 0 < n = omega (arith, left) in
    (t, token_left tokens n t some within (get_or_default tokens (length tokens - n) none t (omega (arith, within, some))))

fault_refused : (text : List ℕ) (tokens : List Token) (words : List Word) (f : Fault) → Reads text tokens words → IsFault 64 words f → (e : ParseError) × IsRefused text e
fault_refused text tokens words (fault.Unexpected n) r f =
    let t = split_token text tokens words f.0 f.1 n r f.2 in
    (Unexpected t.0.start (token_text text t.0), record { tokens = tokens; words = words; reads = r; fault = fault.Unexpected n; is_fault = f; place = (t.0, t.1, refl) })
fault_refused text tokens words fault.Ended r f =
    (Ended (length text), record { tokens = tokens; words = words; reads = r; fault = fault.Ended; is_fault = f; place = refl })
fault_refused text tokens words (fault.TooDeep n) r f =
    let t = split_token text tokens words f.0 f.1 n r f.2 in
    (TooDeep t.0.start, record { tokens = tokens; words = words; reads = r; fault = fault.TooDeep n; is_fault = f; place = (t.0, t.1, refl) })

abbrev HasAnswer : List ℕ → Type 0
HasAnswer text = ((c : Cell) × Parses text c) ⊎ ((e : ParseError) × IsRefused text e)

read_answer : (text : List ℕ) (tokens : List Token) (words : List Word) → Reads text tokens words → (y : Result Cell Fault) → IsRead 64 words y → HasAnswer text
read_answer text tokens words r (Ok c) s = inl (c, record { words = words; has = (tokens, r); spells = s })
read_answer text tokens words r (Err f) s = inr (fault_refused text tokens words f r s)

pub has_answer : (text : List ℕ) → IsUtf8 text → HasAnswer text
has_answer text u =
    elim (tokens.has_answer text u) [
      | inl t ↦ read_answer text t.0 t.1.0 t.1.1 (whole 64 t.1.0) (parsed 64 t.1.0)
      | inr f ↦ inr (Lex f.0, f.1)
    ]
