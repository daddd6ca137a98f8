-- What a text spells, and what it doesn't.
use Rattle.std.proofs.Common.{◌≡◌, ◌+◌, ℕ, List, Option, Some, None, Result, Ok, Err, IfOk, IfErr, refl, sym, ap, subst, ◌∙◌}
use Rattle.nb_lexer.specs.declared.word.Word.{Word}
use Rattle.nb_lexer.specs.declared.token.Token.{Token}
use Rattle.nb_lexer.specs.Lexes.{Reads, HasWords}
use Rattle.nb_lexer.proofs.Same as same
use Rattle.nb_syntax.specs.declared.tree.Cell.{Cell}
use Rattle.nb_grammar.specs.declared.fault.Fault.{Fault}
use Rattle.nb_grammar.specs.Reading.{whole}
use Rattle.nb_grammar.specs.Law.{Spells, IsFault, IsRead}
use Rattle.nb_grammar.proofs.Viable.{parsed, only, one}
use Rattle.nb_parser.proofs.GrammarLaws as grammar
use Rattle.nb_parser.specs.declared.error.ParseError.{ParseError}
use Rattle.nb_parser.specs.declared.error.ParseError.TheVariants.{Lex, Unexpected, Ended, TooDeep, Memory}
use Rattle.nb_parser.specs.Text.{words_of, if_read, if_words, cell_of}
use Rattle.nb_parser.specs.Parse.{Parses, IsWordFault, IsRefused, Refuses, HasNone, UnlessMemory}
use Rattle.nb_parser.proofs.Scanned.{words_read, read_words}

read_spells : (ws : List Word) (c : Cell) (y : Result Cell Fault) → IsRead 64 ws y → if_read y ≡ Some c → Spells 64 ws c
read_spells ws c (Ok d) r e = let same : d ≡ c = cc in subst (Spells 64 ws) same r
read_spells ws c (Err f) r e = cc

pub cell_parses : (text : List ℕ) (c : Cell) → cell_of text ≡ Some c → Parses text c
unfolding cell_of
cell_parses text c e = each (words_of text) refl e
  where
    each : (o : Option (List Word)) → words_of text ≡ o → if_words o ≡ Some c → Parses text c
    each None is e = cc
    each (Some ws) is e = record { words = ws; has = words_read text ws is; spells = read_spells ws c (whole 64 ws) (parsed 64 ws) e }

pub parses_cell : (text : List ℕ) (c : Cell) → Parses text c → cell_of text ≡ Some c
unfolding cell_of
parses_cell text c p =
    ap if_words (read_words text p.words p.has) ∙ ap if_read (only 64 p.words (Ok c) p.spells)

-- A text has one list of words.
words_same : (text : List ℕ) (ws vs : List Word) → HasWords text ws → HasWords text vs → ws ≡ vs
words_same text ws vs h k = (same.one_reading text h.0 k.0 ws vs h.1 k.1).1

pub one_cell : (text : List ℕ) (c d : Cell) → Parses text c → Parses text d → c ≡ d
one_cell text c d p q =
    one 64 64 q.words c d (subst (λ ws. Spells 64 ws c) (words_same text p.words q.words p.has q.has) p.spells) q.spells

fault_never : (text : List ℕ) (e : ParseError) (c : Cell) → IsWordFault text e → Parses text c → ⊥
fault_never text e c f p =
    grammar.no_fault 64 p.words c f.fault p.spells (subst (λ ws. IsFault 64 ws f.fault) (words_same text f.words p.words (f.tokens, f.reads) p.has) f.is_fault)

-- What is refused spells no cell.
pub refused_never : (text : List ℕ) (e : ParseError) (c : Cell) → IsRefused text e → Parses text c → ⊥
refused_never text (Lex e) c f p = same.never_both text p.has.1.placed e p.has.1.lexes f
refused_never text (Unexpected place found) c f p = fault_never text (Unexpected place found) c f p
refused_never text (Ended place) c f p = fault_never text (Ended place) c f p
refused_never text (TooDeep place) c f p = fault_never text (TooDeep place) c f p
refused_never text Memory c f p = absurd f

refused_none : (text : List ℕ) (e : ParseError) → IsRefused text e → cell_of text ≡ None
refused_none text e f = each (cell_of text) refl
  where
    each : (o : Option Cell) → cell_of text ≡ o → o ≡ None
    each None is = refl
    each (Some c) is = absurd (refused_never text e c f (cell_parses text c is))

pub refuses_none : (text : List ℕ) (e : ParseError) → Refuses text e → HasNone text e
refuses_none text (Lex e) f = refused_none text (Lex e) f
refuses_none text (Unexpected place found) f = refused_none text (Unexpected place found) f
refuses_none text (Ended place) f = refused_none text (Ended place) f
refuses_none text (TooDeep place) f = refused_none text (TooDeep place) f
refuses_none text Memory f = tt

-- ---- what a call answers

pub answer_cell : (text : List ℕ) (r : Result Cell ParseError) → IfOk r (Parses text) → IfOk r (λ c. cell_of text ≡ Some c)
answer_cell text (Ok c) p = parses_cell text c p
answer_cell text (Err e) p = tt

pub answer_none : (text : List ℕ) (r : Result Cell ParseError) → IfErr r (Refuses text) → IfErr r (HasNone text)
answer_none text (Ok c) f = tt
answer_none text (Err e) f = refuses_none text e f

pub answer_only : (text : List ℕ) (r : Result Cell ParseError) → IfOk r (Parses text) → IfErr r (Refuses text) → (c : Cell) → Parses text c → UnlessMemory r (r ≡ Ok c)
answer_only text (Ok d) p f c q = ap (λ x. let r : Result Cell ParseError = Ok x in r) (one_cell text d c p q)
answer_only text (Err (Lex e)) p f c q = absurd (refused_never text (Lex e) c f q)
answer_only text (Err (Unexpected place found)) p f c q = absurd (refused_never text (Unexpected place found) c f q)
answer_only text (Err (Ended place)) p f c q = absurd (refused_never text (Ended place) c f q)
answer_only text (Err (TooDeep place)) p f c q = absurd (refused_never text (TooDeep place) c f q)
answer_only text (Err Memory) p f c q = tt
