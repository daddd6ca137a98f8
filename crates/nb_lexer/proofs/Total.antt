-- A text has tokens or a fault.
use Rattle.std.proofs.Common.{◌<◌, ◌+◌, ◌-◌, ◌⊎◌, inl, inr, ℕ, zero, suc, List, [], ◌∷◌, ◌++◌, length, drop, Ok, Err, refl, length-drop, arith}
use Rattle.std.proofs.lemmas.Bool.{cases_lt}
use Rattle.std.specs.List.{prefix_len}
use Rattle.std.specs.Str.{IsUtf8}
use Rattle.nb_lexer.specs.declared.word.Word.{Word}
use Rattle.nb_lexer.specs.declared.token.Token.{Token}
use Rattle.nb_lexer.specs.declared.fault.LexError.{LexError}
use Rattle.nb_lexer.specs.Characters.{is_gap}
use Rattle.nb_lexer.specs.Words.{kind_of}
use Rattle.nb_lexer.specs.Lexes.{AreTokens}
use Rattle.nb_lexer.specs.Faults.{IsFault}
use Rattle.nb_lexer.specs.Scan.{Found, front, Stands}
use Rattle.nb_lexer.proofs.Sound.{IsRight, front_right}
use Rattle.nb_lexer.proofs.TokenLemmas.{stands}
use Rattle.nb_lexer.proofs.Reached.{Reached, reached_start, reached_more, reached_end}

abbrev HasAnswer : List ℕ → Type 0
HasAnswer text = ((ts : List Token) × AreTokens text ts) ⊎ ((e : LexError) × IsFault text e)

-- n bounds the tokens that are left
answered : (n : ℕ) (text : List ℕ) (found : List Token) (at : ℕ) → Reached text found at → length text - at < n → HasAnswer text
answered zero text found at r h = absurd (omega arith)
answered (suc n) text found at r h =
    elim (cases_lt at (length text)) [
      | inl more ↦ next more (front at (drop at text)) (front_right at (drop at text) r.clear (omega (arith, length-drop at text))) (λ t s. answered n text (found ++ t ∷ []) _ (further t s) (smaller more t s))
      | inr done ↦ inl (found, reached_end text found at r done)
    ]
  where
    further : (t : Token) → Stands at (drop at text) t → Reached text (found ++ t ∷ []) (t.end + prefix_len is_gap (drop t.end text))
    further t s = reached_more text found (found ++ t ∷ []) at (prefix_len is_gap (drop t.end text)) (drop at text) (drop t.end text) t r refl s refl refl refl

    smaller : at < length text → (t : Token) → Stands at (drop at text) t → length text - (t.end + prefix_len is_gap (drop t.end text)) < n
    smaller more t s = let past = s.further in omega arith

    next : at < length text → (found_here : Found Word) → IsRight at (drop at text) found_here → ((t : Token) → Stands at (drop at text) t → HasAnswer text) → HasAnswer text
    next more (Ok x) right again = again (record { kind = kind_of x.0; start = at; end = x.1 }) (stands at (drop at text) x.0 (kind_of x.0) x.1 refl r.utf8 right)
    next more (Err e) right again = inr (e, record { placed = r.placed; stop = at; rest = drop at text; leads = r.leads; fault = right })

pub has_answer : (text : List ℕ) → IsUtf8 text → ((ts : List Token) × AreTokens text ts) ⊎ ((e : LexError) × IsFault text e)
has_answer text u = answered (suc (length text)) text [] (prefix_len is_gap text) (reached_start text [] (prefix_len is_gap text) u refl refl) (omega arith)
