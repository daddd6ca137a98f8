-- Runs of characters at the front of a text.
use Rattle.std.proofs.Common.{◌≡◌, ◌<◌, ◌+◌, ℕ, zero, suc, Bool, true, false, cond, List, [], ◌∷◌, ◌++◌, length, take, drop, get_or, refl, ap, subst, ◌∙◌, length-append, arith}
use Rattle.std.proofs.lemmas.Bool.{and_parts, false≢true}
use Rattle.std.proofs.lemmas.Bool.Decides.{nat_tests}
use Rattle.std.specs.List.{prefix_len, list_all}
use Rattle.std.specs.Str.{IsAscii, IsUtf8}
use Rattle.std.proofs.Math.Seq.{get_or-append_seam, drop-append-add}
use Rattle.std.proofs.lemmas.Str.{IsUtf8-drop, IsCharBoundary-after_ascii}
use Rattle.nb_lexer.specs.Characters.{is_digit, is_letter, is_in_name, is_quote, is_gap, begins}

-- all characters of a run pass
pub run_passes : (p : ℕ → Bool) (text : List ℕ) → list_all p (take (prefix_len p text) text) ≡ true
run_passes p [] = refl
run_passes p (b ∷ text) = go (p b) refl (run_passes p text)
  where
    go : (d : Bool) → p b ≡ d → list_all p (take (prefix_len p text) text) ≡ true → list_all p (take (cond d (1 + prefix_len p text) 0) (b ∷ text)) ≡ true
    go false e more = refl
    go true e more = let one : 1 + prefix_len p text ≡ suc (prefix_len p text) = omega arith in rw (one, e, more)

-- characters below 128
pub passes_ascii : (p : ℕ → Bool) → ((b : ℕ) → p b ≡ true → b < 128) → (text : List ℕ) → list_all p text ≡ true → IsAscii text
passes_ascii p low [] e i = omega arith
passes_ascii p low (b ∷ text) e zero = low b (and_parts (p b) (list_all p text) e).0
passes_ascii p low (b ∷ text) e (suc i) = passes_ascii p low text (and_parts (p b) (list_all p text) e).1 i

pub digit_ascii : (b : ℕ) → is_digit b ≡ true → b < 128
digit_ascii b e = grind (arith, nat_tests)

pub in_name_ascii : (b : ℕ) → is_in_name b ≡ true → b < 128
in_name_ascii b e = grind (arith, nat_tests)

pub letter_in_name : (b : ℕ) → is_letter b ≡ true → is_in_name b ≡ true
letter_in_name b e = rw e

pub digit_in_name : (b : ℕ) → is_digit b ≡ true → is_in_name b ≡ true
digit_in_name b e = grind (arith, nat_tests)

-- a run ends where the next character doesn't pass
pub run_stops : (p : ℕ → Bool) (run text : List ℕ) → list_all p run ≡ true → begins p text ≡ false → prefix_len p (run ++ text) ≡ length run
run_stops p [] [] all stop = refl
run_stops p [] (b ∷ text) all stop = rw stop
run_stops p (b ∷ run) text all stop =
    let parts = and_parts (p b) (list_all p run) all in
    let one : 1 + length run ≡ length (b ∷ run) = omega arith in
    ap (λ d. cond d (1 + prefix_len p (run ++ text)) 0) parts.0 ∙ ap (λ n. 1 + n) (run_stops p run text parts.1 stop) ∙ one

-- behind a run no further character passes
pub run_clear : (p : ℕ → Bool) (text : List ℕ) → begins p (drop (prefix_len p text) text) ≡ false
run_clear p [] = refl
run_clear p (b ∷ text) = go (p b) refl (run_clear p text)
  where
    go : (d : Bool) → p b ≡ d → begins p (drop (prefix_len p text) text) ≡ false → begins p (drop (cond d (1 + prefix_len p text) 0) (b ∷ text)) ≡ false
    go false e more = e
    go true e more = let one : 1 + prefix_len p text ≡ suc (prefix_len p text) = omega arith in rw (one, more)

-- a run isn't empty where the first character passes, and begins with it
pub run_some : (p : ℕ → Bool) (text : List ℕ) → begins p text ≡ true → 0 < length (take (prefix_len p text) text)
run_some p [] e = absurd (false≢true e)
run_some p (b ∷ text) e = let one : 1 + prefix_len p text ≡ suc (prefix_len p text) = omega arith in rw (e, one) (omega arith)

pub run_begins : (p q : ℕ → Bool) (text : List ℕ) → begins p text ≡ true → begins q text ≡ true → begins q (take (prefix_len p text) text) ≡ true
run_begins p q [] e f = absurd (false≢true e)
run_begins p q (b ∷ text) e f = let one : 1 + prefix_len p text ≡ suc (prefix_len p text) = omega arith in rw (e, one, f)

pub begins-append : (p : ℕ → Bool) (front text : List ℕ) → begins p front ≡ true → begins p (front ++ text) ≡ true
begins-append p [] text e = absurd (false≢true e)
begins-append p (b ∷ front) text e = e

-- where one test holds of the first character, another may fail
pub begins_not : (p q : ℕ → Bool) → ((b : ℕ) → p b ≡ true → q b ≡ false) → (text : List ℕ) → begins p text ≡ true → begins q text ≡ false
begins_not p q never [] e = refl
begins_not p q never (b ∷ text) e = never b e

pub begins_too : (p q : ℕ → Bool) → ((b : ℕ) → p b ≡ true → q b ≡ true) → (text : List ℕ) → begins p text ≡ true → begins q text ≡ true
begins_too p q too [] e = e
begins_too p q too (b ∷ text) e = too b e

pub begins_never : (p : ℕ → Bool) → ((b : ℕ) → p b ≡ false) → (text : List ℕ) → begins p text ≡ false
begins_never p never [] = refl
begins_never p never (b ∷ text) = never b

-- ---- the classes of characters

pub letter_no_digit : (b : ℕ) → is_letter b ≡ true → is_digit b ≡ false
letter_no_digit b e = grind (arith, nat_tests)

pub digit_no_letter : (b : ℕ) → is_digit b ≡ true → is_letter b ≡ false
digit_no_letter b e = grind (arith, nat_tests)

pub quote_no_letter : (b : ℕ) → is_quote b ≡ true → is_letter b ≡ false
quote_no_letter b e = grind (arith, nat_tests)

pub quote_no_digit : (b : ℕ) → is_quote b ≡ true → is_digit b ≡ false
quote_no_digit b e = grind (arith, nat_tests)

pub letter_no_gap : (b : ℕ) → is_letter b ≡ true → is_gap b ≡ false
letter_no_gap b e = grind (arith, nat_tests)

pub digit_no_gap : (b : ℕ) → is_digit b ≡ true → is_gap b ≡ false
digit_no_gap b e = grind (arith, nat_tests)

pub quote_no_gap : (b : ℕ) → is_quote b ≡ true → is_gap b ≡ false
quote_no_gap b e = grind (arith, nat_tests)

pub gap_ascii : (b : ℕ) → is_gap b ≡ true → b < 128
gap_ascii b e = grind (arith, nat_tests)

-- ---- UTF-8 behind a character below 128

pub utf8_behind : (front : List ℕ) (b : ℕ) (text : List ℕ) → b < 128 → IsUtf8 (front ++ b ∷ text) → IsUtf8 text
utf8_behind front b text low u =
    let whole : List ℕ = front ++ b ∷ text in
    let n = length front in
    let here : get_or whole n 0 ≡ b = get_or-append_seam front b text 0 in
    let inside : n < length whole = omega (arith, length-append front (b ∷ text)) in
    let small : get_or whole n 0 < 128 = omega (arith, here) in
    let left : drop (n + 1) whole ≡ text = drop-append-add front (b ∷ text) 1 in
    subst IsUtf8 left (IsUtf8-drop whole (n + 1) u (IsCharBoundary-after_ascii whole n u inside small))

pub utf8_behind_run : (p : ℕ → Bool) → ((b : ℕ) → p b ≡ true → b < 128) → (run text : List ℕ) → list_all p run ≡ true → IsUtf8 (run ++ text) → IsUtf8 text
utf8_behind_run p low [] text all u = u
utf8_behind_run p low (b ∷ run) text all u =
    let parts = and_parts (p b) (list_all p run) all in
    utf8_behind_run p low run text parts.1 (utf8_behind [] b (run ++ text) (low b parts.0) u)
