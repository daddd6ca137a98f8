-- What is a fault is found as that fault.
use Rattle.std.proofs.Common.{◌≡◌, ◌≢◌, ◌≤◌, ◌+◌, ◌&&◌, ◌||◌, ◌==◌, ◌⊎◌, inl, inr, ℕ, pos, Bool, true, false, cond, nat_lt, List, [], ◌∷◌, ◌++◌, length, take, drop, Option, Some, None, Ok, Err, refl, sym, ap, subst, ◌∙◌, arith}
use Rattle.std.proofs.lemmas.Bool.{and_parts, and_from, or_cases, false≢true}
use Rattle.std.proofs.lemmas.Bool.Decides.{nat_tests}
use Rattle.std.proofs.lemmas.List.{take_at, take-take}
use Rattle.std.proofs.lemmas.List.Folds.{list_all-append}
use Rattle.std.proofs.lemmas.Str.Parse.{digits_value-take-le}
use Rattle.std.specs.List.{prefix_len, list_all}
use Rattle.std.specs.Str.{bytes_eq}
use Rattle.std.specs.Str.Parse.{digits_value}
use Rattle.nb_lexer.specs.declared.word.Word.{Word}
use Rattle.nb_lexer.specs.declared.word.Word.TheVariants as word
use Rattle.nb_lexer.specs.declared.fault.LexError.{LexError}
use Rattle.nb_lexer.specs.declared.fault.LexError.TheVariants.{BadCharacter, OpenText, BadEscape, TooWide, Memory}
use Rattle.nb_lexer.specs.Characters.{is_digit, is_letter, is_in_name, is_quote, begins}
use Rattle.nb_lexer.specs.Spelling.{is_first_digit, is_numeral, too_wide, Escape, quote, backslash, line_feed, carriage_return, tab, letter, parts_text, parts_value}
use Rattle.nb_lexer.specs.Faults.{IsStray, RunsOn, IsWide, IsControl, IsNoEscape, IsOpen, FaultAt}
use Rattle.nb_lexer.specs.Scan.{Found, sign_or_stray, numeral_len, unescaped, with_front, escaped_byte, inside, quoted_word, front}
use Rattle.nb_lexer.proofs.Runs.{begins-append}
use Rattle.nb_lexer.proofs.Cases.{numeral_digit, numeral_passes, zero_is}
use Rattle.nb_lexer.proofs.Complete.{begins_digit, begins_other, numeral_stops, checked, number_is, text_is}

abbrev Fails : ℕ → List ℕ → LexError → Type 0
Fails at text e = front at text ≡ Err e

no_quote_byte : (b : ℕ) → b ≢ 34 → is_quote b ≡ false
no_quote_byte b h = go (is_quote b) refl
  where
    go : (q : Bool) → is_quote b ≡ q → q ≡ false
    go true e = absurd (h (grind (arith, nat_tests)))
    go false e = refl

stray_fails : (at : ℕ) (text : List ℕ) (place : ℕ) → IsStray at text place → Fails at text (BadCharacter place)
stray_fails at text place h =
    begins_other at text
    (ap (begins is_letter) h.text_is ∙ h.no_letter)
    (ap (begins is_digit) h.text_is ∙ h.no_digit)
    (ap (begins is_quote) h.text_is ∙ no_quote_byte h.first h.no_quote)
    ∙ ap (sign_or_stray at) h.no_sign
    ∙ ap (λ n. let r : Found Word = Err (BadCharacter n) in r) (sym h.place_is)

-- ---- numbers

pub or_right : (x y : Bool) → y ≡ true → (x || y) ≡ true
or_right true y e = refl
or_right false y e = e

-- a number that doesn't go on with this byte is 0, or the byte is no digit
stops_at : (digits : List ℕ) (next : ℕ) → is_numeral digits ≡ true → is_numeral (digits ++ next ∷ []) ≡ false → (bytes_eq digits (48 ∷ []) ≡ true) ⊎ (is_digit next ≡ false)
stops_at digits next e further =
    elim (or_cases (bytes_eq digits (48 ∷ [])) (begins is_first_digit digits && list_all is_digit digits) e) [
      | inl z ↦ inl z
      | inr d ↦ inr (go (is_digit next) refl (and_parts _ _ d).0 (and_parts _ _ d).1)
    ]
  where
    go : (b : Bool) → is_digit next ≡ b → begins is_first_digit digits ≡ true → list_all is_digit digits ≡ true → is_digit next ≡ false
    go false is first all = is
    go true is first all =
        let longer : List ℕ = digits ++ next ∷ [] in
        let begin : begins is_first_digit longer ≡ true = begins-append is_first_digit digits (next ∷ []) first in
        let last : list_all is_digit (next ∷ []) ≡ true = rw is in
        let every : list_all is_digit longer ≡ true = list_all-append is_digit digits (next ∷ []) ∙ and_from _ _ all last in
        let both : (begins is_first_digit longer && list_all is_digit longer) ≡ true = and_from _ _ begin every in
        absurd (false≢true (sym further ∙ or_right (bytes_eq longer (48 ∷ [])) _ both))

runs_on_fails : (at : ℕ) (text : List ℕ) (place : ℕ) → RunsOn at text place → Fails at text (BadCharacter place)
runs_on_fails at text place h =
    let fits : nat_lt (digits_value 10 h.digits) too_wide ≡ true = grind (arith, nat_tests) in
    let n = length h.digits in
    ap (front at) h.text_is
    ∙ number_is at h.digits (h.next ∷ h.more) h.numeral (numeral_stops h.digits (h.next ∷ h.more) h.numeral (stops_at h.digits h.next h.numeral h.no_further))
    ∙ ap (λ b. cond b (cond (is_in_name h.next) (Err (BadCharacter (at + n))) (Ok (word.Number (pos (digits_value 10 h.digits)), at + n))) (Err (TooWide at))) fits
    ∙ ap (λ b. cond b (Err (BadCharacter (at + n))) (Ok (word.Number (pos (digits_value 10 h.digits)), at + n))) h.next_is
    ∙ ap (λ m. let r : Found Word = Err (BadCharacter m) in r) (sym h.place_is)

-- a run goes on at least as far as all pass
run_least : (p : ℕ → Bool) (run text : List ℕ) → list_all p run ≡ true → length run ≤ prefix_len p (run ++ text)
run_least p [] text all = omega arith
run_least p (b ∷ run) text all =
    let parts = and_parts (p b) (list_all p run) all in
    let more = run_least p run text parts.1 in
    rw parts.0 (omega (arith, more))

wide_first : (digits : List ℕ) → is_numeral digits ≡ true → too_wide ≤ digits_value 10 digits → begins is_first_digit digits ≡ true
wide_first digits e wide =
    elim (or_cases (bytes_eq digits (48 ∷ [])) (begins is_first_digit digits && list_all is_digit digits) e) [
      | inl z ↦ let none : digits_value 10 digits ≡ 0 = ap (digits_value 10) (zero_is digits z) in absurd (omega arith)
      | inr d ↦ (and_parts _ _ d).0
    ]

wide_len : (digits more : List ℕ) → begins is_first_digit digits ≡ true → list_all is_digit digits ≡ true → length digits ≤ numeral_len (digits ++ more)
wide_len [] more first all = absurd (false≢true first)
wide_len (b ∷ digits) more first all = let some : (b == 48) ≡ false = grind (arith, nat_tests) in rw some (run_least is_digit (b ∷ digits) more all)

wide_digit : (text : List ℕ) (at place : ℕ) → IsWide at text place → begins is_digit text ≡ true
wide_digit text at place h = ap (begins is_digit) h.text_is ∙ begins-append is_digit h.digits h.more (numeral_digit h.digits h.numeral)

-- the whole number is too wide where the front of its digits is
wide_value : (text : List ℕ) (at place : ℕ) → IsWide at text place → too_wide ≤ digits_value 10 (take (numeral_len text) text)
wide_value text at place h = least (numeral_len text) long
  where
    long : length h.digits ≤ numeral_len text
    long = subst (λ t. length h.digits ≤ numeral_len t) (sym h.text_is) (wide_len h.digits h.more (wide_first h.digits h.numeral h.wide) (numeral_passes h.digits h.numeral))

    least : (n : ℕ) → length h.digits ≤ n → too_wide ≤ digits_value 10 (take n text)
    least n enough =
        let same : take (length h.digits) (take n text) ≡ h.digits = take-take (length h.digits) n text enough ∙ ap (take (length h.digits)) h.text_is ∙ take_at h.digits h.more (length h.digits) refl in
        let more : digits_value 10 h.digits ≤ digits_value 10 (take n text) =
        subst (λ ds. digits_value 10 ds ≤ digits_value 10 (take n text)) same (digits_value-take-le 10 (take n text) (length h.digits) (omega arith)) in
        let wide = h.wide in omega (arith, wide, more)

wide_checked : (at n value : ℕ) (more : Bool) → too_wide ≤ value → checked at n value more ≡ Err (TooWide at)
wide_checked at n value more wide =
    let no_fit : nat_lt value too_wide ≡ false = grind (arith, nat_tests) in
    ap (λ b. cond b (cond more (Err (BadCharacter (at + n))) (Ok (word.Number (pos value), at + n))) (Err (TooWide at))) no_fit

wide_fails : (at : ℕ) (text : List ℕ) (place : ℕ) → IsWide at text place → Fails at text (TooWide place)
wide_fails at text place h =
    begins_digit at text (wide_digit text at place h)
    ∙ wide_checked at (numeral_len text) (digits_value 10 (take (numeral_len text) text)) (begins is_in_name (drop (numeral_len text) text)) (wide_value text at place h)
    ∙ ap (λ m. let r : Found Word = Err (TooWide m) in r) (sym h.place_is)

-- ---- quoted texts

control_fails : (at : ℕ) (text : List ℕ) (place : ℕ) → IsControl at text place → Fails at text (BadCharacter place)
control_fails at text place h =
    let below = h.below in
    let quote : (h.control == 34) ≡ false = grind (arith, nat_tests) in
    let slash : (h.control == 92) ≡ false = grind (arith, nat_tests) in
    let low : nat_lt h.control 32 ≡ true = grind (arith, nat_tests) in
    let n = at + 1 + length (parts_text h.parts) in
    ap (front at) h.text_is ∙ text_is at h.parts (h.control ∷ h.more) ∙ rw (quote, slash, low) (ap (λ m. let r : Found Word = Err (BadCharacter m) in r) (sym h.place_is))

unescaped_none : (c : ℕ) → ((e : Escape) → c ≢ letter e) → unescaped c ≡ None
unescaped_none c h =
    let a = h quote in let b = h backslash in let d = h line_feed in let f = h carriage_return in let g = h tab in
    go (c == 34) refl (c == 92) refl (c == 110) refl (c == 114) refl (c == 116) refl
  where
    go : (q : Bool) → (c == 34) ≡ q → (s : Bool) → (c == 92) ≡ s → (l : Bool) → (c == 110) ≡ l → (r : Bool) → (c == 114) ≡ r → (t : Bool) → (c == 116) ≡ t
        → cond {A = Option ℕ} q (Some 34) (cond s (Some 92) (cond l (Some 10) (cond r (Some 13) (cond t (Some 9) None)))) ≡ None
    go true e s f l g r i t j = absurd (h quote (grind (arith, nat_tests)))
    go false e true f l g r i t j = absurd (h backslash (grind (arith, nat_tests)))
    go false e false f true g r i t j = absurd (h line_feed (grind (arith, nat_tests)))
    go false e false f false g true i t j = absurd (h carriage_return (grind (arith, nat_tests)))
    go false e false f false g false i true j = absurd (h tab (grind (arith, nat_tests)))
    go false e false f false g false i false j = refl

no_escape_fails : (at : ℕ) (text : List ℕ) (place : ℕ) → IsNoEscape at text place → Fails at text (BadEscape place)
no_escape_fails at text place h =
    let n = at + 1 + length (parts_text h.parts) in
    ap (front at) h.text_is
    ∙ text_is at h.parts (92 ∷ h.next ∷ h.more)
    ∙ ap (λ o. quoted_word (with_front (parts_value h.parts) (escaped_byte o n (inside at false (n + 2) h.more)))) (unescaped_none h.next h.no_letter)
    ∙ ap (λ m. let r : Found Word = Err (BadEscape m) in r) (sym h.place_is)

open_fails : (at : ℕ) (text : List ℕ) (place : ℕ) → IsOpen at text place → Fails at text (OpenText place)
open_fails at text place h =
    let n = at + 1 + length (parts_text h.parts) in
    let place : Err (OpenText at) ≡ Err (OpenText place) = ap (λ m. let r : Found Word = Err (OpenText m) in r) (sym h.place_is) in
    ap (front at) h.text_is
    ∙ text_is at h.parts h.tail
    ∙ elim h.tail_is [
      | inl e ↦ ap (λ t. quoted_word (with_front (parts_value h.parts) (inside at false n t))) e ∙ place
      | inr e ↦ ap (λ t. quoted_word (with_front (parts_value h.parts) (inside at false n t))) e ∙ place
    ]

pub fault_fails : (at : ℕ) (text : List ℕ) (e : LexError) → FaultAt at text e → front at text ≡ Err e
fault_fails at text (BadCharacter place) (inl h) = stray_fails at text place h
fault_fails at text (BadCharacter place) (inr (inl h)) = runs_on_fails at text place h
fault_fails at text (BadCharacter place) (inr (inr h)) = control_fails at text place h
fault_fails at text (OpenText place) h = open_fails at text place h
fault_fails at text (BadEscape place) h = no_escape_fails at text place h
fault_fails at text (TooWide place) h = wide_fails at text place h
fault_fails at text Memory h = absurd h
