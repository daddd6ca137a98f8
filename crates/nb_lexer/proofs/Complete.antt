-- What is spelled at the front is found there.
use Rattle.std.proofs.Common.{◌≡◌, ◌+◌, ◌&&◌, ◌==◌, ◌⊎◌, inl, inr, ℕ, ℤ, pos, Bool, true, false, cond, not, nat_lt, nat_eq, List, [], ◌∷◌, ◌++◌, length, take, drop, Option, Some, None, is_none, unwrap_or, Ok, Err, refl, sym, ap, subst, ◌∙◌, append_assoc, append-nil, length-append, add-zero, arith}
use Rattle.std.proofs.lemmas.Bool.{and_parts, or_cases, false≢true, not-true}
use Rattle.std.proofs.lemmas.Bool.Decides.{nat_tests}
use Rattle.std.proofs.lemmas.List.{take_at, drop_at}
use Rattle.std.specs.List.{prefix_len, list_all}
use Rattle.std.specs.Str.{bytes_eq}
use Rattle.std.specs.Str.Parse.{digits_value}
use Rattle.nb_lexer.specs.declared.word.Word.{Word}
use Rattle.nb_lexer.specs.declared.word.Word.TheVariants as word
use Rattle.nb_lexer.specs.declared.token.TokenKind.TheVariants as kind
use Rattle.nb_lexer.specs.declared.fault.LexError.TheVariants.{BadCharacter, TooWide}
use Rattle.nb_lexer.specs.Characters.{is_digit, is_letter, is_in_name, is_quote, begins}
use Rattle.nb_lexer.specs.Words.{fixed_text, keyword, sign, kind_of}
use Rattle.nb_lexer.specs.Spelling.{is_first_digit, is_numeral, is_name, too_wide, SpellsNumber, Escape, quote, backslash, line_feed, carriage_return, tab, escaped, Part, plain, escape, part_text, part_value, parts_text, parts_value, SpellsText, Spells, Ends}
use Rattle.nb_lexer.specs.Scan.{Found, name_word, name_at, sign_or_stray, numeral_len, number_at, with_front, inside, quoted_word, front}
use Rattle.nb_lexer.proofs.Runs.{run_stops, begins-append, begins_not, digit_no_letter, quote_no_letter, quote_no_digit, digit_in_name}
use Rattle.nb_lexer.proofs.FixedLemmas.{keyword_of, keyword_goes_on}
use Rattle.nb_lexer.proofs.Cases.{Case, a_name, a_number, a_text, a_keyword, a_sign, case_of, name_letter, name_passes, numeral_digit, zero_is, keyword_letter, keyword_passes, sign_begins}

-- ---- which of the four it is

pub begins_letter : (at : ℕ) (text : List ℕ) → begins is_letter text ≡ true → front at text ≡ Ok (name_at at text)
unfolding front
begins_letter at text e = rw e

pub begins_digit : (at : ℕ) (text : List ℕ) → begins is_digit text ≡ true → front at text ≡ number_at at text
unfolding front
begins_digit at text e = let l : begins is_letter text ≡ false = begins_not is_digit is_letter digit_no_letter text e in rw (l, e)

pub begins_quote : (at : ℕ) (text : List ℕ) → begins is_quote text ≡ true → front at text ≡ quoted_word (inside at false (at + 1) (drop 1 text))
unfolding front
begins_quote at text e =
    let l : begins is_letter text ≡ false = begins_not is_quote is_letter quote_no_letter text e in
    let d : begins is_digit text ≡ false = begins_not is_quote is_digit quote_no_digit text e in rw (l, d, e)

pub begins_other : (at : ℕ) (text : List ℕ) → begins is_letter text ≡ false → begins is_digit text ≡ false → begins is_quote text ≡ false → front at text ≡ sign_or_stray at (sign text)
unfolding front
begins_other at text l d q = rw (l, d, q)

-- ---- names and keywords

none_is : (o : Option Word) → is_none o ≡ true → o ≡ None
none_is None e = refl
none_is (Some w) e = absurd (false≢true e)

name_no_keyword : (x : List ℕ) → is_name x ≡ true → keyword x ≡ None
name_no_keyword x e = none_is (keyword x) (and_parts (begins is_letter x && list_all is_in_name x) (is_none (keyword x)) e).1

run_complete : (at : ℕ) (run text : List ℕ) → begins is_letter run ≡ true → list_all is_in_name run ≡ true → begins is_in_name text ≡ false
    → front at (run ++ text) ≡ Ok (name_word run, at + length run)
run_complete at run text first all stop =
    let n = prefix_len is_in_name (run ++ text) in
    let len : n ≡ length run = run_stops is_in_name run text all stop in
    let name : take n (run ++ text) ≡ run = take_at run text n (sym len) in
    begins_letter at (run ++ text) (begins-append is_letter run text first)
    ∙ ap (λ x. let r : Found Word = Ok (name_word x, at + n) in r) name
    ∙ ap (λ k. let r : Found Word = Ok (name_word run, at + k) in r) len

name_complete : (at : ℕ) (x text : List ℕ) → is_name x ≡ true → Ends (word.Name x) text → front at (x ++ text) ≡ Ok (word.Name x, at + length x)
name_complete at x text e stop =
    run_complete at x text (name_letter x e) (name_passes x e) stop
    ∙ ap (λ o. let r : Found Word = Ok (unwrap_or o (word.Name x), at + length x) in r) (name_no_keyword x e)

keyword_stop : (w : Word) → kind_of w ≡ kind.Keyword → (text : List ℕ) → Ends w text → begins is_in_name text ≡ false
keyword_stop w k [] e = refl
keyword_stop w k (b ∷ text) e = sym (keyword_goes_on w k b) ∙ e

keyword_complete : (at : ℕ) (w : Word) (text : List ℕ) → kind_of w ≡ kind.Keyword → Ends w text → front at (fixed_text w ++ text) ≡ Ok (w, at + length (fixed_text w))
keyword_complete at w text k stop =
    run_complete at (fixed_text w) text (keyword_letter w k) (keyword_passes w k) (keyword_stop w k text stop)
    ∙ ap (λ o. let r : Found Word = Ok (unwrap_or o (word.Name (fixed_text w)), at + length (fixed_text w)) in r) (keyword_of w k)

-- ---- numbers

pub first_digit_nonzero : (b : ℕ) → is_first_digit b ≡ true → (b == 48) ≡ false
first_digit_nonzero b e = grind (arith, nat_tests)

no_digit_either : (text : List ℕ) → begins is_in_name text ≡ false → begins is_digit text ≡ false
no_digit_either [] e = refl
no_digit_either (b ∷ text) e = go (is_digit b) refl
  where
    go : (d : Bool) → is_digit b ≡ d → is_digit b ≡ false
    go true is = absurd (false≢true (sym e ∙ digit_in_name b is))
    go false is = is

-- how many digits a number has, where no digit follows it that it goes on with
pub numeral_stops : (s text : List ℕ) → is_numeral s ≡ true → (bytes_eq s (48 ∷ []) ≡ true) ⊎ (begins is_digit text ≡ false) → numeral_len (s ++ text) ≡ length s
numeral_stops [] text e stop = absurd (false≢true e)
numeral_stops (b ∷ s) text e stop =
    elim (or_cases (bytes_eq (b ∷ s) (48 ∷ [])) (is_first_digit b && list_all is_digit (b ∷ s)) e) [
      | inl z ↦ alone z
      | inr d ↦ elim stop [ inl z ↦ alone z | inr clear ↦ more (and_parts _ _ d).0 (and_parts _ _ d).1 clear ]
    ]
  where
    alone : bytes_eq (b ∷ s) (48 ∷ []) ≡ true → numeral_len ((b ∷ s) ++ text) ≡ length (b ∷ s)
    alone z =
        let same : b ∷ s ≡ 48 ∷ [] = zero_is (b ∷ s) z in
        ap (λ d. numeral_len (d ++ text)) same ∙ ap length (sym same)

    more : is_first_digit b ≡ true → list_all is_digit (b ∷ s) ≡ true → begins is_digit text ≡ false → numeral_len ((b ∷ s) ++ text) ≡ length (b ∷ s)
    more first all clear =
        ap (λ d. cond d 1 (prefix_len is_digit ((b ∷ s) ++ text))) (first_digit_nonzero b first) ∙ run_stops is_digit (b ∷ s) text all clear

abbrev pub checked : ℕ → ℕ → ℕ → Bool → Found Word
checked at n value more = cond (nat_lt value too_wide) (cond more (Err (BadCharacter (at + n))) (Ok (word.Number (pos value), at + n))) (Err (TooWide at))

pub number_is : (at : ℕ) (s text : List ℕ) → is_numeral s ≡ true → numeral_len (s ++ text) ≡ length s
    → front at (s ++ text) ≡ checked at (length s) (digits_value 10 s) (begins is_in_name text)
number_is at s text e len =
    let n = numeral_len (s ++ text) in
    let digits : take n (s ++ text) ≡ s = take_at s text n (sym len) in
    let behind : drop n (s ++ text) ≡ text = drop_at s text n (sym len) in
    begins_digit at (s ++ text) (begins-append is_digit s text (numeral_digit s e))
    ∙ ap (λ ds. checked at n (digits_value 10 ds) (begins is_in_name (drop n (s ++ text)))) digits
    ∙ ap (λ t. checked at n (digits_value 10 s) (begins is_in_name t)) behind
    ∙ ap (λ k. checked at k (digits_value 10 s) (begins is_in_name text)) len

number_complete : (at : ℕ) (n : ℤ) (s text : List ℕ) → SpellsNumber n s → Ends (word.Number n) text → front at (s ++ text) ≡ Ok (word.Number n, at + length s)
number_complete at n s text h stop =
    let fits : nat_lt (digits_value 10 s) too_wide ≡ true = grind (arith, nat_tests) in
    number_is at s text h.numeral (numeral_stops s text h.numeral (inr (no_digit_either text stop)))
    ∙ ap (λ b. cond b (cond (begins is_in_name text) (Err (BadCharacter (at + length s))) (Ok (word.Number (pos (digits_value 10 s)), at + length s))) (Err (TooWide at))) fits
    ∙ ap (λ b. cond b (Err (BadCharacter (at + length s))) (Ok (word.Number (pos (digits_value 10 s)), at + length s))) stop
    ∙ ap (λ z. let r : Found Word = Ok (word.Number z, at + length s) in r) (sym h.value)

-- ---- quoted texts

-- a part found is put in front of what is found behind it
part_complete : (q at : ℕ) (part : Part) (text : List ℕ) → inside q false at (part_text part ++ text) ≡ with_front (part_value part ∷ []) (inside q false (at + length (part_text part)) text)
part_complete q at (plain b ok) text =
    let parts = and_parts (not (nat_lt b 32) && not (b == 34)) (not (b == 92)) ok in
    let low = and_parts (not (nat_lt b 32)) (not (b == 34)) parts.0 in
    let quote : (b == 34) ≡ false = not-true (b == 34) low.1 in
    let slash : (b == 92) ≡ false = not-true (b == 92) parts.1 in
    let control : nat_lt b 32 ≡ false = not-true (nat_lt b 32) low.0 in
    rw (quote, slash, control)
part_complete q at (escape e) text = go e
  where
    go : (e : Escape) → inside q false at (part_text (escape e) ++ text) ≡ with_front (escaped e ∷ []) (inside q false (at + 2) text)
    go quote = refl
    go backslash = refl
    go line_feed = refl
    go carriage_return = refl
    go tab = refl

with_front-append : (xs ys : List ℕ) (found : Found (List ℕ)) → with_front (xs ++ ys) found ≡ with_front xs (with_front ys found)
with_front-append xs ys (Ok x) = ap (λ zs. let f : Found (List ℕ) = Ok (zs, x.1) in f) (append_assoc xs ys x.0)
with_front-append xs ys (Err e) = refl

with_front-nil : (found : Found (List ℕ)) → with_front [] found ≡ found
with_front-nil (Ok x) = refl
with_front-nil (Err e) = refl

pub parts_complete : (q at : ℕ) (parts : List Part) (text : List ℕ)
    → inside q false at (parts_text parts ++ text) ≡ with_front (parts_value parts) (inside q false (at + length (parts_text parts)) text)
parts_complete q at [] text = sym (with_front-nil (inside q false at text)) ∙ ap (λ n. with_front [] (inside q false n text)) (sym (add-zero at))
parts_complete q at (part ∷ parts) text =
    let place : at + length (part_text part) + length (parts_text parts) ≡ at + length (parts_text (part ∷ parts)) = omega (arith, length-append (part_text part) (parts_text parts)) in
    ap (inside q false at) (append_assoc (part_text part) (parts_text parts) text)
    ∙ part_complete q at part (parts_text parts ++ text)
    ∙ ap (with_front (part_value part ∷ [])) (parts_complete q (at + length (part_text part)) parts text)
    ∙ sym (with_front-append (part_value part ∷ []) (parts_value parts) (inside q false (at + length (part_text part) + length (parts_text parts)) text))
    ∙ ap (λ n. with_front (parts_value (part ∷ parts)) (inside q false n text)) place

-- what comes behind the quote and some parts
pub text_is : (at : ℕ) (parts : List Part) (text : List ℕ)
    → front at (34 ∷ parts_text parts ++ text) ≡ quoted_word (with_front (parts_value parts) (inside at false (at + 1 + length (parts_text parts)) text))
text_is at parts text = begins_quote at (34 ∷ parts_text parts ++ text) refl ∙ ap quoted_word (parts_complete at (at + 1) parts text)

text_complete : (at : ℕ) (x s text : List ℕ) → SpellsText x s → front at (s ++ text) ≡ Ok (word.Quoted x, at + length s)
text_complete at x s text h =
    let body : List ℕ = parts_text h.parts in
    let whole : s ++ text ≡ 34 ∷ body ++ 34 ∷ text = ap (λ t. t ++ text) h.text_is ∙ ap (λ t. 34 ∷ t) (append_assoc body (34 ∷ []) text) in
    let len : length s ≡ 1 + length body + 1 = omega (arith, ap length h.text_is, length-append body (34 ∷ [])) in
    let place : at + 1 + length body + 1 ≡ at + length s = omega arith in
    ap (front at) whole
    ∙ text_is at h.parts (34 ∷ text)
    ∙ ap (λ v. let r : Found Word = Ok (word.Quoted v, at + 1 + length body + 1) in r) (append-nil (parts_value h.parts) ∙ h.value_is)
    ∙ ap (λ n. let r : Found Word = Ok (word.Quoted x, n) in r) place

-- ---- signs

not_equals : (b : ℕ) → (b == 61) ≡ false → nat_eq 61 b ≡ false
not_equals b e = grind (arith, nat_tests)

pub sign_of : (w : Word) → kind_of w ≡ kind.Sign → (text : List ℕ) → Ends w text → sign (fixed_text w ++ text) ≡ Some w
unfolding sign
sign_of word.Assign k [] e = refl
sign_of word.Assign k (b ∷ text) e = rw (not_equals b e)
sign_of word.Less k [] e = refl
sign_of word.Less k (b ∷ text) e = rw (not_equals b e)
sign_of word.Greater k [] e = refl
sign_of word.Greater k (b ∷ text) e = rw (not_equals b e)
sign_of word.Not k [] e = refl
sign_of word.Not k (b ∷ text) e = rw (not_equals b e)
sign_of word.Equal k text e = refl
sign_of word.NotEqual k text e = refl
sign_of word.LessOrEqual k text e = refl
sign_of word.GreaterOrEqual k text e = refl
sign_of word.And k text e = refl
sign_of word.Or k text e = refl
sign_of word.Plus k text e = refl
sign_of word.Minus k text e = refl
sign_of word.Times k text e = refl
sign_of word.Divide k text e = refl
sign_of word.Remainder k text e = refl
sign_of word.OpenRound k text e = refl
sign_of word.CloseRound k text e = refl
sign_of word.OpenSquare k text e = refl
sign_of word.CloseSquare k text e = refl
sign_of word.OpenCurly k text e = refl
sign_of word.CloseCurly k text e = refl
sign_of word.Comma k text e = refl
sign_of word.Colon k text e = refl
sign_of word.Semicolon k text e = refl
sign_of word.Dot k text e = refl
sign_of word.Question k text e = refl
sign_of _ k text e = cc

sign_complete : (at : ℕ) (w : Word) (text : List ℕ) → kind_of w ≡ kind.Sign → Ends w text → front at (fixed_text w ++ text) ≡ Ok (w, at + length (fixed_text w))
sign_complete at w text k stop =
    let b = sign_begins w k text in
    begins_other at (fixed_text w ++ text) b.no_letter b.no_digit b.no_quote ∙ ap (sign_or_stray at) (sign_of w k text stop)

-- ---- any word

pub front_complete : (at : ℕ) (w : Word) (s text : List ℕ) → Spells w s → Ends w text → front at (s ++ text) ≡ Ok (w, at + length s)
front_complete at w s text h stop = go (case_of w s h)
  where
    fixed : s ≡ fixed_text w → front at (fixed_text w ++ text) ≡ Ok (w, at + length (fixed_text w)) → front at (s ++ text) ≡ Ok (w, at + length s)
    fixed same found = ap (λ t. front at (t ++ text)) same ∙ found ∙ ap (λ t. let r : Found Word = Ok (w, at + length t) in r) (sym same)

    go : Case w s → front at (s ++ text) ≡ Ok (w, at + length s)
    go (a_name x is same e) =
        ap (λ t. front at (t ++ text)) same ∙ name_complete at x text e (subst (λ v. Ends v text) is stop)
        ∙ ap (λ t. let r : Found Word = Ok (word.Name x, at + length t) in r) (sym same)
        ∙ ap (λ v. let r : Found Word = Ok (v, at + length s) in r) (sym is)
    go (a_number n is e) = number_complete at n s text e (subst (λ v. Ends v text) is stop) ∙ ap (λ v. let r : Found Word = Ok (v, at + length s) in r) (sym is)
    go (a_text x is e) = text_complete at x s text e ∙ ap (λ v. let r : Found Word = Ok (v, at + length s) in r) (sym is)
    go (a_keyword k same) = fixed same (keyword_complete at w text k stop)
    go (a_sign k same) = fixed same (sign_complete at w text k stop)
