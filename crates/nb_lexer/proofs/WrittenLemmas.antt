-- Written words are read as these words.
use Rattle.std.proofs.Common.{◌≡◌, ◌<◌, ◌+◌, ◌^◌, ◌==◌, inl, inr, ℕ, pos, Bool, true, false, cond, nat_lt, List, [], ◌∷◌, ◌++◌, length, map, get_or, refl, sym, ap, subst, ◌∙◌, append_assoc, zero-add, length-append, arith}
use Rattle.std.proofs.lemmas.Bool.{and_parts, and_from, not-true, cases_lt}
use Rattle.std.proofs.lemmas.Bool.Decides.{nat_tests}
use Rattle.std.proofs.lemmas.Fmt.{decimal_is_IsNumeral, decimal_digit, first_decimal}
use Rattle.std.specs.Fmt.{decimal}
use Rattle.std.specs.List.{list_all}
use Rattle.std.specs.Str.{bytes_eq}
use Rattle.std.specs.Str.Parse.{digits_value}
use Rattle.nb_lexer.specs.declared.word.Word.{Word}
use Rattle.nb_lexer.specs.declared.word.Word.TheVariants as word
use Rattle.nb_lexer.specs.Characters.{is_digit, is_gap, begins}
use Rattle.nb_lexer.specs.Spelling.{is_first_digit, is_numeral, too_wide, SpellsNumber, is_plain, Escape, quote, backslash, line_feed, carriage_return, tab, Part, plain, escape, part_text, part_value, parts_text, parts_value, SpellsText, Spells, goes_on, Ends}
use Rattle.nb_lexer.specs.Lexes.{Placed, word_of, token_of, Skips, Takes, Leads, HasWords}
use Rattle.nb_lexer.specs.Written as w
use Rattle.nb_lexer.specs.Written.{escaped, word_text, is_quotable, IsWritable, Spaced, spaced_word, spaced_text, IsApart, AreApart, AreWritable}
use Rattle.nb_lexer.proofs.FaultLemmas.{or_right}
use Rattle.nb_lexer.proofs.NumberLemmas.{own}
use Rattle.nb_lexer.proofs.Spelled.{spelling_some}

-- ---- numbers

decimal_first : (n : ℕ) → 0 < n → n < 2 ^ 64 → (ds : List ℕ) → ds ≡ decimal n → list_all is_digit ds ≡ true → begins is_first_digit ds ≡ true
decimal_first n some small [] is all = let first = first_decimal n some small in let e : get_or (decimal n) 0 0 ≡ 0 = ap (λ ds. get_or ds 0 0) (sym is) in absurd (omega arith)
decimal_first n some small (b ∷ ds) is all =
    let first = first_decimal n some small in
    let e : get_or (decimal n) 0 0 ≡ b = ap (λ xs. get_or xs 0 0) (sym is) in
    let digit : is_digit b ≡ true = (and_parts (is_digit b) (list_all is_digit ds) all).0 in
    let low : 48 < b = omega arith in
    grind (arith, nat_tests)

decimal_numeral : (n : ℕ) → n < 2 ^ 64 → is_numeral (decimal n) ≡ true
decimal_numeral n small =
    let all : list_all is_digit (decimal n) ≡ true = own.from (decimal n) (decimal_is_IsNumeral n small).0.1 in
    elim (cases_lt 0 n) [
      | inl some ↦ or_right (bytes_eq (decimal n) (48 ∷ [])) _ (and_from _ _ (decimal_first n some small (decimal n) refl all) all)
      | inr none ↦ let is : n ≡ 0 = omega arith in ap (λ k. is_numeral (decimal k)) is ∙ ap is_numeral (decimal_digit 0 (omega arith))
    ]

number_spells : (k : ℕ) → k < too_wide → SpellsNumber (pos k) (decimal k)
number_spells k fits =
    let small : k < 2 ^ 64 = omega arith in
    let value = (decimal_is_IsNumeral k small).1 in record {
      numeral = decimal_numeral k small;
      value = ap pos (sym value);
      fits = subst (λ n. n < too_wide) (sym value) fits;
    }

-- ---- quoted texts

-- how one byte is written
pub record OneWritten (b : ℕ) : Type 0 where
  pub part : Part
  pub text_is : part_text part ≡ w.escape b
  pub value_is : part_value part ≡ b

one_written : (b : ℕ) → is_quotable b ≡ true → OneWritten b
one_written b ok = go (b == 34) refl (b == 92) refl (b == 10) refl (b == 13) refl (b == 9) refl
  where
    five : (e : Escape) → part_text (escape e) ≡ w.escape b → part_value (escape e) ≡ b → OneWritten b
    five e t v = record { part = escape e; text_is = t; value_is = v }

    go : (q : Bool) → (b == 34) ≡ q → (s : Bool) → (b == 92) ≡ s → (l : Bool) → (b == 10) ≡ l → (r : Bool) → (b == 13) ≡ r → (t : Bool) → (b == 9) ≡ t → OneWritten b
    go true e s f l g r h t k = let is : 34 ≡ b = grind (arith, nat_tests) in five quote (ap w.escape is) is
    go false e true f l g r h t k = let is : 92 ≡ b = grind (arith, nat_tests) in five backslash (ap w.escape is) is
    go false e false f true g r h t k = let is : 10 ≡ b = grind (arith, nat_tests) in five line_feed (ap w.escape is) is
    go false e false f false g true h t k = let is : 13 ≡ b = grind (arith, nat_tests) in five carriage_return (ap w.escape is) is
    go false e false f false g false h true k = let is : 9 ≡ b = grind (arith, nat_tests) in five tab (ap w.escape is) is
    go false e false f false g false h false k =
        let low : nat_lt b 32 ≡ false = grind (arith, nat_tests) in
        let fine : is_plain b ≡ true = rw (low, e, f) refl in record { part = plain b fine; text_is = rw (e, f, g, h, k) (refl {a = b ∷ []}); value_is = refl {a = b} }

-- how a text is written
pub record AllWritten (x : List ℕ) : Type 0 where
  pub parts : List Part
  pub text_is : parts_text parts ≡ escaped x
  pub value_is : parts_value parts ≡ x

all_written : (x : List ℕ) → list_all is_quotable x ≡ true → AllWritten x
all_written [] ok = record { parts = []; text_is = refl; value_is = refl }
all_written (b ∷ x) ok =
    let both = and_parts (is_quotable b) (list_all is_quotable x) ok in
    let one = one_written b both.0 in
    let more = all_written x both.1 in record {
      parts = one.part ∷ more.parts;
      text_is = ap (λ t. t ++ parts_text more.parts) one.text_is ∙ ap (λ t. w.escape b ++ t) more.text_is;
      value_is = ap (λ v. v ∷ parts_value more.parts) one.value_is ∙ ap (λ vs. b ∷ vs) more.value_is;
    }

quoted_spells : (x : List ℕ) → list_all is_quotable x ≡ true → SpellsText x (w.quoted_text x)
quoted_spells x ok =
    let all = all_written x ok in record {
      parts = all.parts;
      text_is = ap (λ t. 34 ∷ t ++ 34 ∷ []) (sym all.text_is);
      value_is = all.value_is;
    }

-- ---- any word

pub written_spells : (v : Word) → IsWritable v → Spells v (word_text v)
written_spells (word.Name x) ok = (refl, ok)
written_spells (word.Number n) ok = subst (λ z. SpellsNumber z (word_text (word.Number z))) (sym ok.2) (number_spells ok.0 ok.1)
written_spells (word.Quoted x) ok = quoted_spells x ok
written_spells _ ok = refl

part_quotable : (p : Part) → is_quotable (part_value p) ≡ true
part_quotable (plain b ok) = let low = (and_parts _ _ (and_parts _ _ ok).0).0 in rw (not-true (nat_lt b 32) low) refl
part_quotable (escape quote) = refl
part_quotable (escape backslash) = refl
part_quotable (escape line_feed) = refl
part_quotable (escape carriage_return) = refl
part_quotable (escape tab) = refl

parts_quotable : (ps : List Part) → list_all is_quotable (parts_value ps) ≡ true
parts_quotable [] = refl
parts_quotable (p ∷ ps) = and_from _ _ (part_quotable p) (parts_quotable ps)

-- each word that a text has is one of them
pub spells_writable : (v : Word) (s : List ℕ) → Spells v s → IsWritable v
spells_writable (word.Name x) s h = h.1
spells_writable (word.Number n) s h = (digits_value 10 s, h.fits, h.value)
spells_writable (word.Quoted x) s h = ap (list_all is_quotable) (sym h.value_is) ∙ parts_quotable h.parts
spells_writable _ s h = tt

-- ---- many words

-- no word goes on with a space
space_ends : (v : Word) (text : List ℕ) → Ends v (32 ∷ text)
space_ends (word.Name x) text = refl
space_ends (word.Number n) text = refl
space_ends (word.Quoted x) text = refl
space_ends _ text = refl

ends_front : (p : ℕ → Bool) (front text : List ℕ) → 0 < length front → begins p front ≡ false → begins p (front ++ text) ≡ false
ends_front p [] text some e = absurd (omega arith)
ends_front p (b ∷ front) text some e = e

spaced_ends : (v : Word) (ws : List Spaced) (s : Spaced) → AreApart (s ∷ ws) → AreWritable ws → Ends s.word (spaced_text ws)
spaced_ends v [] s apart ok = refl
spaced_ends v (t ∷ ws) s apart ok = go t.space refl
  where
    go : (b : Bool) → t.space ≡ b → Ends s.word (cond b (32 ∷ []) [] ++ word_text t.word ++ spaced_text ws)
    go true is = space_ends s.word (word_text t.word ++ spaced_text ws)
    go false is = ends_front (goes_on s.word) (word_text t.word) (spaced_text ws) (spelling_some t.word (word_text t.word) (written_spells t.word ok.0)) (apart.0 is)

pub record WrittenFrom (at : ℕ) (ws : List Spaced) : Type 0 where
  pub placed : List Placed
  pub leads : Leads at (spaced_text ws) placed (at + length (spaced_text ws)) []
  pub words_are : map word_of placed ≡ map spaced_word ws

written_from : (at : ℕ) (ws : List Spaced) → AreWritable ws → AreApart ws → WrittenFrom at ws
written_from at [] ok apart = record { placed = []; leads = record { gap = []; gap_is = refl; text_is = refl; stop_is = refl }; words_are = refl }
written_from at (s ∷ ws) ok apart =
    let gap : List ℕ = cond s.space (32 ∷ []) [] in
    let text : List ℕ = word_text s.word in
    let start : ℕ = at + length gap in
    let end : ℕ = start + length text in
    let rest = written_from end ws ok.1 (apart_more s ws apart) in
    let p : Placed = record { word = s.word; start = start; end = end } in
    let len : length (gap ++ text ++ spaced_text ws) ≡ length gap + length text + length (spaced_text ws) = omega (arith, length-append (gap ++ text) (spaced_text ws), length-append gap text) in
    let stop : end + length (spaced_text ws) ≡ at + length (spaced_text (s ∷ ws)) = omega arith in
    let skip : Skips at (spaced_text (s ∷ ws)) start (text ++ spaced_text ws) = record { gap = gap; gap_is = gap_passes s.space; text_is = append_assoc gap text (spaced_text ws); stop_is = refl } in
    let take : Takes p (text ++ spaced_text ws) (spaced_text ws) = record { spelling = text; spells = written_spells s.word ok.0; ends = spaced_ends s.word ws s apart ok.1; text_is = refl; end_is = refl } in record {
      placed = p ∷ rest.placed;
      leads = (text ++ spaced_text ws, spaced_text ws, skip, take, subst (λ n. Leads end (spaced_text ws) rest.placed n []) stop rest.leads);
      words_are = ap (λ vs. s.word ∷ vs) rest.words_are;
    }
  where
    apart_more : (s : Spaced) (ws : List Spaced) → AreApart (s ∷ ws) → AreApart ws
    apart_more s [] a = tt
    apart_more s (t ∷ ws) a = a.1

    gap_passes : (b : Bool) → list_all is_gap (cond b (32 ∷ []) []) ≡ true
    gap_passes true = refl
    gap_passes false = refl

pub written_words : (ws : List Spaced) → AreWritable ws → AreApart ws → HasWords (spaced_text ws) (map spaced_word ws)
written_words ws ok apart =
    let from = written_from 0 ws ok apart in (
      map token_of from.placed,
      record {
        placed = from.placed;
        lexes = subst (λ n. Leads 0 (spaced_text ws) from.placed n []) (zero-add (length (spaced_text ws))) from.leads;
        tokens_are = refl;
        words_are = from.words_are;
      },
    )
