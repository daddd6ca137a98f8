-- What is found at the front is spelled there, and what is no word there is a fault.
use Rattle.std.proofs.Common.{◌≡◌, ◌≢◌, ◌≤◌, ◌<◌, ◌+◌, ◌&&◌, ◌||◌, ◌==◌, ◌⊎◌, inl, inr, ℕ, pos, Bool, true, false, cond, nat_lt, List, [], ◌∷◌, ◌++◌, length, take, drop, Option, Some, None, is_none, unwrap_or, Ok, Err, refl, sym, ap, subst, ◌∙◌, append_assoc, add-zero, length-append, arith}
use Rattle.std.proofs.lemmas.Bool.{and_from, and_right, false≢true}
use Rattle.std.proofs.lemmas.Bool.Decides.{nat_tests}
use Rattle.std.proofs.lemmas.List.{take-append-drop}
use Rattle.std.proofs.lemmas.List.Folds.{list_all-append, length-prefix_len}
use Rattle.std.specs.List.{prefix_len, list_all}
use Rattle.std.specs.Str.{bytes_eq}
use Rattle.std.specs.Str.Parse.{digits_value}
use Rattle.nb_lexer.specs.declared.word.Word.{Word}
use Rattle.nb_lexer.specs.declared.word.Word.TheVariants as word
use Rattle.nb_lexer.specs.declared.token.TokenKind.TheVariants as kind
use Rattle.nb_lexer.specs.declared.fault.LexError.TheVariants.{BadCharacter, OpenText, BadEscape, TooWide, Memory}
use Rattle.nb_lexer.specs.Characters.{is_digit, is_letter, is_in_name, is_quote, is_gap, begins}
use Rattle.nb_lexer.specs.Words.{fixed_text, keyword, sign, kind_of}
use Rattle.nb_lexer.specs.Spelling.{is_first_digit, is_numeral, is_name, too_wide, Escape, quote, backslash, line_feed, carriage_return, tab, letter, escaped, is_plain, Part, plain, escape, part_text, part_value, parts_text, parts_value, Spells, Ends}
use Rattle.nb_lexer.specs.Faults.{FaultAt}
use Rattle.nb_lexer.specs.Scan.{Found, name_at, sign_or_stray, numeral_len, number_at, unescaped, with_front, escaped_byte, inside, quoted_word, front}
use Rattle.nb_lexer.proofs.Runs.{run_passes, run_clear, run_begins, begins_never, begins_too, letter_in_name}
use Rattle.nb_lexer.proofs.FixedLemmas.{keyword_kind, keyword_text, keyword_spells, keyword_goes_on, sign_kind, sign_text, sign_spells}
use Rattle.nb_lexer.proofs.FaultLemmas.{or_right}
use Rattle.nb_lexer.proofs.Complete.{begins_letter, begins_digit, begins_quote, begins_other, checked, first_digit_nonzero}

-- this word is spelled at the front, up to the place end
pub record Spelled (at : ℕ) (text : List ℕ) (w : Word) (end : ℕ) : Type 0 where
  pub spelling : List ℕ
  pub behind : List ℕ
  pub text_is : text ≡ spelling ++ behind
  pub spells : Spells w spelling
  pub ends : Ends w behind
  pub end_is : end ≡ at + length spelling

-- what is found is spelled, and a fault is one
abbrev pub IsRight : ℕ → List ℕ → Found Word → Type 0
IsRight at text (Ok x) = Spelled at text x.0 x.1
IsRight at text (Err e) = FaultAt at text e

-- ---- names and keywords

keyword_ends : (w : Word) → kind_of w ≡ kind.Keyword → (text : List ℕ) → begins is_in_name text ≡ false → Ends w text
keyword_ends w k [] e = refl
keyword_ends w k (b ∷ text) e = keyword_goes_on w k b ∙ e

-- a run of letters and digits at the front
run_right : (at : ℕ) (text : List ℕ) (w : Word) → Spells w (take (prefix_len is_in_name text) text) → Ends w (drop (prefix_len is_in_name text) text)
    → Spelled at text w (at + prefix_len is_in_name text)
run_right at text w spells ends = record {
  spelling = take (prefix_len is_in_name text) text;
  behind = drop (prefix_len is_in_name text) text;
  text_is = sym (take-append-drop (prefix_len is_in_name text) text);
  spells = spells;
  ends = ends;
  end_is = ap (λ n. at + n) (sym (length-prefix_len is_in_name text));
}

name_is : (x : List ℕ) → begins is_letter x ≡ true → list_all is_in_name x ≡ true → keyword x ≡ None → is_name x ≡ true
name_is x first all none = and_from _ _ (and_from _ _ first all) (ap is_none none)

name_right : (at : ℕ) (text : List ℕ) → begins is_letter text ≡ true → Spelled at text (name_at at text).0 (name_at at text).1
name_right at text e = go (keyword (take (prefix_len is_in_name text) text)) refl
  where
    go : (o : Option Word) → keyword (take (prefix_len is_in_name text) text) ≡ o
        → Spelled at text (unwrap_or o (word.Name (take (prefix_len is_in_name text) text))) (at + prefix_len is_in_name text)
    go None is =
        let first = run_begins is_in_name is_letter text (begins_too is_letter is_in_name letter_in_name text e) e in
        run_right at text (word.Name (take (prefix_len is_in_name text) text)) (refl, name_is _ first (run_passes is_in_name text) is) (run_clear is_in_name text)
    go (Some w) is =
        let k = keyword_kind _ w is in
        run_right at text w (subst (Spells w) (sym (keyword_text _ w is)) (keyword_spells w k)) (keyword_ends w k _ (run_clear is_in_name text))

-- ---- numbers

-- the digits of the number at the front
pub record Digits (text : List ℕ) : Type 0 where
  pub digits : List ℕ
  pub behind : List ℕ
  pub text_is : text ≡ digits ++ behind
  pub take_is : take (numeral_len text) text ≡ digits
  pub drop_is : drop (numeral_len text) text ≡ behind
  pub len_is : numeral_len text ≡ length digits
  pub numeral : is_numeral digits ≡ true
  pub no_further : (next : ℕ) (more : List ℕ) → behind ≡ next ∷ more → is_numeral (digits ++ next ∷ []) ≡ false

nonzero_first : (b : ℕ) → is_digit b ≡ true → (b == 48) ≡ false → is_first_digit b ≡ true
nonzero_first b e f = grind (arith, nat_tests)

zero_first : (b : ℕ) → (b == 48) ≡ true → is_first_digit b ≡ false
zero_first b e = grind (arith, nat_tests)

-- a byte that is no digit goes on with no number
no_longer : (digits : List ℕ) (next : ℕ) → begins is_first_digit digits ≡ true → is_digit next ≡ false → is_numeral (digits ++ next ∷ []) ≡ false
no_longer [] next first e = absurd (false≢true first)
no_longer (b ∷ digits) next first e =
    let last : list_all is_digit ((b ∷ digits) ++ next ∷ []) ≡ false =
    list_all-append is_digit (b ∷ digits) (next ∷ []) ∙ and_right (list_all is_digit (b ∷ digits)) (list_all is_digit (next ∷ [])) (rw e) in
    ap (λ d. (d && bytes_eq (digits ++ next ∷ []) []) || (is_first_digit b && list_all is_digit ((b ∷ digits) ++ next ∷ []))) (first_digit_nonzero b first)
    ∙ and_right (is_first_digit b) (list_all is_digit ((b ∷ digits) ++ next ∷ [])) last

zero_digits : (b : ℕ) (text : List ℕ) → (b == 48) ≡ true → Digits (b ∷ text)
zero_digits b text z =
    let zero : b ≡ 48 = grind (arith, nat_tests) in
    let len : numeral_len (b ∷ text) ≡ 1 = rw z in record {
      digits = b ∷ [];
      behind = text;
      text_is = refl;
      take_is = ap (λ n. take n (b ∷ text)) len;
      drop_is = ap (λ n. drop n (b ∷ text)) len;
      len_is = len;
      numeral = ap (λ c. is_numeral (c ∷ [])) zero;
      no_further = λ next more is. rw (zero_first b z) (ap (λ c. bytes_eq (c ∷ next ∷ []) (48 ∷ []) || false) zero);
    }

run_digits : (b : ℕ) (text : List ℕ) → is_digit b ≡ true → (b == 48) ≡ false → Digits (b ∷ text)
run_digits b text e z =
    let whole : List ℕ = b ∷ text in
    let n : ℕ = prefix_len is_digit whole in
    let len : numeral_len whole ≡ n = ap (λ d. cond d 1 n) z in
    let all : list_all is_digit (take n whole) ≡ true = run_passes is_digit whole in
    let first : begins is_first_digit (take n whole) ≡ true = run_begins is_digit is_first_digit whole e (nonzero_first b e z) in record {
      digits = take n whole;
      behind = drop n whole;
      text_is = sym (take-append-drop n whole);
      take_is = ap (λ k. take k whole) len;
      drop_is = ap (λ k. drop k whole) len;
      len_is = len ∙ sym (length-prefix_len is_digit whole);
      numeral = or_right _ _ (and_from _ _ first all);
      no_further = λ next more is. no_longer (take n whole) next first (ap (begins is_digit) (sym is) ∙ run_clear is_digit whole);
    }

digits_of : (text : List ℕ) → begins is_digit text ≡ true → Digits text
digits_of [] e = absurd (false≢true e)
digits_of (b ∷ text) e = go (b == 48) refl
  where
    go : (z : Bool) → (b == 48) ≡ z → Digits (b ∷ text)
    go true z = zero_digits b text z
    go false z = run_digits b text e z

-- the first character of a text that begins with such a one
pub record First (p : ℕ → Bool) (text : List ℕ) : Type 0 where
  pub first : ℕ
  pub more : List ℕ
  pub text_is : text ≡ first ∷ more
  pub passes : p first ≡ true

first_of : (p : ℕ → Bool) (text : List ℕ) → begins p text ≡ true → First p text
first_of p [] e = absurd (false≢true e)
first_of p (b ∷ text) e = record { first = b; more = text; text_is = refl; passes = e }

number_right : (at : ℕ) (text : List ℕ) → begins is_digit text ≡ true → IsRight at text (number_at at text)
number_right at text e = go (digits_of text e)
  where
    fits_when : (n : ℕ) → nat_lt n too_wide ≡ true → n < too_wide
    fits_when n f = grind (arith, nat_tests)

    wide_when : (n : ℕ) → nat_lt n too_wide ≡ false → too_wide ≤ n
    wide_when n f = grind (arith, nat_tests)

    right : (d : Digits text) (f : Bool) → nat_lt (digits_value 10 d.digits) too_wide ≡ f → (m : Bool) → begins is_in_name d.behind ≡ m
        → IsRight at text (cond f (cond m (Err (BadCharacter (at + length d.digits))) (Ok (word.Number (pos (digits_value 10 d.digits)), at + length d.digits))) (Err (TooWide at)))
    right d true f true m =
        let b = first_of is_in_name d.behind m in
        inr (inl (record {
          digits = d.digits;
          next = b.first;
          more = b.more;
          text_is = d.text_is ∙ ap (λ t. d.digits ++ t) b.text_is;
          numeral = d.numeral;
          fits = fits_when _ f;
          next_is = b.passes;
          no_further = d.no_further b.first b.more b.text_is;
          place_is = refl;
        }))
    right d true f false m = record {
      spelling = d.digits;
      behind = d.behind;
      text_is = d.text_is;
      spells = record { numeral = d.numeral; value = refl; fits = fits_when _ f };
      ends = m;
      end_is = refl;
    }
    right d false f m n = record { digits = d.digits; more = d.behind; text_is = d.text_is; numeral = d.numeral; wide = wide_when _ f; place_is = refl }

    go : Digits text → IsRight at text (number_at at text)
    go d =
        let n = numeral_len text in
        let is : checked at n (digits_value 10 (take n text)) (begins is_in_name (drop n text)) ≡ checked at (length d.digits) (digits_value 10 d.digits) (begins is_in_name d.behind) =
        ap (λ ds. checked at n (digits_value 10 ds) (begins is_in_name (drop n text))) d.take_is
        ∙ ap (λ t. checked at n (digits_value 10 d.digits) (begins is_in_name t)) d.drop_is
        ∙ ap (λ k. checked at k (digits_value 10 d.digits) (begins is_in_name d.behind)) d.len_is in
        subst (IsRight at text) (sym is) (right d _ refl _ refl)

-- ---- quoted texts

-- some parts, and then the closing quote
pub record Closes (at : ℕ) (text x : List ℕ) (end : ℕ) : Type 0 where
  pub parts : List Part
  pub behind : List ℕ
  pub text_is : text ≡ parts_text parts ++ 34 ∷ behind
  pub value_is : parts_value parts ≡ x
  pub end_is : end ≡ at + length (parts_text parts) + 1

-- some parts, and then what goes no further
pub record Halts (at : ℕ) (text : List ℕ) (place : ℕ) (Bad : List ℕ → ℕ → ℕ → Type 0) : Type 0 where
  pub parts : List Part
  pub tail : List ℕ
  pub text_is : text ≡ parts_text parts ++ tail
  pub bad : Bad tail (at + length (parts_text parts)) place

abbrev EndsOpen : ℕ → List ℕ → ℕ → ℕ → Type 0
EndsOpen q tail here place = ((tail ≡ []) ⊎ (tail ≡ 92 ∷ [])) × (place ≡ q)

pub record BeginsControl (tail : List ℕ) (here place : ℕ) : Type 0 where
  pub control : ℕ
  pub more : List ℕ
  pub tail_is : tail ≡ control ∷ more
  pub below : control < 32
  pub place_is : place ≡ here

pub record BeginsNoEscape (tail : List ℕ) (here place : ℕ) : Type 0 where
  pub next : ℕ
  pub more : List ℕ
  pub tail_is : tail ≡ 92 ∷ next ∷ more
  pub no_letter : (e : Escape) → next ≢ letter e
  pub place_is : place ≡ here

abbrev IsInside : ℕ → ℕ → List ℕ → Found (List ℕ) → Type 0
IsInside q at text (Ok x) = Closes at text x.0 x.1
IsInside q at text (Err (BadCharacter place)) = Halts at text place BeginsControl
IsInside q at text (Err (OpenText place)) = Halts at text place (EndsOpen q)
IsInside q at text (Err (BadEscape place)) = Halts at text place BeginsNoEscape
IsInside q at text (Err (TooWide place)) = ⊥
IsInside q at text (Err Memory) = ⊥

-- with one part more in front
halts_behind : (at : ℕ) (text : List ℕ) (place : ℕ) (Bad : List ℕ → ℕ → ℕ → Type 0) (part : Part) → Halts (at + length (part_text part)) text place Bad → Halts at (part_text part ++ text) place Bad
halts_behind at text place Bad part h =
    let here : at + length (part_text part) + length (parts_text h.parts) ≡ at + length (parts_text (part ∷ h.parts)) = omega (arith, length-append (part_text part) (parts_text h.parts)) in record {
      parts = part ∷ h.parts;
      tail = h.tail;
      text_is = ap (λ t. part_text part ++ t) h.text_is ∙ sym (append_assoc (part_text part) (parts_text h.parts) h.tail);
      bad = subst (λ n. Bad h.tail n place) here h.bad;
    }

part_inside : (q at : ℕ) (text : List ℕ) (part : Part) (found : Found (List ℕ)) → IsInside q (at + length (part_text part)) text found
    → IsInside q at (part_text part ++ text) (with_front (part_value part ∷ []) found)
part_inside q at text part (Ok x) h =
    let len = length-append (part_text part) (parts_text h.parts) in record {
      parts = part ∷ h.parts;
      behind = h.behind;
      text_is = ap (λ t. part_text part ++ t) h.text_is ∙ sym (append_assoc (part_text part) (parts_text h.parts) (34 ∷ h.behind));
      value_is = ap (λ v. part_value part ∷ v) h.value_is;
      end_is = omega (arith, h.end_is, len);
    }
part_inside q at text part (Err (BadCharacter place)) h = halts_behind at text place BeginsControl part h
part_inside q at text part (Err (OpenText place)) h = halts_behind at text place (EndsOpen q) part h
part_inside q at text part (Err (BadEscape place)) h = halts_behind at text place BeginsNoEscape part h
part_inside q at text part (Err (TooWide place)) h = absurd h
part_inside q at text part (Err Memory) h = absurd h

-- an escape by its letter
abbrev HasEscape : ℕ → Option ℕ → Type 0
HasEscape c None = (e : Escape) → c ≢ letter e
HasEscape c (Some b) = (e : Escape) × (letter e ≡ c) × (escaped e ≡ b)

escape_is : (c : ℕ) → HasEscape c (unescaped c)
escape_is c = go (c == 34) refl (c == 92) refl (c == 110) refl (c == 114) refl (c == 116) refl
  where
    go : (q : Bool) → (c == 34) ≡ q → (s : Bool) → (c == 92) ≡ s → (l : Bool) → (c == 110) ≡ l → (r : Bool) → (c == 114) ≡ r → (t : Bool) → (c == 116) ≡ t
        → HasEscape c (cond {A = Option ℕ} q (Some 34) (cond s (Some 92) (cond l (Some 10) (cond r (Some 13) (cond t (Some 9) None)))))
    go true e s f l g r i t j = (quote, grind (arith, nat_tests), refl)
    go false e true f l g r i t j = (backslash, grind (arith, nat_tests), refl)
    go false e false f true g r i t j = (line_feed, grind (arith, nat_tests), refl)
    go false e false f false g true i t j = (carriage_return, grind (arith, nat_tests), refl)
    go false e false f false g false i true j = (tab, grind (arith, nat_tests), refl)
    go false e false f false g false i false j = none
      where
        none : (x : Escape) → c ≢ letter x
        none quote h = grind (arith, nat_tests)
        none backslash h = grind (arith, nat_tests)
        none line_feed h = grind (arith, nat_tests)
        none carriage_return h = grind (arith, nat_tests)
        none tab h = grind (arith, nat_tests)

-- behind a backslash
behind_inside : (q at c : ℕ) (text : List ℕ) (o : Option ℕ) → HasEscape c o → IsInside q (at + 2) text (inside q false (at + 2) text)
    → IsInside q at (92 ∷ c ∷ text) (escaped_byte o at (inside q false (at + 2) text))
behind_inside q at c text None h again = record {
  parts = [];
  tail = 92 ∷ c ∷ text;
  text_is = refl;
  bad = record { next = c; more = text; tail_is = refl; no_letter = h; place_is = sym (add-zero at) };
}
behind_inside q at c text (Some b) h again =
    let found = part_inside q at text (escape h.0) (inside q false (at + 2) text) again in
    let one = subst (λ l. IsInside q at (92 ∷ l ∷ text) (with_front (escaped h.0 ∷ []) (inside q false (at + 2) text))) h.1 found in
    subst (λ v. IsInside q at (92 ∷ c ∷ text) (with_front (v ∷ []) (inside q false (at + 2) text))) h.2 one

-- where it is no escape
plain_inside : (q at b : ℕ) (text : List ℕ) → IsInside q at (92 ∷ text) (inside q true at text) → IsInside q (at + 1) text (inside q false (at + 1) text)
    → IsInside q at (b ∷ text) (inside q false at (b ∷ text))
plain_inside q at b text behind again = go (b == 34) refl (b == 92) refl (nat_lt b 32) refl
  where
    go : (d : Bool) → (b == 34) ≡ d → (f : Bool) → (b == 92) ≡ f → (l : Bool) → nat_lt b 32 ≡ l
        → IsInside q at (b ∷ text) (cond d (Ok ([], at + 1)) (cond f (inside q true at text) (cond l (Err (BadCharacter at)) (with_front (b ∷ []) (inside q false (at + 1) text)))))
    go true e f g l h =
        let close : b ≡ 34 = grind (arith, nat_tests) in
        record { parts = []; behind = text; text_is = ap (λ c. c ∷ text) close; value_is = refl; end_is = omega arith }
    go false e true g l h =
        let slash : 92 ≡ b = grind (arith, nat_tests) in
        subst (λ c. IsInside q at (c ∷ text) (inside q true at text)) slash behind
    go false e false g true h =
        let low : b < 32 = grind (arith, nat_tests) in
        record { parts = []; tail = b ∷ text; text_is = refl; bad = record { control = b; more = text; tail_is = refl; below = low; place_is = sym (add-zero at) } }
    go false e false g false h =
        let ok : is_plain b ≡ true = rw (e, g, h) refl in
        part_inside q at text (plain b ok) (inside q false (at + 1) text) again

inside_right : (q : ℕ) (behind : Bool) (at : ℕ) (text : List ℕ) → IsInside q at (cond behind (92 ∷ text) text) (inside q behind at text)
inside_right q true at [] = record { parts = []; tail = 92 ∷ []; text_is = refl; bad = (inr refl, refl) }
inside_right q false at [] = record { parts = []; tail = []; text_is = refl; bad = (inl refl, refl) }
inside_right q true at (c ∷ text) = behind_inside q at c text (unescaped c) (escape_is c) (inside_right q false (at + 2) text)
inside_right q false at (b ∷ text) = plain_inside q at b text (inside_right q true at text) (inside_right q false (at + 1) text)

quoted_right : (at : ℕ) (text : List ℕ) (found : Found (List ℕ)) → IsInside at (at + 1) text found → IsRight at (34 ∷ text) (quoted_word found)
quoted_right at text (Ok x) h =
    let body : List ℕ = parts_text h.parts in
    let len = length-append body (34 ∷ []) in record {
      spelling = 34 ∷ body ++ 34 ∷ [];
      behind = h.behind;
      text_is = ap (λ t. 34 ∷ t) (h.text_is ∙ sym (append_assoc body (34 ∷ []) h.behind));
      spells = record { parts = h.parts; text_is = refl; value_is = h.value_is };
      ends = begins_never (λ b. false) (λ b. refl) h.behind;
      end_is = omega (arith, h.end_is, len);
    }
quoted_right at text (Err (BadCharacter place)) h = inr (inr (record {
  parts = h.parts;
  control = h.bad.control;
  more = h.bad.more;
  text_is = ap (λ t. 34 ∷ t) (h.text_is ∙ ap (λ t. parts_text h.parts ++ t) h.bad.tail_is);
  below = h.bad.below;
  place_is = h.bad.place_is;
}))
quoted_right at text (Err (OpenText place)) h = record {
  parts = h.parts;
  tail = h.tail;
  text_is = ap (λ t. 34 ∷ t) h.text_is;
  tail_is = h.bad.0;
  place_is = h.bad.1;
}
quoted_right at text (Err (BadEscape place)) h = record {
  parts = h.parts;
  next = h.bad.next;
  more = h.bad.more;
  text_is = ap (λ t. 34 ∷ t) (h.text_is ∙ ap (λ t. parts_text h.parts ++ t) h.bad.tail_is);
  no_letter = h.bad.no_letter;
  place_is = h.bad.place_is;
}
quoted_right at text (Err (TooWide place)) h = absurd h
quoted_right at text (Err Memory) h = absurd h

-- ---- signs

-- a sign that a longer one begins with isn't found where the longer one stands
equals_is : (b : ℕ) → (b == 61) ≡ true → b ≡ 61
equals_is b e = grind (arith, nat_tests)

no_equals : (b : ℕ) → (b ≡ 61 → ⊥) → (b == 61) ≡ false
no_equals b h = go (b == 61) refl
  where
    go : (d : Bool) → (b == 61) ≡ d → (b == 61) ≡ false
    go true e = absurd (h (equals_is b e))
    go false e = e

pub sign_ends : (w : Word) → kind_of w ≡ kind.Sign → (text : List ℕ) → sign (fixed_text w ++ text) ≡ Some w → Ends w text
unfolding sign
sign_ends word.Assign k [] e = refl
sign_ends word.Assign k (b ∷ text) e = no_equals b (λ is. let two : sign (fixed_text word.Assign ++ 61 ∷ text) ≡ Some word.Assign = subst (λ c. sign (fixed_text word.Assign ++ c ∷ text) ≡ Some word.Assign) is e in cc)
sign_ends word.Less k [] e = refl
sign_ends word.Less k (b ∷ text) e = no_equals b (λ is. let two : sign (fixed_text word.Less ++ 61 ∷ text) ≡ Some word.Less = subst (λ c. sign (fixed_text word.Less ++ c ∷ text) ≡ Some word.Less) is e in cc)
sign_ends word.Greater k [] e = refl
sign_ends word.Greater k (b ∷ text) e = no_equals b (λ is. let two : sign (fixed_text word.Greater ++ 61 ∷ text) ≡ Some word.Greater = subst (λ c. sign (fixed_text word.Greater ++ c ∷ text) ≡ Some word.Greater) is e in cc)
sign_ends word.Not k [] e = refl
sign_ends word.Not k (b ∷ text) e = no_equals b (λ is. let two : sign (fixed_text word.Not ++ 61 ∷ text) ≡ Some word.Not = subst (λ c. sign (fixed_text word.Not ++ c ∷ text) ≡ Some word.Not) is e in cc)
sign_ends word.Equal k text e = begins_never (λ b. false) (λ b. refl) text
sign_ends word.NotEqual k text e = begins_never (λ b. false) (λ b. refl) text
sign_ends word.LessOrEqual k text e = begins_never (λ b. false) (λ b. refl) text
sign_ends word.GreaterOrEqual k text e = begins_never (λ b. false) (λ b. refl) text
sign_ends word.And k text e = begins_never (λ b. false) (λ b. refl) text
sign_ends word.Or k text e = begins_never (λ b. false) (λ b. refl) text
sign_ends word.Plus k text e = begins_never (λ b. false) (λ b. refl) text
sign_ends word.Minus k text e = begins_never (λ b. false) (λ b. refl) text
sign_ends word.Times k text e = begins_never (λ b. false) (λ b. refl) text
sign_ends word.Divide k text e = begins_never (λ b. false) (λ b. refl) text
sign_ends word.Remainder k text e = begins_never (λ b. false) (λ b. refl) text
sign_ends word.OpenRound k text e = begins_never (λ b. false) (λ b. refl) text
sign_ends word.CloseRound k text e = begins_never (λ b. false) (λ b. refl) text
sign_ends word.OpenSquare k text e = begins_never (λ b. false) (λ b. refl) text
sign_ends word.CloseSquare k text e = begins_never (λ b. false) (λ b. refl) text
sign_ends word.OpenCurly k text e = begins_never (λ b. false) (λ b. refl) text
sign_ends word.CloseCurly k text e = begins_never (λ b. false) (λ b. refl) text
sign_ends word.Comma k text e = begins_never (λ b. false) (λ b. refl) text
sign_ends word.Colon k text e = begins_never (λ b. false) (λ b. refl) text
sign_ends word.Semicolon k text e = begins_never (λ b. false) (λ b. refl) text
sign_ends word.Dot k text e = begins_never (λ b. false) (λ b. refl) text
sign_ends word.Question k text e = begins_never (λ b. false) (λ b. refl) text
sign_ends _ k text e = cc

-- what begins no word but a sign
pub record IsStrayFirst (text : List ℕ) : Type 0 where
  pub first : ℕ
  pub more : List ℕ
  pub text_is : text ≡ first ∷ more
  pub no_gap : is_gap first ≡ false
  pub no_letter : is_letter first ≡ false
  pub no_digit : is_digit first ≡ false
  pub no_quote : first ≢ 34

no_quote_from : (b : ℕ) → is_quote b ≡ false → b ≢ 34
no_quote_from b e h = grind (arith, nat_tests)

quote_is : (b : ℕ) → is_quote b ≡ true → b ≡ 34
quote_is b e = grind (arith, nat_tests)

stray_first : (text : List ℕ) → begins is_gap text ≡ false → 0 < length text → begins is_letter text ≡ false → begins is_digit text ≡ false → begins is_quote text ≡ false
    → IsStrayFirst text
stray_first [] g some l d q = absurd (omega arith)
stray_first (b ∷ text) g some l d q = record { first = b; more = text; text_is = refl; no_gap = g; no_letter = l; no_digit = d; no_quote = no_quote_from b q }

sign_right : (at : ℕ) (text : List ℕ) → IsStrayFirst text → IsRight at text (sign_or_stray at (sign text))
sign_right at text stray = go (sign text) refl
  where
    go : (o : Option Word) → sign text ≡ o → IsRight at text (sign_or_stray at o)
    go None is = inl (record {
      first = stray.first;
      more = stray.more;
      text_is = stray.text_is;
      no_gap = stray.no_gap;
      no_letter = stray.no_letter;
      no_digit = stray.no_digit;
      no_quote = stray.no_quote;
      no_sign = is;
      place_is = refl;
    })
    go (Some w) is = record {
      spelling = fixed_text w;
      behind = drop (length (fixed_text w)) text;
      text_is = sign_text text w is;
      spells = sign_spells w (sign_kind text w is);
      ends = sign_ends w (sign_kind text w is) (drop (length (fixed_text w)) text) (ap sign (sym (sign_text text w is)) ∙ is);
      end_is = refl;
    }

-- ---- any word

pub front_right : (at : ℕ) (text : List ℕ) → begins is_gap text ≡ false → 0 < length text → IsRight at text (front at text)
front_right at text clear some = go (begins is_letter text) refl (begins is_digit text) refl (begins is_quote text) refl
  where
    go : (l : Bool) → begins is_letter text ≡ l → (d : Bool) → begins is_digit text ≡ d → (q : Bool) → begins is_quote text ≡ q → IsRight at text (front at text)
    go true e d f q g = subst (IsRight at text) (sym (begins_letter at text e)) (name_right at text e)
    go false e true f q g = subst (IsRight at text) (sym (begins_digit at text f)) (number_right at text f)
    go false e false f true g =
        let b = first_of is_quote text g in
        let quote : b.first ≡ 34 = quote_is b.first b.passes in
        let is : text ≡ 34 ∷ b.more = b.text_is ∙ ap (λ c. c ∷ b.more) quote in
        subst (IsRight at text) (sym (begins_quote at text g))
        (subst (λ t. IsRight at t (quoted_word (inside at false (at + 1) (drop 1 t)))) (sym is) (quoted_right at b.more _ (inside_right at false (at + 1) b.more)))
    go false e false f false g = subst (IsRight at text) (sym (begins_other at text e f g)) (sign_right at text (stray_first text clear some e f g))
