-- What holds of every word's spelling.
use Rattle.std.proofs.Common.{◌≡◌, ◌<◌, ℕ, Bool, true, false, List, [], ◌∷◌, ◌++◌, length, ap, subst, ◌∙◌, append_assoc, length-append, arith}
use Rattle.std.proofs.lemmas.Bool.{false≢true}
use Rattle.std.proofs.lemmas.Bool.Decides.{nat_tests}
use Rattle.std.specs.List.{list_all}
use Rattle.std.specs.Str.{IsUtf8}
use Rattle.nb_lexer.specs.declared.word.Word.{Word}
use Rattle.nb_lexer.specs.Characters.{is_digit, is_letter, is_in_name, is_gap, begins}
use Rattle.nb_lexer.specs.Words.{fixed_text}
use Rattle.nb_lexer.specs.Spelling.{parts_text, Spells}
use Rattle.nb_lexer.proofs.Runs.{digit_ascii, in_name_ascii, letter_no_gap, digit_no_gap, begins-append, begins_not, utf8_behind, utf8_behind_run}
use Rattle.nb_lexer.proofs.Cases.{Case, a_name, a_number, a_text, a_keyword, a_sign, case_of, name_letter, name_passes, numeral_digit, numeral_passes, keyword_letter, keyword_passes, is_low, sign_begins, sign_low}

some_from : (p : ℕ → Bool) (s : List ℕ) → begins p s ≡ true → 0 < length s
some_from p [] e = absurd (false≢true e)
some_from p (b ∷ s) e = omega arith

clear_from : (p : ℕ → Bool) → ((b : ℕ) → p b ≡ true → is_gap b ≡ false) → (s text : List ℕ) → begins p s ≡ true → begins is_gap (s ++ text) ≡ false
clear_from p never s text e = begins_not p is_gap never (s ++ text) (begins-append p s text e)

-- ---- it isn't empty

pub spelling_some : (w : Word) (s : List ℕ) → Spells w s → 0 < length s
spelling_some w s h = go (case_of w s h)
  where
    go : Case w s → 0 < length s
    go (a_name x is same e) = some_from is_letter s (ap (begins is_letter) same ∙ name_letter x e)
    go (a_number n is e) = some_from is_digit s (numeral_digit s e.numeral)
    go (a_text x is e) = omega (arith, ap length e.text_is)
    go (a_keyword k same) = some_from is_letter s (ap (begins is_letter) same ∙ keyword_letter w k)
    go (a_sign k same) = omega (arith, (sign_begins w k []).some, length-append (fixed_text w) [], ap length same)

-- ---- it begins with no gap

pub spelling_clear : (w : Word) (s text : List ℕ) → Spells w s → begins is_gap (s ++ text) ≡ false
spelling_clear w s text h = go (case_of w s h)
  where
    go : Case w s → begins is_gap (s ++ text) ≡ false
    go (a_name x is same e) = clear_from is_letter letter_no_gap s text (ap (begins is_letter) same ∙ name_letter x e)
    go (a_number n is e) = clear_from is_digit digit_no_gap s text (numeral_digit s e.numeral)
    go (a_text x is e) = ap (λ t. begins is_gap (t ++ text)) e.text_is
    go (a_keyword k same) = clear_from is_letter letter_no_gap s text (ap (begins is_letter) same ∙ keyword_letter w k)
    go (a_sign k same) = ap (λ t. begins is_gap (t ++ text)) same ∙ (sign_begins w k text).no_gap

-- ---- a text may be cut behind it

low_ascii : (b : ℕ) → is_low b ≡ true → b < 128
low_ascii b e = grind (arith, nat_tests)

pub spelling_cut : (w : Word) (s text : List ℕ) → Spells w s → IsUtf8 (s ++ text) → IsUtf8 text
spelling_cut w s text h u = go (case_of w s h)
  where
    go : Case w s → IsUtf8 text
    go (a_name x is same e) = utf8_behind_run is_in_name in_name_ascii s text (ap (list_all is_in_name) same ∙ name_passes x e) u
    go (a_number n is e) = utf8_behind_run is_digit digit_ascii s text (numeral_passes s e.numeral) u
    go (a_text x is e) =
        let front : List ℕ = 34 ∷ parts_text e.parts in
        let whole : s ++ text ≡ front ++ 34 ∷ text = ap (λ t. t ++ text) e.text_is ∙ append_assoc front (34 ∷ []) text in
        let quote : 34 < 128 = omega arith in
        utf8_behind front 34 text quote (subst IsUtf8 whole u)
    go (a_keyword k same) = utf8_behind_run is_in_name in_name_ascii s text (ap (list_all is_in_name) same ∙ keyword_passes w k) u
    go (a_sign k same) = utf8_behind_run is_low low_ascii s text (ap (list_all is_low) same ∙ sign_low w k) u
