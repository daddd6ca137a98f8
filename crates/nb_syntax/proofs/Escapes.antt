-- Escapes of one text after another, and of one character.
use Rattle.std.proofs.Common.{◌≡◌, ◌≢◌, ℕ, ◌≤◌, List, [], ◌∷◌, ◌++◌, refl, append_assoc, arith}
use Rattle.std.specs.Char.{encode_utf8}
use Rattle.std.proofs.lemmas.Bool.Decides.{nat_tests}
use Rattle.nb_syntax.specs.Print.{escape, escaped}

pub escaped-append : (xs ys : List ℕ) → escaped (xs ++ ys) ≡ escaped xs ++ escaped ys
escaped-append [] ys = refl
escaped-append (x ∷ xs) ys = rw (append_assoc, escaped-append xs ys)

-- a byte of a character that isn't ASCII
escape_high : (b : ℕ) → 128 ≤ b → escape b ≡ b ∷ []
escape_high b h = grind (arith, nat_tests)

-- another character than the escaped ones
pub escaped_char : (c : ℕ) → c ≢ 34 → c ≢ 92 → c ≢ 10 → c ≢ 13 → c ≢ 9 → escaped (encode_utf8 c) ≡ encode_utf8 c
unfolding encode_utf8
escaped_char c n34 n92 n10 n13 n9 = grind (arith, nat_tests, escape_high)
