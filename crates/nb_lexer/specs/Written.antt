-- Words as they are written in a cell's printed text, each with one space before it or none.
use Rattle.std.specs.Prelude.{◌≡◌, ◌<◌, ℕ, pos, ◌==◌, Bool, true, false, not, ◌||◌, List, [], ◌∷◌, ◌++◌, codes, nat_lt, if◌then◌else◌}
use Rattle.std.specs.Fmt.{signed_decimal}
use Rattle.std.specs.List.{list_all, AllByRecursion}
use Rattle.nb_lexer.specs.declared.word.Word.{Word}
use Rattle.nb_lexer.specs.declared.word.Word.TheVariants as word
use Rattle.nb_lexer.specs.Words.{fixed_text}
use Rattle.nb_lexer.specs.Spelling.{is_name, too_wide, Ends}

-- exactly the quote, the backslash, line feed, carriage return and tab are escaped
abbrev pub escape : ℕ → List ℕ
escape c =
    if c == 34 then codes "\\\"" else
    if c == 92 then codes "\\\\" else
    if c == 10 then codes "\\n" else
    if c == 13 then codes "\\r" else
    if c == 9 then codes "\\t" else
    c ∷ []

abbrev pub escaped : List ℕ → List ℕ
escaped [] = []
escaped (c ∷ cs) = escape c ++ escaped cs

abbrev pub quoted_text : List ℕ → List ℕ
quoted_text t = codes "\"" ++ escaped t ++ codes "\""

abbrev pub word_text : Word → List ℕ
word_text (word.Name x) = x
word_text (word.Number n) = signed_decimal n
word_text (word.Quoted x) = quoted_text x
word_text w = fixed_text w

-- a byte of a quoted text: one from U+0020 on, or a line feed, a carriage return or a tab
abbrev pub is_quotable : ℕ → Bool
is_quotable b = not (nat_lt b 32) || (b == 10) || (b == 13) || (b == 9)

-- a word that a text can have
abbrev pub IsWritable : Word → Type 0
IsWritable (word.Name x) = is_name x ≡ true
IsWritable (word.Number n) = (k : ℕ) × (k < too_wide) × (n ≡ pos k)
IsWritable (word.Quoted x) = list_all is_quotable x ≡ true
IsWritable w = Unit {0}

-- a word, and whether a space stands before it
pub record Spaced : Type 0 where
  pub space : Bool
  pub word : Word

abbrev pub spaced_word : Spaced → Word
spaced_word s = s.word

abbrev pub spaced_text : List Spaced → List ℕ
spaced_text [] = []
spaced_text (s ∷ more) = (if s.space then codes " " else []) ++ word_text s.word ++ spaced_text more

-- a word without a space before it doesn't go on with the one before it
abbrev pub IsApart : Word → Spaced → Type 0
IsApart w s = s.space ≡ false → Ends w (word_text s.word)

abbrev pub AreApart : List Spaced → Type 0
AreApart [] = Unit {0}
AreApart (s ∷ []) = Unit {0}
AreApart (s ∷ t ∷ more) = IsApart s.word t × AreApart (t ∷ more)

abbrev pub AreWritable : List Spaced → Type 0
AreWritable ws = AllByRecursion (λ s. IsWritable s.word) ws
