-- The keywords and the signs, and what kind of token each word is.
use Rattle.std.specs.Prelude.{ℕ, nat_eq, List, [], ◌∷◌, codes, Option}
use Rattle.std.specs.List.{find, starts_with}
use Rattle.std.specs.Str.{bytes_eq}
use Rattle.nb_lexer.specs.declared.word.Word.{Word}
use Rattle.nb_lexer.specs.declared.word.Word.TheVariants as word
use Rattle.nb_lexer.specs.declared.token.TokenKind.{TokenKind}
use Rattle.nb_lexer.specs.declared.token.TokenKind.TheVariants as kind

-- the text of a keyword or a sign; other words have no text that is theirs alone
abbrev pub fixed_text : Word → List ℕ
fixed_text word.Let = codes "let"
fixed_text word.If = codes "if"
fixed_text word.Else = codes "else"
fixed_text word.While = codes "while"
fixed_text word.For = codes "for"
fixed_text word.Of = codes "of"
fixed_text word.Yield = codes "yield"
fixed_text word.Return = codes "return"
fixed_text word.Throw = codes "throw"
fixed_text word.Cleanup = codes "cleanup"
fixed_text word.Fetch = codes "fetch"
fixed_text word.True = codes "true"
fixed_text word.False = codes "false"
fixed_text word.Null = codes "null"
fixed_text word.Plus = codes "+"
fixed_text word.Minus = codes "-"
fixed_text word.Times = codes "*"
fixed_text word.Divide = codes "/"
fixed_text word.Remainder = codes "%"
fixed_text word.OpenRound = codes "("
fixed_text word.CloseRound = codes ")"
fixed_text word.OpenSquare = codes "["
fixed_text word.CloseSquare = codes "]"
fixed_text word.OpenCurly = codes "{"
fixed_text word.CloseCurly = codes "}"
fixed_text word.Comma = codes ","
fixed_text word.Colon = codes ":"
fixed_text word.Semicolon = codes ";"
fixed_text word.Dot = codes "."
fixed_text word.Assign = codes "="
fixed_text word.Equal = codes "=="
fixed_text word.NotEqual = codes "!="
fixed_text word.Less = codes "<"
fixed_text word.LessOrEqual = codes "<="
fixed_text word.Greater = codes ">"
fixed_text word.GreaterOrEqual = codes ">="
fixed_text word.And = codes "&&"
fixed_text word.Or = codes "||"
fixed_text word.Not = codes "!"
fixed_text word.Question = codes "?"
fixed_text _ = []

abbrev pub keywords : List Word
keywords =
    word.Let ∷ word.If ∷ word.Else ∷ word.While ∷ word.For ∷ word.Of ∷ word.Yield
    ∷ word.Return ∷ word.Throw ∷ word.Cleanup ∷ word.Fetch ∷ word.True ∷ word.False ∷ word.Null ∷ []

-- the longer ones first
abbrev pub signs : List Word
signs =
    word.Equal ∷ word.NotEqual ∷ word.LessOrEqual ∷ word.GreaterOrEqual ∷ word.And ∷ word.Or
    ∷ word.Plus ∷ word.Minus ∷ word.Times ∷ word.Divide ∷ word.Remainder ∷ word.OpenRound ∷ word.CloseRound
    ∷ word.OpenSquare ∷ word.CloseSquare ∷ word.OpenCurly ∷ word.CloseCurly ∷ word.Comma ∷ word.Colon ∷ word.Semicolon
    ∷ word.Dot ∷ word.Assign ∷ word.Less ∷ word.Greater ∷ word.Not ∷ word.Question ∷ []

-- the keyword that these bytes spell
unfoldable pub keyword : List ℕ → Option Word
keyword s = find (λ w. bytes_eq s (fixed_text w)) keywords

-- the longest sign at the front
unfoldable pub sign : List ℕ → Option Word
sign text = find (λ w. starts_with nat_eq text (fixed_text w)) signs

abbrev pub kind_of : Word → TokenKind
kind_of (word.Name x) = kind.Name
kind_of (word.Number n) = kind.Number n
kind_of (word.Quoted x) = kind.Quoted x
kind_of word.Let = kind.Keyword
kind_of word.If = kind.Keyword
kind_of word.Else = kind.Keyword
kind_of word.While = kind.Keyword
kind_of word.For = kind.Keyword
kind_of word.Of = kind.Keyword
kind_of word.Yield = kind.Keyword
kind_of word.Return = kind.Keyword
kind_of word.Throw = kind.Keyword
kind_of word.Cleanup = kind.Keyword
kind_of word.Fetch = kind.Keyword
kind_of word.True = kind.Keyword
kind_of word.False = kind.Keyword
kind_of word.Null = kind.Keyword
kind_of _ = kind.Sign
