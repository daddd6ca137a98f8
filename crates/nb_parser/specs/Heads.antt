-- What stands at the head of words.
use Rattle.std.specs.Prelude.{List, [], ◌∷◌, Option, Some, None}
use Rattle.std.specs.Option.{option_map}
use Rattle.nb_lexer.specs.declared.word.Word.{Word}
use Rattle.nb_lexer.specs.declared.word.Word.TheVariants as word
use Rattle.nb_syntax.specs.declared.tree.Sign.{Sign}

-- the operator at the head, and the words behind it
abbrev pub sign_at : (Word → Option Sign) → List Word → Option (Sign × List Word)
sign_at sign [] = None
sign_at sign (w ∷ ws) = option_map (λ s. (s, ws)) (sign w)

-- the words behind this one at the head
abbrev pub after_or : List Word → Option (List Word)
after_or (word.Or ∷ ws) = Some ws
after_or ws = None

abbrev pub after_and : List Word → Option (List Word)
after_and (word.And ∷ ws) = Some ws
after_and ws = None

abbrev pub after_comma : List Word → Option (List Word)
after_comma (word.Comma ∷ ws) = Some ws
after_comma ws = None
