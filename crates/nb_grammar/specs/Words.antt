-- Which words are operators, and which names are functions.
use Rattle.std.specs.Prelude.{ℕ, List, [], ◌∷◌, Option, Some, None, find, bytes_eq}
use Rattle.nb_value.specs.Function.{function_name}
use Rattle.nb_value.specs.declared.function.Function.{Function}
use Rattle.nb_value.specs.declared.function.Function.TheVariants as f
use Rattle.nb_lexer.specs.declared.word.Word.{Word}
use Rattle.nb_lexer.specs.declared.word.Word.TheVariants as word
use Rattle.nb_syntax.specs.declared.tree.Sign.{Sign}
use Rattle.nb_syntax.specs.declared.tree.Sign.TheVariants as sign

abbrev pub unary_sign : Word → Option Sign
unary_sign word.Minus = Some sign.Minus
unary_sign word.Not = Some sign.Not
unary_sign _ = None

abbrev pub product_sign : Word → Option Sign
product_sign word.Times = Some sign.Times
product_sign word.Divide = Some sign.Divide
product_sign word.Remainder = Some sign.Remainder
product_sign _ = None

abbrev pub sum_sign : Word → Option Sign
sum_sign word.Plus = Some sign.Plus
sum_sign word.Minus = Some sign.Minus
sum_sign _ = None

abbrev pub compare_sign : Word → Option Sign
compare_sign word.Equal = Some sign.Equal
compare_sign word.NotEqual = Some sign.NotEqual
compare_sign word.Less = Some sign.Less
compare_sign word.LessOrEqual = Some sign.LessOrEqual
compare_sign word.Greater = Some sign.Greater
compare_sign word.GreaterOrEqual = Some sign.GreaterOrEqual
compare_sign _ = None

abbrev pub functions : List Function
functions =
    f.Len ∷ f.Sum ∷ f.Min ∷ f.Max ∷ f.Abs ∷ f.Range ∷ f.Slice ∷ f.Reverse ∷ f.Sort ∷ f.Keys ∷ f.Values ∷ f.Has ∷ f.Text ∷ f.Int ∷ f.Split
    ∷ f.Join ∷ []

-- the function of this name
unfoldable pub called : List ℕ → Option Function
called name = find (λ function. bytes_eq (function_name function) name) functions
