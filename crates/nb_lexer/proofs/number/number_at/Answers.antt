use Rattle.std.proofs.Common.{take, ap, ◌∙◌}
use Rattle.std.specs.List.{list_all}
use Rattle.nb_lexer.specs.Characters.{is_digit}
use Rattle.nb_lexer.proofs.NumberLemmas.{numeral_digits}
use Rattle.nb_lexer.proofs.number.number_at.Goals as goal

pub value_of-requires-clause-all : goal.value_of-requires-clause-all
value_of-requires-clause-all c =
    ap (list_all is_digit) (c.split_at.ensures.front ∙ ap (λ n. take n c.args.text.now) c.numeral_len-len.ensures.value)
    ∙ numeral_digits c.args.text.now c.requires.digit
