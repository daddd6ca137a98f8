use Rattle.std.proofs.Common.{◌∙◌}
use Rattle.nb_lexer.proofs.NumberLemmas.{digits_utf8, value_parsed}
use Rattle.nb_lexer.proofs.number.value_of.Goals as goal

pub returns-in-Ok : goal.returns-in-Ok
returns-in-Ok c =
    c.ok.ensures.value ∙ value_parsed c.args.digits.now c.in-Ok.text.now c.parse.result c.in-Ok.ensures.cases.0 c.requires.all c.requires.some c.parse.ensures.value.0

pub returns-in-Err : goal.returns-in-Err
returns-in-Err c = absurd (c.in-Err.ensures.cases.0 (digits_utf8 c.args.digits.now c.requires.all))
