use Rattle.std.proofs.Common.{◌≡◌, ◌∙◌, true, rules}
use Rattle.nb_builtins.specs.Numerals.{is_numeral}
use Rattle.nb_builtins.proofs.NumeralLemmas.{parsed}
use Rattle.nb_builtins.proofs.numerals.spelled.Goals as goal

pub returns-then-is_numeral : goal.returns-then-is_numeral
returns-then-is_numeral c =
    let spells : is_numeral c.args.text.now ≡ true = search (rules, c.if-is_numeral.ensures) in
    c.ok.ensures.value ∙ parsed c.args.text.now c.parse.result c.parse.ensures.value.0 spells
