use Rattle.std.proofs.Common.{◌≡◌, ◌∙◌, ap, true, arith, rules}
use Rattle.nb_cli.specs.Command.{is_number, within}
use Rattle.nb_cli.proofs.NumberLemmas.{number_read}
use Rattle.nb_cli.proofs.number.number.Goals as goal

pub returns-then-is_number : goal.returns-then-is_number
returns-then-is_number c =
    let is : is_number c.args.text.now ≡ true = search (rules, c.if-is_number.ensures) in
    c.within.ensures ∙ ap (within c.args.least c.args.most) c.ok.ensures.value
    ∙ number_read c.args.least c.args.most c.args.text.now c.parse.result c.parse.ensures.value.0 is (omega (arith, c.ranges.most.fits))
