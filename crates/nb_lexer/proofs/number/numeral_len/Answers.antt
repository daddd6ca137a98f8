use Rattle.std.proofs.Common.{arith}
use Rattle.std.proofs.lemmas.List.Sums.{prefix_len-le-length}
use Rattle.nb_lexer.specs.Characters.{is_digit}
use Rattle.nb_lexer.proofs.number.numeral_len.Goals as goal

pub returns-else-eq-clause-within : goal.returns-else-eq-clause-within
returns-else-eq-clause-within c = omega (arith, c.digits_len.ensures, prefix_len-le-length is_digit c.args.text.now)
