use Rattle.std.proofs.Common.{arith}
use Rattle.std.proofs.lemmas.List.Sums.{prefix_len-le-length}
use Rattle.nb_lexer.specs.Characters.{is_in_name}
use Rattle.nb_lexer.proofs.lexer.name_at.Goals as goal

pub split_at-requires : goal.split_at-requires
split_at-requires c = omega (arith, c.name_len-len.ensures, prefix_len-le-length is_in_name c.args.text.now)
