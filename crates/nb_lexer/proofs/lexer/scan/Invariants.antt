use Rattle.std.proofs.Common.{◌-◌, length}
use Rattle.nb_lexer.proofs.Reached.{Reached}
use Rattle.nb_lexer.proofs.lexer.scan.Given as goal

abbrev pub invariant-tokens : goal.invariant-tokens
invariant-tokens l = Reached l.bytes l.found l.at

abbrev pub decreases-tokens : goal.decreases-tokens
decreases-tokens l = length l.bytes - l.at
