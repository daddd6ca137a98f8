use Rattle.nb_parser.proofs.Places.{token_left}
use Rattle.nb_parser.proofs.parse.token_with.Goals as goal

pub returns : goal.returns
returns c = token_left c.args.tokens.now c.args.left c.index-tokens-tokens.result c.requires.some c.requires.within c.index-tokens-tokens.is
