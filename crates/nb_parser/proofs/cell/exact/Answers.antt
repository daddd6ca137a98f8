-- What reading comes to is what the grammar says.
use Rattle.nb_grammar.proofs.Viable.{comes, gives_only}
use Rattle.nb_parser.proofs.cell.exact.Goals as goal

pub returns : goal.returns
returns c = record {
  gives = c.whole.ensures;
  comes = comes c.args.room c.args.words.now c.whole.result c.whole.ensures;
  only = gives_only c.args.room c.args.words.now c.whole.result c.whole.ensures;
}
