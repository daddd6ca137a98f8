use Rattle.nb_parser.proofs.PrintedCell.{printed_parses}
use Rattle.nb_parser.proofs.laws.law_of_printing.Goals as goal

pub returns : goal.returns
returns c = printed_parses
