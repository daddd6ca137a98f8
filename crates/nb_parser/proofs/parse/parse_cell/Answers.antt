-- What follows from the cell that was read, or from the refusal.
use Rattle.nb_parser.proofs.CellLaws.{answer_cell, answer_none, answer_only}
use Rattle.nb_parser.proofs.Places.{answer_only_refused}
use Rattle.nb_parser.proofs.parse.parse_cell.Goals as goal

pub returns-clause-cell : goal.returns-clause-cell
returns-clause-cell c = answer_cell c.args.text.now c.read.result c.read.ensures.parses

pub returns-clause-none : goal.returns-clause-none
returns-clause-none c = answer_none c.args.text.now c.read.result c.read.ensures.refused

pub returns-clause-only : goal.returns-clause-only
returns-clause-only c = answer_only c.args.text.now c.read.result c.read.ensures.parses c.read.ensures.refused

pub returns-clause-only_refused : goal.returns-clause-only_refused
returns-clause-only_refused c = answer_only_refused c.args.text.now c.read.result c.read.ensures.parses c.read.ensures.refused
