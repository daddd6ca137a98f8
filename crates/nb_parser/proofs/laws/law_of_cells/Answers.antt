use Rattle.nb_parser.proofs.CellLaws.{cell_parses, parses_cell, one_cell, refused_never}
use Rattle.nb_parser.proofs.Places.{one_refusal}
use Rattle.nb_parser.proofs.Total.{has_answer}
use Rattle.nb_parser.proofs.laws.law_of_cells.Goals as goal

pub returns-clause-cell : goal.returns-clause-cell
returns-clause-cell c text cell = (cell_parses text cell, parses_cell text cell)

pub returns-clause-some : goal.returns-clause-some
returns-clause-some c = has_answer

pub returns-clause-one_cell : goal.returns-clause-one_cell
returns-clause-one_cell c = one_cell

pub returns-clause-one_refusal : goal.returns-clause-one_refusal
returns-clause-one_refusal c = one_refusal

pub returns-clause-never_both : goal.returns-clause-never_both
returns-clause-never_both c text cell e p f = refused_never text e cell f p
