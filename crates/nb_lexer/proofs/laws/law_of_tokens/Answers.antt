use Rattle.nb_lexer.proofs.Same.{one_reading, one_fault, tokens_or_fault}
use Rattle.nb_lexer.proofs.Total.{has_answer}
use Rattle.nb_lexer.proofs.laws.law_of_tokens.Goals as goal

pub returns-clause-some : goal.returns-clause-some
returns-clause-some c = has_answer

pub returns-clause-one : goal.returns-clause-one
returns-clause-one c = one_reading

pub returns-clause-one_fault : goal.returns-clause-one_fault
returns-clause-one_fault c = one_fault

pub returns-clause-never_both : goal.returns-clause-never_both
returns-clause-never_both c = tokens_or_fault
