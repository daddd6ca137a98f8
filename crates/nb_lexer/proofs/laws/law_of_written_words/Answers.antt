use Rattle.nb_lexer.proofs.WrittenLemmas.{written_words}
use Rattle.nb_lexer.proofs.laws.law_of_written_words.Goals as goal

pub returns : goal.returns
returns c = written_words
