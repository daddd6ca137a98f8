use Rattle.std.proofs.Common.{take}
use Rattle.nb_lexer.proofs.WordLemmas.{Worded}
use Rattle.nb_lexer.proofs.word_list.words.Given as goal

abbrev pub invariant-loop-token : goal.invariant-loop-token
invariant-loop-token l = Worded l.text (take l.token-index l.tokens) l.found
