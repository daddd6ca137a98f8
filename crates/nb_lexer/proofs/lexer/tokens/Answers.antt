-- What follows from the words found, or from the fault.
use Rattle.std.proofs.Common.{All}
use Rattle.nb_lexer.specs.Lexes.{AreTokens, IsSpan, InOrder}
use Rattle.nb_lexer.proofs.Same.{only_tokens, only_fault}
use Rattle.nb_lexer.proofs.Spans.{tokens_order, tokens_spans}
use Rattle.nb_lexer.proofs.WordLemmas.{if_ok}
use Rattle.nb_lexer.proofs.lexer.tokens.Goals as goal

pub returns-clause-spans : goal.returns-clause-spans
returns-clause-spans c = if_ok (AreTokens c.args.text.now) (All (IsSpan c.args.text.now)) c.scan.result (λ ts h. tokens_spans c.args.text.now ts c.utf8.text h) c.scan.ensures.found

pub returns-clause-order : goal.returns-clause-order
returns-clause-order c = if_ok (AreTokens c.args.text.now) (InOrder 0) c.scan.result (tokens_order c.args.text.now) c.scan.ensures.found

pub returns-clause-only : goal.returns-clause-only
returns-clause-only c = only_tokens c.args.text.now c.scan.result c.scan.ensures.found c.scan.ensures.fault

pub returns-clause-only_fault : goal.returns-clause-only_fault
returns-clause-only_fault c = only_fault c.args.text.now c.scan.result c.scan.ensures.found c.scan.ensures.fault
