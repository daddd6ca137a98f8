-- The first gap, one token more, and the end.
use Rattle.std.proofs.Common.{subst, arith}
use Rattle.nb_lexer.specs.Lexes.{AreTokens}
use Rattle.nb_lexer.proofs.Reached.{reached_start, reached_more, reached_end}
use Rattle.nb_lexer.proofs.lexer.scan.Goals as goal

pub tokens-init : goal.tokens-init
tokens-init c = reached_start c.as_bytes-bytes.result.now c.new-found.result c.gap_len-at.result c.as_bytes-bytes.ensures.utf8 c.new-found.ensures c.gap_len-at.ensures

pub overflow_add-at : goal.overflow_add-at
overflow_add-at c =
    let next = reached_more c.as_bytes-bytes.result.now c.tokens.found c.push.new.self c.tokens.at c.gap_len.result c.split_at.result.1.now c.split_at-in-tokens.result.1.now c.in_ok-token.token
    c.tokens.invariant c.split_at.ensures.back c.in_ok-token.ensures.found c.in_ok-push.ensures.ok c.split_at-in-tokens.ensures.back c.gap_len.ensures in
    omega (arith, next.within)

pub tokens-preserved : goal.tokens-preserved
tokens-preserved c =
    reached_more c.as_bytes-bytes.result.now c.tokens.found c.push.new.self c.tokens.at c.gap_len.result c.split_at.result.1.now c.split_at-in-tokens.result.1.now c.in_ok-token.token
    c.tokens.invariant c.split_at.ensures.back c.in_ok-token.ensures.found c.in_ok-push.ensures.ok c.split_at-in-tokens.ensures.back c.gap_len.ensures

pub returns-clause-found : goal.returns-clause-found
returns-clause-found c =
    subst (λ t. AreTokens t c.tokens.found) c.as_bytes-bytes.ensures.value (reached_end c.as_bytes-bytes.result.now c.tokens.found c.tokens.at c.tokens.invariant c.tokens-test.false)
