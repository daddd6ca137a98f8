-- One word more, and the end.
use Rattle.nb_lexer.proofs.WordLemmas.{item_span, item_worded, items_worded}
use Rattle.nb_lexer.proofs.word_list.words.Goals as goal

pub word_of-requires : goal.word_of-requires
word_of-requires c =
    item_span c.args.text.now c.args.tokens.now c.as_slice-token-items.result.now c.loop-token.token-index c.token-item.result c.utf8.text c.requires c.as_slice-token-items.ensures c.loop-token-test.true c.token-item.is

pub loop-token-preserved : goal.loop-token-preserved
loop-token-preserved c =
    item_worded c.args.text.now c.args.tokens.now c.as_slice-token-items.result.now c.loop-token.token-index c.token-item.result c.in_ok-word_of.field-0 c.loop-token.found c.push.new.self
    c.as_slice-token-items.ensures c.loop-token-test.true c.token-item.is c.loop-token.invariant c.in_ok-word_of.ensures c.in_ok-push.ensures.ok

pub returns : goal.returns
returns c =
    items_worded c.args.text.now c.args.tokens.now c.as_slice-token-items.result.now c.loop-token.token-index c.loop-token.found c.utf8.text c.requires c.as_slice-token-items.ensures c.loop-token-test.false c.loop-token.invariant
