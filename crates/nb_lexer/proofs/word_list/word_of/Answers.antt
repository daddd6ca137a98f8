-- A keyword and a sign, by the word that the token's part of the text spells.
use Rattle.std.proofs.Common.{◌∙◌}
use Rattle.nb_lexer.proofs.WordLemmas.{keyword_some, sign_some, keyword_spelled, sign_spelled}
use Rattle.nb_lexer.proofs.word_list.word_of.Goals as goal

pub unwrap-requires : goal.unwrap-requires
unwrap-requires c = keyword_some c.args.text.now _ c.args.token.now c.keyword.result c.requires c.in-Keyword.is (c.as_bytes.ensures.value ∙ c.range-spelling.ensures.value) c.keyword.ensures

pub unwrap-requires-in-Sign : goal.unwrap-requires-in-Sign
unwrap-requires-in-Sign c = sign_some c.args.text.now _ c.args.token.now c.sign.result c.requires c.in-Sign.is (c.as_bytes-in-Sign.ensures.value ∙ c.range-spelling.ensures.value) c.sign.ensures

pub returns-in-Keyword : goal.returns-in-Keyword
returns-in-Keyword c =
    keyword_spelled c.args.text.now _ c.args.token.now c.keyword.result c.unwrap.result c.requires c.in-Keyword.is (c.as_bytes.ensures.value ∙ c.range-spelling.ensures.value) c.keyword.ensures c.unwrap.ensures

pub returns-in-Sign : goal.returns-in-Sign
returns-in-Sign c =
    sign_spelled c.args.text.now _ c.args.token.now c.sign.result c.unwrap-in-Sign.result c.requires c.in-Sign.is (c.as_bytes-in-Sign.ensures.value ∙ c.range-spelling.ensures.value) c.sign.ensures c.unwrap-in-Sign.ensures
