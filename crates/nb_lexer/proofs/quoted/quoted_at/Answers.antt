use Rattle.nb_lexer.proofs.TextLemmas.{quoted_utf8}
use Rattle.nb_lexer.proofs.quoted.quoted_at.Goals as goal

pub text_of-requires : goal.text_of-requires
text_of-requires c = quoted_utf8 _ _ c.args.text.now _ _ _ c.requires.quote c.requires.utf8 c.split_at.ensures.back c.in_ok-value.ensures
