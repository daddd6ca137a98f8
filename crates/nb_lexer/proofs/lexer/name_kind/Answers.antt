use Rattle.std.proofs.Common.{sym, ◌∙◌}
use Rattle.nb_lexer.proofs.FixedLemmas.{name_kind_some, name_kind_none}
use Rattle.nb_lexer.proofs.lexer.name_kind.Goals as goal
use Rattle.nb_lexer.proofs.lexer.name_kind.Goals.{in-Some, in-None}

pub returns : goal.returns
returns c =
    elim c.match-keyword.branch [
      | in-Some w ↦ w.result-is ∙ sym (name_kind_some c.args.name.now w.in-Some.field-0 (sym c.keyword.ensures ∙ w.in-Some.is))
      | in-None w ↦ w.result-is ∙ sym (name_kind_none c.args.name.now (sym c.keyword.ensures ∙ w.in-None.is))
    ]
