use Rattle.nb_lexer.proofs.FixedLemmas.{sign_found, sign_missing}
use Rattle.nb_lexer.proofs.lexer.sign_at.Goals as goal
use Rattle.nb_lexer.proofs.lexer.sign_at.Goals.{in-Some, in-None}

pub returns : goal.returns
returns c =
    elim c.match-sign.branch [
      | in-Some w ↦ let a = sign_found c.args.at _ c.args.text.now _ c.sign.result w.in-Some.is c.sign.ensures in rw w.result-is a
      | in-None w ↦ let a = sign_missing c.args.at c.args.text.now c.sign.result w.in-None.is c.sign.ensures in rw w.result-is a
    ]
