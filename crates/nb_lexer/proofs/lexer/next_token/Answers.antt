use Rattle.nb_lexer.specs.Scan.{FaultsAt}
use Rattle.nb_lexer.proofs.TokenLemmas.{token_stands, token_faults, handed}
use Rattle.nb_lexer.proofs.lexer.next_token.Goals as goal

pub returns-clause-found : goal.returns-clause-found
returns-clause-found c = token_stands c.args.at c.args.text.now c.in_ok-kind.kind c.in_ok-kind.end c.requires.utf8 c.requires.some c.requires.clear c.in_ok-kind.ensures

pub returns-in_err-kind-clause-fault : goal.returns-in_err-kind-clause-fault
returns-in_err-kind-clause-fault c =
    handed (FaultsAt c.args.at c.args.text.now) c.from_residual.result c.in_err-kind.field-0.0 c.from_residual.ensures.1
    (token_faults c.args.at c.args.text.now c.in_err-kind.field-0.0 c.requires.some c.requires.clear c.in_err-kind.ensures)
